-- How a series ends, from the moment before to the moment after. No public clause speaks of this.
use Rattle.std.specs.Prelude.{◌≡◌, ◌↔◌, ℕ, List, length, take, count_by, IsTrue, IfErr, OnOk}
use Rattle.std.specs.Prelude.{Result, Err}
use Rattle.sgm_list.specs.Entries.{EntryNames}
use Rattle.sgm_stages.specs.Verdict.{Verdict}
use Rattle.sgm_series.specs.Counted.{EntryCounts, SeriesCounts}
use Rattle.sgm_series.specs.Ends.{HadTurns, SeriesOut, SeriesShownBy, SeriesUntouched}
use Rattle.sgm_series.specs.Moments.{SeriesMoment}
use Rattle.sgm_series.specs.Plans.{AreVerdicts, Plan, SeriesCallsFor, entries_in, is_refused}
use Rattle.sgm_series.specs.Plans.{verdicts_of}
use Rattle.sgm_series.specs.Received.{IsWhole, Received}
use Rattle.sgm_series.specs.Stands.{EntriesEnd, IsEntryOutcome, SeriesPut, end_of}
use Rattle.sgm_series.specs.Turns.{lines_for}
use Rattle.sgm_series.specs.Unfinished.{SeriesFinished, SeriesUnfinished}
use Rattle.sgm_series.specs.Words.{list_of, series_words}
use Rattle.sgm_series.specs.declared.outcome.SeriesOutcome.{SeriesOutcome}
use Rattle.sgm_series.specs.declared.outcome.SeriesOutcome.TheVariants.{Usage}
use Rattle.sgm_series.specs.declared.words.SeriesUsage.{SeriesUsage}

-- so many entries with these verdicts had their turns
pub record TurnsHad (outcome : SeriesOutcome) (verdicts : List Verdict)
    (before now : SeriesMoment) : Type 0 where
  pub turns : ℕ
  pub had : HadTurns outcome (length verdicts) turns
  -- what is held
  pub files : SeriesPut outcome turns verdicts before.run.held now.run.held
  -- what `out` and `err` have received
  pub out : IsTrue before.run.out_tells
      → SeriesOut outcome turns verdicts before.run.written now.run.written
  pub lines : IsTrue before.err_tells
      → Received now.tally.whole (lines_for (take turns verdicts)) before.lines now.lines

-- what `out` and `err` have received whatever was called for
pub record StreamsStand (outcome : SeriesOutcome) (before now : SeriesMoment) : Type 0 where
  pub untouched : IsTrue before.run.out_tells
      → SeriesUntouched outcome before.run.written now.run.written
  pub lines : IsTrue before.err_tells
      → (lines : List ℕ) × Received now.tally.whole lines before.lines now.lines
  pub whole : IsWhole now.tally.whole before.err_faults now.err_faults

-- what follows where these are the verdicts of the entries
pub record VerdictsEnd {T : Type 0} (verdicts : List Verdict) (result : Result T SeriesOutcome)
    (before now : SeriesMoment) : Type 0 where
  -- the verdicts show why the entries ended so
  pub cause : EntriesEnd verdicts result
  -- how many are refused is counted
  pub refused : OnOk result (now.tally.refused ≡ count_by is_refused verdicts)
  -- what stands
  pub had : TurnsHad (end_of result) verdicts before now
  pub finished : SeriesFinished (end_of result) verdicts now.run.unfinished

-- the end of the turns of all entries
pub record AllEnd {T : Type 0} (entries : List EntryNames) (result : Result T SeriesOutcome)
    (before now : SeriesMoment) : Type 0 where
  -- what the entries' verdicts say, where the shelf tells what it holds
  pub called : IsTrue before.run.tells → (verdicts : List Verdict)
      → AreVerdicts entries before.run.held verdicts → VerdictsEnd verdicts result before now
  -- one that ends the series at an entry
  pub kind : IfErr result IsEntryOutcome
  -- which names are begun and not finished
  pub unfinished : SeriesUnfinished entries (end_of result) before.run.unfinished
      now.run.unfinished
  pub streams : StreamsStand (end_of result) before now
  -- the counts of faults show the rest of the cause
  pub counts : (list : List ℕ) → SeriesCounts list (end_of result) before.run.faults now.run.faults
  pub entry_counts : EntryCounts entries (end_of result) before.run.faults now.run.faults

-- what follows where this plan is called for
pub record PlanEnds (plan : Plan) (outcome : SeriesOutcome) (before now : SeriesMoment)
    : Type 0 where
  -- the plan shows why the series ended so
  pub cause : SeriesShownBy plan outcome
  -- what stands
  pub had : TurnsHad outcome (verdicts_of plan) before now
  pub unfinished : SeriesUnfinished (entries_in plan) outcome before.run.unfinished
      now.run.unfinished
  pub finished : SeriesFinished outcome (verdicts_of plan) now.run.unfinished
  -- the counts of faults show the rest of the cause
  pub counts : EntryCounts (entries_in plan) outcome before.run.faults now.run.faults

-- the end of a series over the words, before the line of its outcome
pub record SeriesEnds (words : List (List ℕ)) (outcome : SeriesOutcome)
    (before now : SeriesMoment) : Type 0 where
  -- what a plan that is called for says, where the shelf tells what it holds
  pub called : IsTrue before.run.tells → (plan : Plan)
      → SeriesCallsFor words before.run.held plan → PlanEnds plan outcome before now
  pub streams : StreamsStand outcome before now
  -- the counts of faults show the rest of the cause
  pub counts : SeriesCounts (list_of words) outcome before.run.faults now.run.faults
  -- a fault of the words is the outcome exactly where the words have it
  pub usage : (fault : SeriesUsage)
      → (outcome ≡ Usage fault) ↔ (series_words words ≡ Err fault)
