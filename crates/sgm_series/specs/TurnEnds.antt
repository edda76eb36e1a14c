-- How turns end, from the moment before to the moment after. No public clause speaks of this.
use Rattle.std.specs.Prelude.{◌≡◌, ◌+◌, ◌≤◌, List, length, count_by, IsTrue, IfOk, Result}
use Rattle.sgm_list.specs.Entries.{EntryNames}
use Rattle.sgm_stages.specs.Deliver.{FilesPut}
use Rattle.sgm_stages.specs.Ends.{CountsShow, OutStands}
use Rattle.sgm_stages.specs.Unfinished.{AreFinished, UnfinishedStands}
use Rattle.sgm_stages.specs.Verdict.{Verdict, outputs_of}
use Rattle.sgm_stages.specs.declared.made.MadeTexts.{MadeTexts}
use Rattle.sgm_stages.specs.declared.stops.TextsError.{TextsError}
use Rattle.sgm_stages.specs.declared.stops.WriteStop.{WriteStop}
use Rattle.sgm_series.specs.Answers.{Answers, AreAnswered}
use Rattle.sgm_series.specs.Moments.{SeriesMoment}
use Rattle.sgm_series.specs.Plans.{is_refused, names_for}
use Rattle.sgm_series.specs.Received.{ReceivesMore, StaysWhole}
use Rattle.sgm_series.specs.Turned.{FilesTurned, OutTurned, TurnShown, TurnsCounts, TurnsShown}
use Rattle.sgm_series.specs.Turned.{UnfinishedTurned, WritingTurned, turn_end, turn_line}
use Rattle.sgm_series.specs.Turned.{turn_refused, turned}
use Rattle.sgm_series.specs.Turns.{files_for, lines_for}
use Rattle.sgm_series.specs.declared.turns.TurnsStop.{TurnsStop}

-- what follows of a turn where the entry's verdict is this one
pub record VerdictTurned {T : Type 0} (v : Verdict) (result : Result T WriteStop)
    (before now : SeriesMoment) : Type 0 where
  -- the verdict shows how the turn ended
  pub shown : IsTrue before.run.tells → TurnShown v result
  -- its files are put, so far as the turn came, and each is finished at its end
  pub files : IsTrue before.run.tells → FilesPut (turn_end result) v before.run.held now.run.held
  pub finished : IfOk result (λ done. AreFinished (outputs_of v) now.run.unfinished)
  -- `out` has received its summary, so far as the turn came
  pub out : IsTrue before.run.out_tells
      → OutStands (turn_end result) v before.run.written now.run.written
  -- a refused entry is counted, and `err` has received its line
  pub refused : now.tally.refused ≡ before.tally.refused + turn_refused v result
  pub lines : IsTrue before.err_tells
      → ReceivesMore before.tally.whole now.tally.whole (turn_line v result) before.lines now.lines

-- the end of the turn of an entry with this answer
pub record TurnEnds {T : Type 0} (entry : EntryNames) (answer : Result MadeTexts TextsError)
    (result : Result T WriteStop) (before now : SeriesMoment) : Type 0 where
  -- what the entry's verdict says
  pub called : (v : Verdict) → Answers entry.out v answer → VerdictTurned v result before now
  -- which name is being written, and which are begun and not finished
  pub writing : WritingTurned result before.run.writing now.run.writing
  pub unfinished : UnfinishedStands (names_for entry) (turn_end result) before.run.unfinished
      now.run.unfinished
  -- the counts of faults show the rest of the cause
  pub counts : CountsShow (names_for entry) (turn_end result) before.run.faults now.run.faults
  -- at most one entry more is refused
  pub at_most : now.tally.refused ≤ before.tally.refused + 1
  -- whether `err` has taken every line, its count shows
  pub whole : StaysWhole before.tally.whole now.tally.whole before.err_faults now.err_faults
  pub err_faults : before.err_faults ≤ now.err_faults

-- what follows of the turns of some entries where their verdicts are these
pub record VerdictsTurned {T : Type 0} (verdicts : List Verdict) (result : Result T TurnsStop)
    (before now : SeriesMoment) : Type 0 where
  -- the verdicts show how the turns ended
  pub shown : IsTrue before.run.tells → TurnsShown verdicts result
  -- their files are put, so far as the turns came, and each is finished at their end
  pub files : IsTrue before.run.tells
      → FilesTurned result verdicts before.run.held now.run.held
  pub finished : IfOk result (λ done. AreFinished (files_for verdicts) now.run.unfinished)
  -- `out` has received their summaries, so far as the turns came
  pub out : IsTrue before.run.out_tells
      → OutTurned result verdicts before.run.written now.run.written
  -- the refused ones are counted, and `err` has received their lines
  pub refused : now.tally.refused
      ≡ before.tally.refused + count_by is_refused (turned result verdicts)
  pub lines : IsTrue before.err_tells → ReceivesMore before.tally.whole now.tally.whole
      (lines_for (turned result verdicts)) before.lines now.lines

-- the end of the turns of these entries with these answers
pub record TurnsEnd {T : Type 0} (entries : List EntryNames)
    (answers : List (Result MadeTexts TextsError)) (result : Result T TurnsStop)
    (before now : SeriesMoment) : Type 0 where
  -- what the entries' verdicts say
  pub called : (verdicts : List Verdict) → AreAnswered entries answers verdicts
      → VerdictsTurned verdicts result before now
  -- which name is being written, and which are begun and not finished
  pub writing : WritingTurned result before.run.writing now.run.writing
  pub unfinished : UnfinishedTurned entries result before.run.unfinished now.run.unfinished
  -- the counts of faults show the rest of the cause
  pub counts : TurnsCounts entries result before.run.faults now.run.faults
  -- at most all of them are refused
  pub at_most : now.tally.refused ≤ before.tally.refused + length entries
  -- whether `err` has taken every line, its count shows
  pub whole : StaysWhole before.tally.whole now.tally.whole before.err_faults now.err_faults
  pub err_faults : before.err_faults ≤ now.err_faults
