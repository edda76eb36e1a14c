-- From the form in which files are put, and lines received, to that of the public clauses.
use Rattle.std.proofs.Common.{◌≡◌, inl, inr, ℕ, ◌≤◌, arith, List, [], ◌++◌, refl, sym, ap, subst, ◌∙◌, Option, None, Some, Result, Ok, Err, Bool, true, false, append_assoc}
use Rattle.sgm_io.specs.Counts.{Rose}
use Rattle.sgm_io.specs.Held.{Held}
use Rattle.sgm_io.specs.Sink.{GrowsByPrefix, SinkFaults, WritesWhole}
use Rattle.sgm_io.specs.declared.sink.SinkError.{SinkError}
use Rattle.sgm_list.specs.Clashes.{first_clash}
use Rattle.sgm_outcome.specs.Lines.{TakesLine}
use Rattle.sgm_outcome.specs.declared.outcome.Outcome.TheVariants as run
use Rattle.sgm_stages.specs.Verdict.{Verdict}
use Rattle.sgm_series.specs.Ends.{SeriesFiles}
use Rattle.sgm_list.specs.Entries.{EntryNames, entries_of}
use Rattle.sgm_list.specs.Faults.{list_fault}
use Rattle.sgm_list.specs.declared.fault.ListFault.{ListFault}
use Rattle.sgm_series.specs.Words.{ListWords, series_words}
use Rattle.sgm_series.specs.Plans.{Plan, usage, no_list, faulty, series, AreVerdicts, EntriesCallFor, ListCallsFor, ReadCallsFor, SeriesCallsFor, verdicts_of}
use Rattle.sgm_series.specs.declared.words.SeriesUsage.{SeriesUsage}
use Rattle.sgm_series.specs.Received.{IsWhole, TakesLast}
use Rattle.sgm_series.specs.Stands.{SeriesPut}
use Rattle.sgm_series.specs.declared.outcome.SeriesOutcome.{SeriesOutcome}
use Rattle.sgm_series.specs.declared.outcome.SeriesOutcome.TheVariants.{Done, Usage, RefusedList, SomeRefused, ListUnread, ReadFault, WriteFault, NoMemory}
use Rattle.sgm_series.proofs.Holding.{hold_turns, hold_stop}
use Rattle.sgm_series.proofs.NoClash.{no_clash}

module _ (list : List ℕ) (entries : List EntryNames) (none : first_clash list entries ≡ None) (held : Held) (vs : List Verdict) (are : AreVerdicts entries held vs) where
  pub files_stand : (outcome : SeriesOutcome) (turns : ℕ) (new : Held) → SeriesPut outcome turns vs held new → SeriesFiles outcome turns vs held new
  files_stand Done turns new put = hold_turns list entries none held vs are turns held new put
  files_stand (Usage fault) turns new put = hold_turns list entries none held vs are turns held new put
  files_stand (RefusedList fault) turns new put = hold_turns list entries none held vs are turns held new put
  files_stand (SomeRefused refused) turns new put = hold_turns list entries none held vs are turns held new put
  files_stand ListUnread turns new put = hold_turns list entries none held vs are turns held new put
  files_stand (ReadFault entry input) turns new put = hold_turns list entries none held vs are turns held new put
  files_stand (WriteFault entry output) turns new put = hold_stop list entries none held vs are turns (run.WriteFault output) put.0 held new put.1 put.2
  files_stand NoMemory turns new (inl put) = inl (hold_turns list entries none held vs are turns held new put)
  files_stand NoMemory turns new (inr put) = inr (hold_stop list entries none held vs are turns run.NoMemory put.0 held new put.1 put.2)

-- ---- lines

-- all lines and the whole of the last one, or the beginning of it, since whole counts
line_added : (lines line : List ℕ) (start mid now : ℕ) (old between new : List ℕ) → mid ≡ start → between ≡ old ++ lines → new ≡ between ++ line →
    TakesLine (lines ++ line) start now old new
line_added lines line start mid now old between new same before step =
    inl (step ∙ ap (λ (x : List ℕ). x ++ line) before ∙ append_assoc old lines line)

line_begun : (lines line : List ℕ) (start mid now : ℕ) (old between new : List ℕ) → mid ≡ start → between ≡ old ++ lines → Rose mid now → GrowsByPrefix line between new →
    TakesLine (lines ++ line) start now old new
line_begun lines line start mid now old between new same before rose grows =
    let P : ℕ → Type 0 = λ n. Rose n now in
    inr (
      subst P same rose,
      record {
        part = lines ++ grows.part;
        prefix = record { rest = grows.prefix.rest; is = append_assoc lines grows.part grows.prefix.rest ∙ ap (λ (x : List ℕ). lines ++ x) grows.prefix.is };
        added = grows.added ∙ ap (λ (x : List ℕ). x ++ grows.part) before ∙ append_assoc old lines grows.part;
      },
    )

-- nothing more was given
line_left : (lines line : List ℕ) (start now : ℕ) (old new : List ℕ) → Rose start now → GrowsByPrefix lines old new → TakesLine (lines ++ line) start now old new
line_left lines line start now old new rose grows =
    inr (
      rose,
      record {
        part = grows.part;
        prefix = record { rest = grows.prefix.rest ++ line; is = sym (append_assoc grows.part grows.prefix.rest line) ∙ ap (λ (x : List ℕ). x ++ line) grows.prefix.is };
        added = grows.added;
      },
    )

-- ---- the plan

abbrev pub PlanStands : Held → Plan → Type 0
PlanStands held p = (outcome : SeriesOutcome) (turns : ℕ) (new : Held) → SeriesPut outcome turns (verdicts_of p) held new → SeriesFiles outcome turns (verdicts_of p) held new

no_verdicts : (held : Held) → AreVerdicts [] held []
no_verdicts held = record { count = refl; each = λ place entry v at of. absurd (cc) }

none_stand : (held : Held) (p : Plan) → verdicts_of p ≡ [] → PlanStands held p
none_stand held p none outcome turns new put =
    let P : List Verdict → Type 0 = λ vs. SeriesPut outcome turns vs held new in
    let Q : List Verdict → Type 0 = λ vs. SeriesFiles outcome turns vs held new in
    subst Q (sym none) (files_stand [] [] refl held [] (no_verdicts held) outcome turns new (subst P none put))

along : (held : Held) (p q : Plan) → p ≡ q → PlanStands held q → PlanStands held p
along held p q is stands = let P : Plan → Type 0 = λ x. PlanStands held x in subst P (sym is) stands

by_fault : (list bytes : List ℕ) (held : Held) (p : Plan) (f : Option ListFault) → list_fault list bytes ≡ f → EntriesCallFor f (entries_of bytes) held p → PlanStands held p
by_fault list bytes held p (Some fault) is calls = along held p (faulty fault) calls (none_stand held (faulty fault) refl)
by_fault list bytes held p None is calls =
    along held p (series (entries_of bytes) calls.0) calls.2 (λ outcome turns new put. files_stand list (entries_of bytes) (no_clash list bytes is) held calls.0 calls.1 outcome turns new put)

by_held : (list : List ℕ) (held : Held) (p : Plan) (bytes : Option (List ℕ)) → ListCallsFor list bytes held p → PlanStands held p
by_held list held p None calls = along held p no_list calls (none_stand held no_list refl)
by_held list held p (Some bytes) calls = by_fault list bytes held p (list_fault list bytes) refl calls

by_read : (held : Held) (p : Plan) (read : Result ListWords SeriesUsage) → ReadCallsFor read held p → PlanStands held p
by_read held p (Err fault) calls = along held p (usage fault) calls (none_stand held (usage fault) refl)
by_read held p (Ok words) calls = by_held words.list held p (held words.list) calls

pub plan_stands : (words : List (List ℕ)) (held : Held) (p : Plan) → SeriesCallsFor words held p → PlanStands held p
plan_stands words held p calls = by_read held p (series_words words) calls

-- ---- the last line

-- after a failure it isn't given
pub last_left : (whole : Bool) (last : List ℕ) (faults : ℕ) (now : List ℕ) → whole ≡ false → TakesLast whole last faults faults now now
last_left whole last faults now is =
    let P : Bool → Type 0 = λ b. TakesLast b last faults faults now now in
    subst P (sym is) (λ lines start count rose received. line_left lines last count faults start now rose.1 received)

-- else the write's answer tells what came of it
pub last_written : (whole : Bool) (last : List ℕ) (r : Result (Unit {0}) SinkError) (faults faults' : ℕ) (old new : List ℕ) → whole ≡ true → WritesWhole last r old new → SinkFaults r faults faults'
    → TakesLast whole last faults faults' old new
last_written whole last r faults faults' old new is written counted =
    let P : Bool → Type 0 = λ b. TakesLast b last faults faults' old new in
    subst P (sym is) (by_answer r written counted)
  where
    by_answer : (r : Result (Unit {0}) SinkError) → WritesWhole last r old new → SinkFaults r faults faults' → TakesLast true last faults faults' old new
    by_answer (Ok done) written counted = λ lines start count same received. line_added lines last count faults faults' start old new same received written
    by_answer (Err error) written counted = λ lines start count same received. line_begun lines last count faults faults' start old new same received counted.1 written

pub whole_later : (whole : Bool) (start now : ℕ) → IsWhole whole start now → start ≤ now
whole_later true start now is = let same : now ≡ start = is in omega (arith, same)
whole_later false start now is = is.0
