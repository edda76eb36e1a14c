-- Which names a series leaves begun and not finished.
use Rattle.std.specs.Prelude.{◌≡◌, ⊤, ◌⊎◌, ℕ, List, true, slice_get, Some}
use Rattle.sgm_io.specs.Unfinished.{NameSet}
use Rattle.sgm_words.specs.Operands.{IsOutputName}
use Rattle.sgm_words.specs.declared.files.Output.{Output}
use Rattle.sgm_list.specs.Entries.{EntryNames}
use Rattle.sgm_stages.specs.Unfinished.{AreFinished}
use Rattle.sgm_stages.specs.Verdict.{Verdict}
use Rattle.sgm_series.specs.Plans.{names_for}
use Rattle.sgm_series.specs.Turns.{files_for}
use Rattle.sgm_series.specs.declared.outcome.SeriesOutcome.{SeriesOutcome}
use Rattle.sgm_series.specs.declared.outcome.SeriesOutcome.TheVariants.{Done, Usage, RefusedList}
use Rattle.sgm_series.specs.declared.outcome.SeriesOutcome.TheVariants.{SomeRefused, ListUnread}
use Rattle.sgm_series.specs.declared.outcome.SeriesOutcome.TheVariants.{ReadFault, WriteFault}
use Rattle.sgm_series.specs.declared.outcome.SeriesOutcome.TheVariants.{NoMemory}

-- a name that is unfinished now was so before, or this holds of it
abbrev pub NoMoreUnfinished : (List ℕ → Type 0) → NameSet → NameSet → Type 0
NoMoreUnfinished IsLeft old new = (name : List ℕ) → new name ≡ true
    → (old name ≡ true) ⊎ IsLeft name

-- the name is that of this output of the entry
abbrev pub IsOutputAt : List EntryNames → ℕ → Output → List ℕ → Type 0
IsOutputAt entries entry output name = (asked : EntryNames) × (slice_get entries entry ≡ Some asked)
    × IsOutputName (names_for asked) output name

-- which names are unfinished after an outcome: no more than before; but where an output was not
-- written to its end, that one too, perhaps
abbrev pub SeriesUnfinished : List EntryNames → SeriesOutcome → NameSet → NameSet → Type 0
SeriesUnfinished entries Done old new = NoMoreUnfinished (λ name. ⊥) old new
SeriesUnfinished entries (Usage fault) old new = new ≡ old
SeriesUnfinished entries (RefusedList fault) old new = new ≡ old
SeriesUnfinished entries (SomeRefused refused) old new = NoMoreUnfinished (λ name. ⊥) old new
SeriesUnfinished entries ListUnread old new = new ≡ old
SeriesUnfinished entries (ReadFault entry input) old new = NoMoreUnfinished (λ name. ⊥) old new
SeriesUnfinished entries (WriteFault entry output) old new =
    NoMoreUnfinished (IsOutputAt entries entry output) old new
SeriesUnfinished entries NoMemory old new = NoMoreUnfinished (λ name. (entry : ℕ)
    × (output : Output) × IsOutputAt entries entry output name) old new

-- after an outcome of a series whose entries all had their turns, each of their files is finished
abbrev pub SeriesFinished : SeriesOutcome → List Verdict → NameSet → Type 0
SeriesFinished Done verdicts unfinished = AreFinished (files_for verdicts) unfinished
SeriesFinished (Usage fault) verdicts unfinished = ⊤
SeriesFinished (RefusedList fault) verdicts unfinished = ⊤
SeriesFinished (SomeRefused refused) verdicts unfinished =
    AreFinished (files_for verdicts) unfinished
SeriesFinished ListUnread verdicts unfinished = ⊤
SeriesFinished (ReadFault entry input) verdicts unfinished = ⊤
SeriesFinished (WriteFault entry output) verdicts unfinished = ⊤
SeriesFinished NoMemory verdicts unfinished = ⊤
