-- What the words and the held files call for.
use Rattle.std.specs.Prelude.{◌≡◌, ℕ, List, [], Bool, true, false, codes, length, Option, None}
use Rattle.std.specs.Prelude.{Some, unwrap_or, Result, Ok, Err, slice_get}
use Rattle.sgm_io.specs.Held.{Held}
use Rattle.sgm_words.specs.Operands.{Operands, FileNames, of_match}
use Rattle.sgm_list.specs.Entries.{EntryNames, entries_of}
use Rattle.sgm_list.specs.Faults.{list_fault}
use Rattle.sgm_list.specs.declared.fault.ListFault.{ListFault}
use Rattle.sgm_base.specs.Refining.{plain}
use Rattle.sgm_app.specs.Calls.{MatchCallsFor}
use Rattle.sgm_stages.specs.Verdict.{Verdict}
use Rattle.sgm_stages.specs.Verdict as verdict
use Rattle.sgm_series.specs.Words.{ListWords, series_words}
use Rattle.sgm_series.specs.declared.words.SeriesUsage.{SeriesUsage}

-- the operands of an entry's match: those of the words `match LEFT RIGHT CALIB OUT`
abbrev pub asked_for : EntryNames → Operands
asked_for entry = record {
  left = entry.left;
  right = entry.right;
  calib = unwrap_or entry.calib (codes "-");
  out = entry.out;
}

-- the names of its files
abbrev pub names_for : EntryNames → FileNames
names_for entry = of_match (asked_for entry)

-- an entry calls for the verdict: that of a match of its operands, of which nothing is refined
abbrev pub EntryCallsFor : EntryNames → Held → Verdict → Type 0
EntryCallsFor entry held v = MatchCallsFor (asked_for entry) plain held v

-- these are the verdicts of the entries, one for each, in order
pub record AreVerdicts (entries : List EntryNames) (held : Held)
    (verdicts : List Verdict) : Type 0 where
  pub count : length verdicts ≡ length entries
  pub each : (place : ℕ) (entry : EntryNames) (v : Verdict)
      → slice_get entries place ≡ Some entry → slice_get verdicts place ≡ Some v
      → EntryCallsFor entry held v

-- the first of these that applies
pub data Plan : Type 0 where
  -- the words have this fault
  usage : SeriesUsage → Plan
  -- the list is absent
  no_list : Plan
  -- the list has this fault
  faulty : ListFault → Plan
  -- the entries of the list, with their verdicts
  series : List EntryNames → List Verdict → Plan

-- a list without a fault calls for its entries' verdicts
abbrev pub EntriesCallFor : Option ListFault → List EntryNames → Held → Plan → Type 0
EntriesCallFor (Some fault) entries held plan = plan ≡ faulty fault
EntriesCallFor None entries held plan = (verdicts : List Verdict)
    × AreVerdicts entries held verdicts × (plan ≡ series entries verdicts)

-- the bytes under the list's name call for the plan
abbrev pub ListCallsFor : List ℕ → Option (List ℕ) → Held → Plan → Type 0
ListCallsFor list None held plan = plan ≡ no_list
ListCallsFor list (Some bytes) held plan = EntriesCallFor (list_fault list bytes)
    (entries_of bytes) held plan

-- the words, as they are read, call for the plan
abbrev pub ReadCallsFor : Result ListWords SeriesUsage → Held → Plan → Type 0
ReadCallsFor (Err fault) held plan = plan ≡ usage fault
ReadCallsFor (Ok words) held plan = ListCallsFor words.list (held words.list) held plan

-- the words call for the plan over what is held
abbrev pub SeriesCallsFor : List (List ℕ) → Held → Plan → Type 0
SeriesCallsFor words held plan = ReadCallsFor (series_words words) held plan

-- the verdicts of the entries, where there are some
abbrev pub verdicts_of : Plan → List Verdict
verdicts_of (usage fault) = []
verdicts_of no_list = []
verdicts_of (faulty fault) = []
verdicts_of (series entries verdicts) = verdicts

abbrev pub entries_in : Plan → List EntryNames
entries_in (usage fault) = []
entries_in no_list = []
entries_in (faulty fault) = []
entries_in (series entries verdicts) = entries

-- ---- kinds of verdicts

-- the entry's inputs are refused
abbrev pub is_refused : Verdict → Bool
is_refused (verdict.refused refusal) = true
is_refused (verdict.files outputs summary) = false
is_refused (verdict.usage fault) = false
is_refused (verdict.absent input) = false

-- they can be read: the entry's files are called for, or its inputs are refused
abbrev pub IsJudged : Verdict → Type 0
IsJudged (verdict.refused refusal) = Unit {0}
IsJudged (verdict.files outputs summary) = Unit {0}
IsJudged (verdict.usage fault) = ⊥
IsJudged (verdict.absent input) = ⊥
