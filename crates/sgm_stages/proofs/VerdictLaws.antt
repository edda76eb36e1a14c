-- No step of a verdict says that an earlier input is absent, or refuses what comes earlier.
use Rattle.std.proofs.Common.{◌≡◌, ℕ, ◌+◌, ◌<◌, ◌≤◌, List, [], ◌∷◌, ap, true, false, arith, Option, None, Some, Result, Ok, Err, Bool, length, nat_lt, if◌then◌else◌, ℤ, pos}
use Rattle.std.specs.Option.{option_or}
use Rattle.std.specs.Ordering.{int_eq}
use Rattle.sgm_calib.specs.Calibration.{Calibration}
use Rattle.sgm_calib.specs.declared.keys.CalibFault.{CalibFault}
use Rattle.sgm_grid.specs.Cells.{Cells}
use Rattle.sgm_grid.specs.declared.asc_fault.AscFault.{AscFault}
use Rattle.sgm_grid.specs.declared.grid_spec.GridSpec.{GridSpec}
use Rattle.sgm_io.specs.Held.{Held}
use Rattle.sgm_list.specs.declared.names.NamesFault.{NamesFault}
use Rattle.sgm_merge.specs.Fits.{fits}
use Rattle.sgm_words.specs.Operands.{ChangeOperands}
use Rattle.sgm_words.specs.declared.files.Input.{Input}
use Rattle.sgm_words.specs.declared.files.Input.TheVariants as input
use Rattle.sgm_outcome.specs.declared.outcome.Refusal.{Refusal}
use Rattle.sgm_outcome.specs.declared.outcome.Refusal.TheVariants as refusal
use Rattle.sgm_stages.specs.Refusals.{or_refused, ◌>>=◌, unless}
use Rattle.sgm_stages.specs.Changing.{differ_at, ground_refusal, change_for}
use Rattle.sgm_stages.specs.Outputs.{OutputFile}
use Rattle.sgm_stages.specs.Merging.{MergePlan, cells_refusal, entry_for, grid_asked, plan_for}
use Rattle.sgm_stages.specs.Readings.{grid_reading}
use Rattle.sgm_stages.specs.Verdict.{Verdict, absent, refused, files, fetched, calib_fetched, most_bytes, unless_refused, changed, entry_fetched, entries_fetched, merged_by, plan_carried_out}
use Rattle.sgm_stages.specs.Ends.{NoneBefore, order_of, refusal_order}
use Rattle.sgm_stages.specs.Entries.{NoneEver}

-- ---- no refusal of judging comes before all that the words name were fetched

-- no refusal comes before the n-th input
abbrev pub NeverBefore : {T : Type 0} → ℕ → Result T Refusal → Type 0
NeverBefore n wanted = (r : Refusal) → refusal_order r < n → wanted ≡ Err r → ⊥

pub never_ok : {T : Type 0} (n : ℕ) (x : T) → (let wanted : Result T Refusal = Ok x in NeverBefore n wanted)
never_ok n x = λ r lt e. absurd (cc)

never_err : {T : Type 0} (n : ℕ) (refusal : Refusal) → n ≤ refusal_order refusal → (let wanted : Result T Refusal = Err refusal in NeverBefore n wanted)
never_err n refusal late = λ r lt e. let same : refusal ≡ r = cc in absurd (omega (arith, late, lt, ap refusal_order same))

pub never_step : {T U : Type 0} (n : ℕ) (first : Result T Refusal) (next : T → Result U Refusal) → NeverBefore n first → ((x : T) → NeverBefore n (next x)) → NeverBefore n (first >>= next)
never_step n (Ok x) next here later = later x
never_step {T} n (Err refusal) next here later = λ r lt e. let same : refusal ≡ r = cc in here r lt (ap (λ (r : Refusal). let wanted : Result T Refusal = Err r in wanted) same)

pub never_refused : {T F : Type 0} (n : ℕ) (refusal : F → Refusal) (r : Result T F) → ((f : F) → n ≤ refusal_order (refusal f)) → NeverBefore n (or_refused refusal r)
never_refused n refusal (Ok x) late = never_ok n x
never_refused n refusal (Err f) late = never_err n (refusal f) (late f)

-- a refusal that doesn't come before the n-th input, where there is one
abbrev pub NoneEarly : ℕ → Option Refusal → Type 0
NoneEarly n found = (r : Refusal) → refusal_order r < n → found ≡ Some r → ⊥

pub never_unless : {T : Type 0} (n : ℕ) (found : Option Refusal) (value : T) → NoneEarly n found → NeverBefore n (unless found value)
never_unless n None value never = never_ok n value
never_unless n (Some refusal) value never = λ r lt e. let same : refusal ≡ r = cc in never r lt (ap (λ (r : Refusal). Some r) same)

pub none_early : (n : ℕ) (b : Bool) (refusal : Refusal) → n ≤ refusal_order refusal → NoneEarly n (if b then None else Some refusal)
none_early n true refusal late = λ r lt e. absurd (cc)
none_early n false refusal late = λ r lt e. let same : refusal ≡ r = cc in absurd (omega (arith, late, lt, ap refusal_order same))

never_or : (n : ℕ) (one other : Option Refusal) → NoneEarly n one → NoneEarly n other → NoneEarly n (option_or one other)
never_or n None other here later = later
never_or n (Some refusal) other here later = here

module _ (n : ℕ) (few : n ≤ 6) where
  never_differ : (at : ℕ) (a b : ℤ) → NoneEarly n (differ_at at a b)
  never_differ at a b = none_early n (int_eq a b) (refusal.GridsDiffer at a b) few

  never_ground : (a b : GridSpec) → NoneEarly n (ground_refusal a b)
  unfolding ground_refusal
  never_ground a b =
      never_or n (differ_at 1 (pos a.cols) (pos b.cols)) _ (never_differ 1 (pos a.cols) (pos b.cols)) (
      never_or n (differ_at 3 (pos a.rows) (pos b.rows)) _ (never_differ 3 (pos a.rows) (pos b.rows)) (
      never_or n (differ_at 5 a.west b.west) _ (never_differ 5 a.west b.west) (
      never_or n (differ_at 7 a.south b.south) _ (never_differ 7 a.south b.south) (never_differ 9 a.cell b.cell))))

  never_change : (earlier later : Result Cells AscFault) → NeverBefore n (change_for earlier later)
  unfolding change_for
  never_change earlier later =
      never_step n (or_refused (refusal.Asc input.Earlier) earlier) _ (never_refused n (refusal.Asc input.Earlier) earlier (λ f. few)) (λ a.
      never_step n (or_refused (refusal.Asc input.Later) later) _ (never_refused n (refusal.Asc input.Later) later (λ f. few)) (λ b.
      never_unless n (ground_refusal a.spec b.spec) _ (never_ground a.spec b.spec)))

  never_asked : (grid : Option GridSpec) → NeverBefore n (grid_asked grid)
  never_asked None = never_err n _ few
  never_asked (Some spec) = never_ok n spec

  pub never_planned : (names : Result (List (List ℕ)) NamesFault) (calib : Result Calibration CalibFault) → NeverBefore n (plan_for names calib)
  unfolding plan_for
  never_planned names calib =
      never_step n (or_refused refusal.List names) _ (never_refused n refusal.List names (λ f. few)) (λ listed.
      never_step n (or_refused refusal.Calib calib) _ (never_refused n refusal.Calib calib (λ f. few)) (λ c.
      never_step n (grid_asked c.grid) _ (never_asked c.grid) (λ spec. never_ok n _)))

-- no refusal of the grid with number k comes before it
never_entry : (n k : ℕ) (spec : GridSpec) (reading : Result Cells AscFault) → n ≤ k + 7 → NeverBefore n (entry_for spec k reading)
unfolding entry_for
never_entry n k spec reading few =
    never_step n (or_refused (refusal.Asc (input.Grid k)) reading) _ (never_refused n (refusal.Asc (input.Grid k)) reading (λ f. few)) (λ entry.
    never_unless n (cells_refusal spec k entry.spec) _ (none_early n (fits spec entry.spec) (refusal.NotOnCells k) few))

-- ---- nothing comes before the n-th input

pub none_zero : (v : Verdict) → NoneBefore 0 v
none_zero v = record { present = λ i lt e. absurd (omega arith); sound = λ r lt e. absurd (omega arith) }

pub none_less : (n m : ℕ) (v : Verdict) → n ≤ m → NoneBefore m v → NoneBefore n v
none_less n m v few none = record { present = λ i lt e. none.present i (omega (arith, lt, few)) e; sound = λ r lt e. none.sound r (omega (arith, lt, few)) e }

pub none_unless : {T : Type 0} (n : ℕ) (wanted : Result T Refusal) (next : T → Verdict) → NeverBefore n wanted → ((x : T) → NoneBefore n (next x)) → NoneBefore n (unless_refused wanted next)
none_unless n (Ok x) next never later = later x
none_unless {T} n (Err refusal) next never later = record {
  present = λ i lt e. (cc);
  sound = λ r lt e. let same : refusal ≡ r = cc in never r lt (ap (λ (r : Refusal). let wanted : Result T Refusal = Err r in wanted) same);
}

pub none_files : (n : ℕ) (outputs : List OutputFile) (summary : List ℕ) → NoneBefore n (files outputs summary)
none_files n outputs summary = record { present = λ i lt e. (cc); sound = λ r lt e. (cc) }

pub none_changed : (n : ℕ) → n ≤ 6 → (asked : ChangeOperands) (held : Held) → NoneBefore n (changed asked held)
none_changed n few asked held = none_unless n (change_for _ _) _ (never_change n few _ _) (λ texts. none_files n _ _)

-- ---- no input is absent once all were fetched

-- no input is absent
abbrev pub IsPresent : Verdict → Type 0
IsPresent v = (i : Input) → v ≡ absent i → ⊥

pub present_files : (outputs : List OutputFile) (summary : List ℕ) → IsPresent (files outputs summary)
present_files outputs summary = λ i e. absurd (cc)

pub present_unless : {T : Type 0} (wanted : Result T Refusal) (next : T → Verdict) → ((x : T) → IsPresent (next x)) → IsPresent (unless_refused wanted next)
present_unless (Ok x) next later = later x
present_unless (Err refusal) next later = λ i e. absurd (cc)

pub present_changed : (asked : ChangeOperands) (held : Held) → IsPresent (changed asked held)
present_changed asked held = present_unless (change_for _ _) _ (λ texts. present_files _ _)

pub present_merged : (out : List ℕ) (plan : MergePlan) (entries : List Cells) → IsPresent (merged_by out plan entries)
present_merged out plan entries = present_files _ _

-- ---- from the last step back to the first

-- a step that fetches an input none of whose order comes before n
pub none_fetched : (n : ℕ) (i : Input) (held : Option (List ℕ)) (next : Verdict) → n ≤ order_of i → NoneBefore n next → NoneBefore n (fetched i held next)
none_fetched n i None next from later = record {
  present = λ j lt e. let same : i ≡ j = cc in absurd (omega (arith, ap (λ (x : Input). order_of x) same));
  sound = λ r lt e. (cc);
}
none_fetched n i (Some bytes) next from later = elim (nat_lt (most_bytes i) (length bytes)) as (λ t. NoneBefore n (if t then refused (refusal.TooLong i) else next)) [
  | true ↦ record {
    present = λ j lt e. (cc);
    sound = λ r lt e. let same : refusal.TooLong i ≡ r = cc in absurd (omega (arith, from, lt, ap refusal_order same));
  }
  | false ↦ later
]

pub none_calib_fetched : (n : ℕ) (plain : Bool) (held : Option (List ℕ)) (next : Verdict) → n ≤ 3 → NoneBefore n next → NoneBefore n (calib_fetched plain held next)
none_calib_fetched n true held next from later = later
none_calib_fetched n false held next from later = none_fetched n input.Calibration held next from later

-- ---- the entries of a list

-- what is judged of an entry with this number
pub none_judged : (n k : ℕ) (spec : GridSpec) (reading : Result Cells AscFault) (next : Cells → Verdict) → n ≤ k + 7 → ((entry : Cells) → NoneBefore n (next entry)) → NoneBefore n (unless_refused (entry_for spec k reading) next)
none_judged n k spec reading next few later = none_unless n (entry_for spec k reading) next (never_entry n k spec reading few) later

-- an entry with this number
pub none_entry : (n k : ℕ) (spec : GridSpec) (held : Option (List ℕ)) (next : Cells → Verdict) → n ≤ k + 7 → ((entry : Cells) → NoneBefore n (next entry)) → NoneBefore n (entry_fetched spec k held next)
none_entry n k spec held next few later =
    none_fetched n (input.Grid k) held _ few (none_judged n k spec (grid_reading held) next few later)

-- entries from this number on
pub none_entries : (n k : ℕ) (spec : GridSpec) (names : List (List ℕ)) (held : Held) (next : List Cells → Verdict) → n ≤ k + 7 → ((entries : List Cells) → NoneBefore n (next entries)) → NoneBefore n (entries_fetched spec k names held next)
none_entries n k spec [] held next few later = later []
none_entries n k spec (name ∷ names) held next few later =
    none_entry n k spec (held name) _ few (λ entry. none_entries n (k + 1) spec names held (λ entries. next (entry ∷ entries)) (omega (arith, few)) (λ entries. later (entry ∷ entries)))

pub never_merged : (out : List ℕ) (plan : MergePlan) → NoneEver (merged_by out plan)
never_merged out plan = λ n entries. none_files n _ _

-- a merge
pub none_merged : (n : ℕ) → n ≤ 6 → (out : List ℕ) (held : Held) (names : Result (List (List ℕ)) NamesFault) (calib : Result Calibration CalibFault) → NoneBefore n (plan_carried_out out held (plan_for names calib))
none_merged n few out held names calib =
    none_unless n (plan_for names calib) _ (never_planned n few names calib) (λ plan.
    none_entries n 0 plan.spec plan.names held (merged_by out plan) (omega (arith, few)) (λ entries. never_merged out plan n entries))
