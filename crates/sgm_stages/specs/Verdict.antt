-- What the files at hand call for.
use Rattle.std.specs.Prelude.{ℕ, ◌+◌, List, [], ◌∷◌, Bool, true, false, length, nat_lt, Option}
use Rattle.std.specs.Prelude.{None, Some, unwrap_or, if◌then◌else◌, Result, Ok, Err}
use Rattle.sgm_base.specs.declared.limits.TheConstants.{MAX_IMAGE_BYTES, MAX_CALIB_BYTES}
use Rattle.sgm_base.specs.declared.limits.TheConstants.{MAX_GRID_BYTES, MAX_LIST_BYTES}
use Rattle.sgm_io.specs.Held.{Held}
use Rattle.sgm_calib.specs.Calibration.{Calibration, plain}
use Rattle.sgm_calib.specs.declared.keys.CalibFault.{CalibFault}
use Rattle.sgm_list.specs.Names.{names_reading}
use Rattle.sgm_grid.specs.Cells.{Cells}
use Rattle.sgm_grid.specs.declared.grid_spec.GridSpec.{GridSpec}
use Rattle.sgm_words.specs.Operands.{Operands, ChangeOperands, MergeOperands, is_plain}
use Rattle.sgm_words.specs.Operands.{is_plain_word}
use Rattle.sgm_words.specs.declared.usage.UsageFault.{UsageFault}
use Rattle.sgm_words.specs.declared.files.Input.{Input}
use Rattle.sgm_words.specs.declared.files.Input.TheVariants as input
use Rattle.sgm_outcome.specs.declared.outcome.Refusal.{Refusal}
use Rattle.sgm_outcome.specs.declared.outcome.Refusal.TheVariants.{TooLong}
use Rattle.sgm_stages.specs.Readings.{Readings, grid_reading}
use Rattle.sgm_stages.specs.Changing.{change_for}
use Rattle.sgm_stages.specs.Merging.{MergePlan, plan_for, entry_for, merge_texts}
use Rattle.sgm_stages.specs.Outputs.{OutputFile, change_files_of, merge_files_of}

-- the first of these that applies
pub data Verdict : Type 0 where
  -- the words have this fault
  usage : UsageFault → Verdict
  -- this input is absent
  absent : Input → Verdict
  -- the inputs are refused
  refused : Refusal → Verdict
  -- these files are to be written, and this summary
  files : List OutputFile → List ℕ → Verdict

-- ---- the inputs as they are fetched

-- how many bytes an input may have
abbrev pub most_bytes : Input → ℕ
most_bytes input.Left = MAX_IMAGE_BYTES
most_bytes input.Right = MAX_IMAGE_BYTES
most_bytes input.Calibration = MAX_CALIB_BYTES
most_bytes input.Earlier = MAX_GRID_BYTES
most_bytes input.Later = MAX_GRID_BYTES
most_bytes input.List = MAX_LIST_BYTES
most_bytes (input.Grid k) = MAX_GRID_BYTES

-- an input as it is fetched: absent, longer than it may be, or at hand
abbrev pub fetched : Input → Option (List ℕ) → Verdict → Verdict
fetched input None next = absent input
fetched input (Some bytes) next = if nat_lt (most_bytes input) (length bytes)
    then refused (TooLong input) else next

-- the calibration as it is fetched, where it isn't the plain one
abbrev pub calib_fetched : Bool → Option (List ℕ) → Verdict → Verdict
calib_fetched true held next = next
calib_fetched false held next = fetched input.Calibration held next

-- the inputs of a match or a trace as they are fetched
unfoldable pub pair_fetched : Operands → Held → Verdict → Verdict
pair_fetched asked held next = fetched input.Left (held asked.left)
    (fetched input.Right (held asked.right)
    (calib_fetched (is_plain asked) (held asked.calib) next))

-- the grids of a change as they are fetched
unfoldable pub grids_fetched : ChangeOperands → Held → Verdict → Verdict
grids_fetched asked held next = fetched input.Earlier (held asked.earlier)
    (fetched input.Later (held asked.later) next)

-- the list and the calibration of a merge as they are fetched
unfoldable pub merge_fetched : MergeOperands → Held → Verdict → Verdict
merge_fetched asked held next = fetched input.List (held asked.list)
    (calib_fetched (is_plain_word asked.calib) (held asked.calib) next)

-- ---- the verdict

-- what is to be written, or the refusal
abbrev pub unless_refused : {T : Type 0} → Result T Refusal → (T → Verdict) → Verdict
unless_refused (Ok value) next = next value
unless_refused (Err refusal) next = refused refusal

-- the reading of the calibration of this name that counts
abbrev pub calib_named : List ℕ → Result Calibration CalibFault → Result Calibration CalibFault
calib_named name reading = if is_plain_word name then Ok plain else reading

abbrev pub calib_of : Operands → Readings → Result Calibration CalibFault
calib_of asked readings = calib_named asked.calib readings.calib

-- what a change calls for whose grids are held: their texts under OUT, and the summary
abbrev pub changed : ChangeOperands → Held → Verdict
changed asked held =
    unless_refused
    (change_for (grid_reading (held asked.earlier)) (grid_reading (held asked.later)))
    (λ texts. files (change_files_of asked.out texts) texts.summary)

-- an entry of a list, with this number: it is fetched, and judged before the next
abbrev pub entry_fetched : GridSpec → ℕ → Option (List ℕ) → (Cells → Verdict) → Verdict
entry_fetched spec k held next =
    fetched (input.Grid k) held (unless_refused (entry_for spec k (grid_reading held)) next)

-- the entries with these names, one after the other, the first of which has this number; `next`
-- says what their grids call for
abbrev pub entries_fetched : GridSpec → ℕ → List (List ℕ) → Held → (List Cells → Verdict) → Verdict
entries_fetched spec k [] held next = next []
entries_fetched spec k (name ∷ names) held next =
    entry_fetched spec k (held name)
    (λ entry. entries_fetched spec (k + 1) names held (λ entries. next (entry ∷ entries)))

-- what a merge of these entries calls for: their texts under OUT, and the summary
abbrev pub merged_by : List ℕ → MergePlan → List Cells → Verdict
merged_by out plan entries = let texts = merge_texts plan entries in
    files (merge_files_of out texts) texts.summary

-- what a merge calls for that has this plan, or this first refusal
abbrev pub plan_carried_out : List ℕ → Held → Result MergePlan Refusal → Verdict
plan_carried_out out held planned =
    unless_refused planned
    (λ plan. entries_fetched plan.spec 0 plan.names held (merged_by out plan))

-- the plan of a merge, whose calibration has this reading, or the first refusal
abbrev pub plan_of : MergeOperands → Held → Result Calibration CalibFault → Result MergePlan Refusal
plan_of asked held calib = plan_for (names_reading asked.out (unwrap_or (held asked.list) []))
    (calib_named asked.calib calib)

-- the files that are to be written
abbrev pub outputs_of : Verdict → List OutputFile
outputs_of (files outputs summary) = outputs
outputs_of (usage fault) = []
outputs_of (absent input) = []
outputs_of (refused refusal) = []

-- the summary that is to be written
abbrev pub summary_of : Verdict → List ℕ
summary_of (files outputs summary) = summary
summary_of (usage fault) = []
summary_of (absent input) = []
summary_of (refused refusal) = []

abbrev pub IsFiles : Verdict → Type 0
IsFiles (files outputs summary) = Unit {0}
IsFiles (usage fault) = ⊥
IsFiles (absent input) = ⊥
IsFiles (refused refusal) = ⊥
