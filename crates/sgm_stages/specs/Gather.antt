-- Fetching the inputs.
use Rattle.std.specs.Prelude.{◌≡◌, ⊤, ℕ, List, Bool, true, false, Option, None, Some, Result, Ok}
use Rattle.std.specs.Prelude.{Err, Vec, option_map}
use Rattle.std.specs.declared.alloc.Global.{Global}
use Rattle.sgm_io.specs.Held.{Held}
use Rattle.sgm_words.specs.Operands.{Operands, ChangeOperands, MergeOperands, FileNames, is_plain}
use Rattle.sgm_words.specs.Operands.{is_plain_word, IsInputName, IsPairInput, IsChangeInput}
use Rattle.sgm_words.specs.declared.files.Input.{Input}
use Rattle.sgm_words.specs.declared.files.Input.TheVariants as input
use Rattle.sgm_stages.specs.Verdict.{Verdict, fetched, calib_fetched}
use Rattle.sgm_stages.specs.Ends.{ShownBy, NoneBefore, order_of, CountsShow, Faults}
use Rattle.sgm_stages.specs.Stops.{fetch_outcome}
use Rattle.sgm_stages.specs.declared.gathering.Grids.{Grids}
use Rattle.sgm_stages.specs.Inputs.{InputBytes, MergeBytes}
use Rattle.sgm_stages.specs.declared.stops.FetchStop.{FetchStop}

-- a stop at this step of a verdict is shown by the verdict, however it would go on
abbrev pub StopsAt : (Verdict → Verdict) → Input → FetchStop → Type 0
StopsAt step input stop = (next : Verdict) → NoneBefore (order_of input) next
    → ShownBy (step next) (fetch_outcome stop)

-- the bytes that are held, and the verdict goes on; or a stop
abbrev pub FetchesInput : Input → Option (List ℕ) → Result (Vec ℕ Global) FetchStop → Type 0
FetchesInput input held (Ok bytes) = (held ≡ Some bytes.items)
    × ((next : Verdict) → fetched input held next ≡ next)
FetchesInput input held (Err stop) = StopsAt (fetched input held) input stop

-- nothing for the plain calibration, else the bytes that are held
abbrev pub HasCalib : Bool → Option (List ℕ) → Option (List ℕ) → Type 0
HasCalib true held None = ⊤
HasCalib true held (Some bytes) = ⊥
HasCalib false held None = ⊥
HasCalib false held (Some bytes) = held ≡ Some bytes

-- the calibration's bytes, where it isn't the plain one, and the verdict goes on; or a stop
abbrev pub FetchesCalib : Bool → Option (List ℕ) → Result (Option (Vec ℕ Global)) FetchStop → Type 0
FetchesCalib plain held (Ok bytes) =
    HasCalib plain held (option_map (λ b. b.items) bytes)
    × ((next : Verdict) → calib_fetched plain held next ≡ next)
FetchesCalib plain held (Err stop) = StopsAt (calib_fetched plain held) input.Calibration stop

-- what is at hand is what is held
pub record AtHand (asked : Operands) (held : Held) (inputs : InputBytes) : Type 0 where
  pub left : held asked.left ≡ Some inputs.left
  pub right : held asked.right ≡ Some inputs.right
  pub calib : HasCalib (is_plain asked) (held asked.calib) inputs.calib

-- the grids at hand are what is held
pub record GridsAtHand (asked : ChangeOperands) (held : Held) (grids : Grids) : Type 0 where
  pub earlier : held asked.earlier ≡ Some grids.earlier.items
  pub later : held asked.later ≡ Some grids.later.items

-- the list and the calibration of a merge at hand are what is held
pub record MergeAtHand (asked : MergeOperands) (held : Held) (inputs : MergeBytes) : Type 0 where
  pub list : held asked.list ≡ Some inputs.list
  pub calib : HasCalib (is_plain_word asked.calib) (held asked.calib) inputs.calib

-- the inputs of a match or a trace are asked for under their names
abbrev pub HavePair : Operands → FileNames → Type 0
HavePair asked names = (input : Input) (name : List ℕ) → IsPairInput asked input name
    → IsInputName names input name

-- the grids of a change are
abbrev pub HaveGrids : ChangeOperands → FileNames → Type 0
HaveGrids asked names = (input : Input) (name : List ℕ) → IsChangeInput asked input name
    → IsInputName names input name

-- the counts show the stop
abbrev pub StopCounts : FileNames → FetchStop → Faults → Faults → Type 0
StopCounts names stop before now = CountsShow names (fetch_outcome stop) before now
