-- What the bytes of a calibration file say.
use Rattle.std.specs.Prelude.{◌≡◌, ⊤, List, ℕ, Some, Result, Ok, Err, IsUtf8}
use Rattle.serde_json.specs.Data.{Data}
use Rattle.serde_json.specs.Read.{read}
use Rattle.sgm_calib.specs.Calibration.{Calibration}
use Rattle.sgm_calib.specs.Judge.{judged}
use Rattle.sgm_calib.specs.declared.keys.CalibFault.{CalibFault}
use Rattle.sgm_calib.specs.declared.keys.CalibFault.TheVariants.{Json}
use Rattle.sgm_calib.specs.declared.keys.CalibError.{CalibError}
use Rattle.sgm_calib.specs.declared.keys.CalibError.TheVariants.{Fault, NoMemory}

-- the value that the reading of `serde_json` gives
pub record IsValue (bytes : List ℕ) (d : Data) : Type 0 where
  pub text : IsUtf8 bytes
  pub value : read bytes ≡ Some d

-- The calibration of these bytes, or their first fault: what the key table says of the value that
-- is read, and Json where none is read.
pub data Reads (bytes : List ℕ) (r : Result Calibration CalibFault) : Type 0 where
  value : (d : Data) → IsValue bytes d → r ≡ judged d → Reads bytes r
  no_value : ((d : Data) → ¬ IsValue bytes d) → r ≡ Err Json → Reads bytes r

-- the call answers r, or that there is no memory
abbrev pub ReadsAs : Result Calibration CalibFault → Result Calibration CalibError → Type 0
ReadsAs r (Ok calib) = r ≡ Ok calib
ReadsAs r (Err (Fault fault)) = r ≡ Err fault
ReadsAs r (Err NoMemory) = ⊤

-- what the call answers is what the bytes say
abbrev pub ReadsText : List ℕ → Result Calibration CalibError → Type 0
ReadsText bytes (Ok calib) = Reads bytes (Ok calib)
ReadsText bytes (Err (Fault fault)) = Reads bytes (Err fault)
ReadsText bytes (Err NoMemory) = ⊤
