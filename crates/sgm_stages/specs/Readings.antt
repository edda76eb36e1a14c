-- How the inputs read.
use Rattle.std.specs.Prelude.{⊤, ℕ, List, [], Option, None, Some, Result, unwrap_or}
use Rattle.sgm_base.specs.Picture.{Picture}
use Rattle.sgm_io.specs.Held.{Held}
use Rattle.sgm_pgm.specs.declared.fault.PgmFault.{PgmFault}
use Rattle.sgm_pgm.specs.Read.{Reads}
use Rattle.sgm_grid.specs.Asc.{asc_reading}
use Rattle.sgm_grid.specs.Cells.{Cells}
use Rattle.sgm_grid.specs.declared.asc_fault.AscFault.{AscFault}
use Rattle.sgm_calib.specs.Calibration.{Calibration}
use Rattle.sgm_calib.specs.Read.{Reads as ReadsCalib}
use Rattle.sgm_calib.specs.declared.keys.CalibFault.{CalibFault}
use Rattle.sgm_words.specs.Operands.{Operands}

-- the inputs of a match or a trace, each as an image or a calibration, or as the first fault that
-- its bytes have
pub record Readings : Type 0 where
  pub left : Result Picture PgmFault
  pub right : Result Picture PgmFault
  pub calib : Result Calibration CalibFault

-- an input that is absent has every reading
abbrev pub IsReading : {R : Type 0} → (List ℕ → R → Type 0) → Option (List ℕ) → R → Type 0
IsReading reads None reading = ⊤
IsReading reads (Some bytes) reading = reads bytes reading

-- these are the readings of the inputs that the operands name
pub record AreReadings (asked : Operands) (held : Held) (readings : Readings) : Type 0 where
  pub left : IsReading Reads (held asked.left) readings.left
  pub right : IsReading Reads (held asked.right) readings.right
  pub calib : IsReading ReadsCalib (held asked.calib) readings.calib

-- a grid as it reads, or the first fault of its text; an absent one reads as an empty text
abbrev pub grid_reading : Option (List ℕ) → Result Cells AscFault
grid_reading held = asc_reading (unwrap_or held [])
