-- From the bytes at hand to their readings.
use Rattle.std.specs.Prelude.{◌≡◌, ⊤, ℕ, List, Option, None, Some, Result, Ok, Err}
use Rattle.sgm_base.specs.Picture.{Picture}
use Rattle.sgm_base.specs.declared.side.Side.TheVariants as side
use Rattle.sgm_pgm.specs.declared.fault.PgmFault.{PgmFault}
use Rattle.sgm_calib.specs.Calibration.{Calibration, plain}
use Rattle.sgm_calib.specs.Read.{Reads as ReadsCalib}
use Rattle.sgm_calib.specs.declared.keys.CalibFault.{CalibFault}
use Rattle.sgm_outcome.specs.declared.outcome.Refusal.{Refusal}
use Rattle.sgm_outcome.specs.declared.outcome.Refusal.TheVariants.{Pgm, Calib}
use Rattle.sgm_stages.specs.Refusals.{or_refused, ◌>>=◌}
use Rattle.sgm_stages.specs.declared.judge.Judged.{Judged}
use Rattle.sgm_stages.specs.declared.stops.TextsError.{TextsError}
use Rattle.sgm_stages.specs.declared.stops.TextsError.TheVariants.{Refused, NoMemory}

-- the plain calibration where there are no bytes, else a reading of them
abbrev pub CalibReads : Option (List ℕ) → Result Calibration CalibFault → Type 0
CalibReads None reading = reading ≡ Ok plain
CalibReads (Some bytes) reading = ReadsCalib bytes reading

-- the stop is the refusal that is wanted, or there was no memory
abbrev pub StopsFor : {T : Type 0} → Result T Refusal → TextsError → Type 0
StopsFor wanted (Refused refusal) = wanted ≡ Err refusal
StopsFor wanted NoMemory = ⊤

-- the pair and the calibration that inputs with these readings are judged to be, or their first
-- refusal
unfoldable pub judged_for : Result Picture PgmFault → Result Picture PgmFault
    → Result Calibration CalibFault → Result Judged Refusal
judged_for left right calib = do
  a ← or_refused (Pgm side.Left) left
  b ← or_refused (Pgm side.Right) right
  c ← or_refused Calib calib
  Ok (record { left = a; right = b; calib = c })
