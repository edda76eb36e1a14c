-- Which verdict the words of a change and of a merge call for over what is held.
use Rattle.std.specs.Prelude.{◌≡◌, Result}
use Rattle.sgm_io.specs.Held.{Held}
use Rattle.sgm_calib.specs.Calibration.{Calibration}
use Rattle.sgm_calib.specs.declared.keys.CalibFault.{CalibFault}
use Rattle.sgm_calib.specs.Read.{Reads as ReadsCalib}
use Rattle.sgm_words.specs.Operands.{ChangeOperands, MergeOperands}
use Rattle.sgm_stages.specs.Readings.{IsReading}
use Rattle.sgm_stages.specs.Verdict.{Verdict, grids_fetched, merge_fetched}
use Rattle.sgm_stages.specs.Verdict.{plan_of, changed, plan_carried_out}

-- a change of these operands calls for the verdict
abbrev pub ChangeCallsFor : ChangeOperands → Held → Verdict → Type 0
ChangeCallsFor asked held v = grids_fetched asked held (changed asked held) ≡ v

-- a merge of these operands calls for the verdict: it is that of some reading of the calibration
pub record MergeCallsFor (asked : MergeOperands) (held : Held) (v : Verdict) : Type 0 where
  pub calib : Result Calibration CalibFault
  pub is_reading : IsReading ReadsCalib (held asked.calib) calib
  pub is : merge_fetched asked held (plan_carried_out asked.out held (plan_of asked held calib)) ≡ v
