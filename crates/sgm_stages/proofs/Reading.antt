-- The inputs at hand read as what is held reads.
use Rattle.std.proofs.Common.{◌≡◌, ℕ, List, Bool, true, false, Option, None, Some, Result, Ok, refl, sym, ap, ◌∙◌, subst, if◌then◌else◌}
use Rattle.sgm_base.specs.Picture.{Picture}
use Rattle.sgm_io.specs.Held.{Held}
use Rattle.sgm_pgm.specs.Read.{Reads}
use Rattle.sgm_pgm.specs.declared.fault.PgmFault.{PgmFault}
use Rattle.sgm_grid.specs.Asc.{asc_reading}
use Rattle.sgm_grid.specs.Cells.{Cells}
use Rattle.sgm_grid.specs.declared.asc_fault.AscFault.{AscFault}
use Rattle.sgm_calib.specs.Calibration.{Calibration, plain}
use Rattle.sgm_calib.specs.Read.{Reads as ReadsCalib}
use Rattle.sgm_calib.specs.declared.keys.CalibFault.{CalibFault}
use Rattle.sgm_words.specs.Operands.{Operands, is_plain}
use Rattle.sgm_stages.specs.Changing.{change_for}
use Rattle.sgm_stages.specs.Readings.{Readings, IsReading, AreReadings, grid_reading}
use Rattle.sgm_stages.specs.Gather.{HasCalib, AtHand}
use Rattle.sgm_stages.specs.Judge.{CalibReads}
use Rattle.sgm_stages.specs.Verdict.{calib_of}
use Rattle.sgm_stages.specs.Inputs.{InputBytes}

pub image_reads : (held : Option (List ℕ)) (items bytes : List ℕ) (reading : Result Picture PgmFault) → held ≡ Some items → bytes ≡ items → IsReading Reads held reading → Reads bytes reading
image_reads held items bytes reading same are is =
    let P : Option (List ℕ) → Type 0 = λ h. IsReading Reads h reading in
    let Q : List ℕ → Type 0 = λ b. Reads b reading in
    subst Q (sym are) (subst P same is)

pub calib_reads_by : (is : Bool) (held : Option (List ℕ)) (bytes : Option (List ℕ)) (reading : Result Calibration CalibFault) →
    HasCalib is held bytes → IsReading ReadsCalib held reading
    → CalibReads bytes (if is then Ok plain else reading)
calib_reads_by true held None reading has reads = refl
calib_reads_by true held (Some bytes) reading has reads = absurd has
calib_reads_by false held None reading has reads = absurd has
calib_reads_by false held (Some bytes) reading has reads = let P : Option (List ℕ) → Type 0 = λ h. IsReading ReadsCalib h reading in
    subst P has reads

pub calib_reads : (asked : Operands) (held : Held) (r : Readings) (inputs : InputBytes) (bytes : Option (List ℕ)) →
    AtHand asked held inputs → AreReadings asked held r → bytes ≡ inputs.calib
    → CalibReads bytes (calib_of asked r)
calib_reads asked held r inputs bytes at are same =
    let P : Option (List ℕ) → Type 0 = λ b. CalibReads b (calib_of asked r) in
    subst P (sym same) (calib_reads_by (is_plain asked) (held asked.calib) inputs.calib r.calib at.calib are.calib)

grid_at : (held : Option (List ℕ)) (items bytes : List ℕ) → held ≡ Some items → bytes ≡ items → grid_reading held ≡ asc_reading bytes
grid_at held items bytes same are = ap (λ (h : Option (List ℕ)). grid_reading h) same ∙ ap (λ (b : List ℕ). asc_reading b) (sym are)

-- what grids that are held call for is what the bytes at hand call for
pub grids_at : (earlier later : Option (List ℕ)) (e l one other : List ℕ) → earlier ≡ Some e → later ≡ Some l → one ≡ e → other ≡ l → change_for (grid_reading earlier) (grid_reading later) ≡ change_for (asc_reading one) (asc_reading other)
grids_at earlier later e l one other at_earlier at_later is_earlier is_later =
    ap (λ (a : Result Cells AscFault). change_for a (grid_reading later)) (grid_at earlier e one at_earlier is_earlier)
    ∙ ap (λ (b : Result Cells AscFault). change_for (asc_reading one) b) (grid_at later l other at_later is_later)
