-- What was made of the inputs of a pair.
use Rattle.std.specs.Prelude.{◌≡◌, ℕ, List, Result, Ok, MatchResult, Some, slice_get}
use Rattle.sgm_base.specs.Picture.{Picture}
use Rattle.sgm_pgm.specs.Read.{Reads}
use Rattle.sgm_pgm.specs.declared.fault.PgmFault.{PgmFault}
use Rattle.sgm_calib.specs.Calibration.{Calibration}
use Rattle.sgm_calib.specs.declared.keys.CalibFault.{CalibFault}
use Rattle.sgm_base.specs.Refining.{plain}
use Rattle.sgm_stages.specs.declared.made.MadeTexts.{MadeTexts}
use Rattle.sgm_stages.specs.declared.stops.TextsError.{TextsError}
use Rattle.sgm_stages.specs.Inputs.{InputBytes}
use Rattle.sgm_stages.specs.Judge.{CalibReads, StopsFor}
use Rattle.sgm_stages.specs.Made.{texts_in}
use Rattle.sgm_app.specs.Verdict.{texts_for}

-- the texts are those that the inputs call for where nothing is removed or filled, whatever their
-- readings; or they are refused as the inputs are; or there was no memory
abbrev pub IsMadeOf : InputBytes → Result MadeTexts TextsError → Type 0
IsMadeOf inputs made = (left right : Result Picture PgmFault)
    (calib : Result Calibration CalibFault)
    → Reads inputs.left left → Reads inputs.right right → CalibReads inputs.calib calib
    → MatchResult made
    (λ texts. texts_for left right calib plain ≡ Ok (texts_in texts))
    (StopsFor (texts_for left right calib plain))

-- what a worker made of an entry's inputs
pub record PieceParts : Type 0 where
  pub entry : ℕ
  pub worker : ℕ
  pub inputs : InputBytes
  pub made : Result MadeTexts TextsError

-- the piece is that of its entry's inputs
abbrev pub IsPieceOf : List InputBytes → PieceParts → Type 0
IsPieceOf batch piece = slice_get batch piece.entry ≡ Some piece.inputs
