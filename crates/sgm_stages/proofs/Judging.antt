-- The judging of inputs, from one reading to the next.
use Rattle.std.proofs.Common.{◌≡◌, ◌∙◌, Result, Ok}
use Rattle.sgm_base.specs.Picture.{Picture}
use Rattle.sgm_base.specs.declared.side.Side.TheVariants.{Left, Right}
use Rattle.sgm_pgm.specs.declared.fault.PgmFault.{PgmFault}
use Rattle.sgm_calib.specs.Calibration.{Calibration}
use Rattle.sgm_calib.specs.declared.keys.CalibFault.{CalibFault}
use Rattle.sgm_outcome.specs.declared.outcome.Refusal.{Refusal}
use Rattle.sgm_outcome.specs.declared.outcome.Refusal.TheVariants.{Pgm, Calib}
use Rattle.sgm_stages.specs.Judge.{StopsFor, judged_for}
use Rattle.sgm_stages.specs.Refusals.{or_refused, ◌>>=◌}
use Rattle.sgm_stages.specs.declared.judge.Judged.{Judged}
use Rattle.sgm_stages.specs.declared.stops.TextsError.{TextsError}
use Rattle.sgm_stages.proofs.Steps.{goes_on, stops_on, stops_along}

abbrev after_calib : Picture → Picture → Calibration → Result Judged Refusal
after_calib a b c = Ok (record { left = a; right = b; calib = c })

abbrev after_right : Result Calibration CalibFault → Picture → Picture → Result Judged Refusal
after_right calib a b = or_refused Calib calib >>= after_calib a b

abbrev after_left : Result Picture PgmFault → Result Calibration CalibFault → Picture → Result Judged Refusal
after_left right calib a = or_refused (Pgm Right) right >>= after_right calib a

to_right : (left right : Result Picture PgmFault) (calib : Result Calibration CalibFault) (a : Picture) → or_refused (Pgm Left) left ≡ Ok a → judged_for left right calib ≡ after_left right calib a
unfolding judged_for
to_right left right calib a is = goes_on (or_refused (Pgm Left) left) (after_left right calib) a is

to_calib : (left right : Result Picture PgmFault) (calib : Result Calibration CalibFault) (a b : Picture) → or_refused (Pgm Left) left ≡ Ok a → or_refused (Pgm Right) right ≡ Ok b → judged_for left right calib ≡ after_right calib a b
to_calib left right calib a b is_left is_right = to_right left right calib a is_left ∙ goes_on (or_refused (Pgm Right) right) (after_right calib a) b is_right

pub judged : (left right : Result Picture PgmFault) (calib : Result Calibration CalibFault) (a b : Picture) (c : Calibration) → or_refused (Pgm Left) left ≡ Ok a → or_refused (Pgm Right) right ≡ Ok b → or_refused Calib calib ≡ Ok c
    → judged_for left right calib ≡ Ok (record { left = a; right = b; calib = c })
judged left right calib a b c is_left is_right is_calib = to_calib left right calib a b is_left is_right ∙ goes_on (or_refused Calib calib) (after_calib a b) c is_calib

pub stop_left : (left right : Result Picture PgmFault) (calib : Result Calibration CalibFault) (stop : TextsError) → StopsFor (or_refused (Pgm Left) left) stop → StopsFor (judged_for left right calib) stop
unfolding judged_for
stop_left left right calib stop is = stops_on (or_refused (Pgm Left) left) (after_left right calib) stop is

pub stop_right : (left right : Result Picture PgmFault) (calib : Result Calibration CalibFault) (stop : TextsError) (a : Picture) → or_refused (Pgm Left) left ≡ Ok a → StopsFor (or_refused (Pgm Right) right) stop → StopsFor (judged_for left right calib) stop
stop_right left right calib stop a is_left is = stops_along _ _ stop (to_right left right calib a is_left) (stops_on (or_refused (Pgm Right) right) (after_right calib a) stop is)

pub stop_calib : (left right : Result Picture PgmFault) (calib : Result Calibration CalibFault) (stop : TextsError) (a b : Picture) → or_refused (Pgm Left) left ≡ Ok a → or_refused (Pgm Right) right ≡ Ok b → StopsFor (or_refused Calib calib) stop
    → StopsFor (judged_for left right calib) stop
stop_calib left right calib stop a b is_left is_right is = stops_along _ _ stop (to_calib left right calib a b is_left is_right) (stops_on (or_refused Calib calib) (after_calib a b) stop is)
