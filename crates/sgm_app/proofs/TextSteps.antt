-- The texts that inputs call for, from one step to the next.
use Rattle.std.proofs.Common.{◌≡◌, ◌∙◌, refl, List, ℕ, Result, Ok, Err}
use Rattle.sgm_base.specs.Picture.{Picture}
use Rattle.sgm_base.specs.declared.side.Side.TheVariants.{Left, Right}
use Rattle.sgm_pgm.specs.declared.fault.PgmFault.{PgmFault}
use Rattle.sgm_calib.specs.Calibration.{Calibration, plain}
use Rattle.sgm_calib.specs.declared.keys.CalibFault.{CalibFault}
use Rattle.sgm_base.specs.Refining.{Refining}
use Rattle.sgm_job.specs.Survey.{Survey, surveyed}
use Rattle.sgm_outcome.specs.declared.outcome.Refusal.{Refusal}
use Rattle.sgm_stages.specs.Pair.{pair_image}
use Rattle.sgm_stages.specs.Judge.{StopsFor, judged_for}
use Rattle.sgm_app.specs.Judge.{texts_of_judged, demo_of_judged}
use Rattle.sgm_stages.specs.Texts.{Texts, demo_text}
use Rattle.sgm_app.specs.Texts.{texts_of}
use Rattle.sgm_stages.specs.Refusals.{or_refused, ◌>>=◌}
use Rattle.sgm_app.specs.Refusals.{refusal_of}
use Rattle.sgm_app.specs.Verdict.{texts_for, demo_for}
use Rattle.sgm_app.specs.declared.demo.TheConstants.{DEMO_WIDTH, DEMO_HEIGHT}
use Rattle.sgm_stages.specs.declared.judge.Judged.{Judged}
use Rattle.sgm_stages.specs.declared.stops.TextsError.{TextsError}
use Rattle.sgm_stages.proofs.Steps.{goes_on, stops_on, stops_along}

-- ---- what comes after each step

abbrev after_survey : Calibration → Survey → Result Texts Refusal
after_survey c survey = Ok (texts_of c survey)

from_judging : (left right : Result Picture PgmFault) (calib : Result Calibration CalibFault) (refine : Refining) → texts_for left right calib refine ≡ (judged_for left right calib >>= λ j. texts_of_judged j refine)
unfolding texts_for judged_for texts_of_judged
from_judging (Err fault) right calib refine = refl
from_judging (Ok a) (Err fault) calib refine = refl
from_judging (Ok a) (Ok b) (Err fault) refine = refl
from_judging (Ok a) (Ok b) (Ok c) refine = refl

pub go_on : (left right : Result Picture PgmFault) (calib : Result Calibration CalibFault) (refine : Refining) (j : Judged) → judged_for left right calib ≡ Ok j → texts_for left right calib refine ≡ texts_of_judged j refine
go_on left right calib refine j is = from_judging left right calib refine ∙ goes_on (judged_for left right calib) (λ k. texts_of_judged k refine) j is

pub stop_judging : (left right : Result Picture PgmFault) (calib : Result Calibration CalibFault) (refine : Refining) (stop : TextsError) → StopsFor (judged_for left right calib) stop → StopsFor (texts_for left right calib refine) stop
stop_judging left right calib refine stop is = stops_along _ _ stop (from_judging left right calib refine) (stops_on (judged_for left right calib) (λ k. texts_of_judged k refine) stop is)

survey_of : (j : Judged) (refine : Refining) → texts_of_judged j refine ≡ (or_refused refusal_of (surveyed j.left j.right j.calib refine) >>= after_survey j.calib)
unfolding texts_of_judged
survey_of j refine = refl

-- ---- the texts, or the stop of a step

pub texts_made : (j : Judged) (refine : Refining) (survey : Survey) → or_refused refusal_of (surveyed j.left j.right j.calib refine) ≡ Ok survey → texts_of_judged j refine ≡ Ok (texts_of j.calib survey)
texts_made j refine survey is = survey_of j refine ∙ goes_on (or_refused refusal_of (surveyed j.left j.right j.calib refine)) (after_survey j.calib) survey is

pub stop_survey : (j : Judged) (refine : Refining) (stop : TextsError) → StopsFor (or_refused refusal_of (surveyed j.left j.right j.calib refine)) stop → StopsFor (texts_of_judged j refine) stop
stop_survey j refine stop is = stops_along _ _ stop (survey_of j refine) (stops_on (or_refused refusal_of (surveyed j.left j.right j.calib refine)) (after_survey j.calib) stop is)

-- ---- a demo

abbrev after_demo : Survey → Result (List ℕ) Refusal
after_demo survey = Ok (demo_text survey.disp)

demo_survey : (j : Judged) (refine : Refining) → demo_of_judged j refine ≡ (or_refused refusal_of (surveyed j.left j.right j.calib refine) >>= after_demo)
unfolding demo_of_judged
demo_survey j refine = refl

pub demo_made : (j : Judged) (refine : Refining) (survey : Survey) → or_refused refusal_of (surveyed j.left j.right j.calib refine) ≡ Ok survey → demo_of_judged j refine ≡ Ok (demo_text survey.disp)
demo_made j refine survey is = demo_survey j refine ∙ goes_on (or_refused refusal_of (surveyed j.left j.right j.calib refine)) after_demo survey is

pub demo_stop : (j : Judged) (refine : Refining) (stop : TextsError) → StopsFor (or_refused refusal_of (surveyed j.left j.right j.calib refine)) stop → StopsFor (demo_of_judged j refine) stop
demo_stop j refine stop is = stops_along _ _ stop (demo_survey j refine) (stops_on (or_refused refusal_of (surveyed j.left j.right j.calib refine)) after_demo stop is)

-- the pair that is generated from the number, with the plain settings
pub demo_at : (number : ℕ) (refine : Refining) (a b : Picture) (c : Calibration) → a ≡ pair_image number Left DEMO_WIDTH DEMO_HEIGHT → b ≡ pair_image number Right DEMO_WIDTH DEMO_HEIGHT → c ≡ plain
    → demo_for number refine ≡ demo_of_judged (record { left = a; right = b; calib = c }) refine
unfolding demo_for demo_of_judged
demo_at number refine a b c is_left is_right is_plain = rw (is_left, is_right, is_plain) refl
