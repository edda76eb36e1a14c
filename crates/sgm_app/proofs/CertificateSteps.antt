-- The certificate that a pair calls for, from one step to the next.
use Rattle.std.proofs.Common.{◌≡◌, ◌∙◌, refl, ap, Bool, true, false, if◌then◌else◌, None, Some, List, ℕ, Result, Ok, Err}
use Rattle.sgm_base.specs.Picture.{Picture}
use Rattle.sgm_pgm.specs.declared.fault.PgmFault.{PgmFault}
use Rattle.sgm_energy.specs.declared.dir.Dir.{Dir}
use Rattle.sgm_energy.specs.Rays.{Problem, pixel_at}
use Rattle.sgm_strip.specs.Scenes.{SceneParts, problem_of}
use Rattle.sgm_trace.specs.Texts.{trace_text}
use Rattle.sgm_calib.specs.Calibration.{Calibration}
use Rattle.sgm_calib.specs.declared.keys.CalibFault.{CalibFault}
use Rattle.sgm_job.specs.Survey.{Prepared, prepared}
use Rattle.sgm_job.specs.Answers.{Prepares, matched_in}
use Rattle.sgm_job.specs.declared.job.SurveyFault.{SurveyFault}
use Rattle.sgm_job.specs.declared.job.SurveyError.{SurveyError}
use Rattle.sgm_job.specs.declared.job.SurveyError.TheVariants as survey
use Rattle.sgm_outcome.specs.declared.outcome.Refusal.{Refusal}
use Rattle.sgm_outcome.specs.declared.outcome.Refusal.TheVariants.{NotInside}
use Rattle.sgm_stages.specs.Judge.{StopsFor, judged_for}
use Rattle.sgm_app.specs.Judge.{certificate_of_judged}
use Rattle.sgm_app.specs.Stops.{survey_stop}
use Rattle.sgm_stages.specs.Refusals.{or_refused, ◌>>=◌, unless}
use Rattle.sgm_app.specs.Refusals.{refusal_of}
use Rattle.sgm_app.specs.Certificates.{certificate_for, inside_refusal, is_inside}
use Rattle.sgm_stages.specs.declared.judge.Judged.{Judged}
use Rattle.sgm_stages.specs.declared.stops.TextsError.{TextsError}
use Rattle.sgm_stages.proofs.Steps.{goes_on, stops_on, stops_along}

-- ---- what comes after each step

pub record Asked : Type 0 where
  pub dir : Dir
  pub x : ℕ
  pub y : ℕ
  pub d : ℕ

abbrev pub certificate_in : Asked → Problem → Result (List ℕ) Refusal
certificate_in asked g = unless (inside_refusal g asked.x asked.y asked.d) (trace_text g asked.dir (pixel_at asked.x asked.y) asked.d)

abbrev after_scene : Asked → Prepared → Result (List ℕ) Refusal
after_scene asked made = certificate_in asked made.problem

from_judging : (left right : Result Picture PgmFault) (calib : Result Calibration CalibFault) (dir : Dir) (x y d : ℕ) → certificate_for left right calib dir x y d ≡ (judged_for left right calib >>= λ j. certificate_of_judged j dir x y d)
unfolding certificate_for judged_for certificate_of_judged
from_judging (Err fault) right calib dir x y d = refl
from_judging (Ok a) (Err fault) calib dir x y d = refl
from_judging (Ok a) (Ok b) (Err fault) dir x y d = refl
from_judging (Ok a) (Ok b) (Ok c) dir x y d = refl

pub go_on : (left right : Result Picture PgmFault) (calib : Result Calibration CalibFault) (dir : Dir) (x y d : ℕ) (j : Judged) → judged_for left right calib ≡ Ok j → certificate_for left right calib dir x y d ≡ certificate_of_judged j dir x y d
go_on left right calib dir x y d j is = from_judging left right calib dir x y d ∙ goes_on (judged_for left right calib) (λ k. certificate_of_judged k dir x y d) j is

pub stop_judging : (left right : Result Picture PgmFault) (calib : Result Calibration CalibFault) (dir : Dir) (x y d : ℕ) (stop : TextsError) → StopsFor (judged_for left right calib) stop → StopsFor (certificate_for left right calib dir x y d) stop
stop_judging left right calib dir x y d stop is =
    stops_along _ _ stop (from_judging left right calib dir x y d) (stops_on (judged_for left right calib) (λ k. certificate_of_judged k dir x y d) stop is)

-- the certificate for what is asked
abbrev wanted : Judged → Asked → Result (List ℕ) Refusal
wanted j asked = certificate_of_judged j asked.dir asked.x asked.y asked.d

scene_of : (j : Judged) (asked : Asked) → wanted j asked ≡ (or_refused refusal_of (prepared j.left j.right j.calib) >>= after_scene asked)
unfolding certificate_of_judged
scene_of j asked = refl

-- ---- the certificate of the scene, or the stop of a step

pub of_scene : (j : Judged) (asked : Asked) (scene : SceneParts) → Prepares (prepared j.left j.right j.calib) (Ok scene) → wanted j asked ≡ certificate_in asked (problem_of scene)
of_scene j asked scene made =
    scene_of j asked
    ∙ goes_on (or_refused refusal_of (prepared j.left j.right j.calib)) (after_scene asked) (matched_in scene) (ap (λ (w : Result Prepared SurveyFault). or_refused refusal_of w) made)

-- a scene that wasn't made is the refusal, or there was no memory
scene_stops : (found : Result Prepared SurveyFault) (error : SurveyError) → Prepares found (Err error) → StopsFor (or_refused refusal_of found) (survey_stop error)
scene_stops found (survey.Fault fault) is = ap (λ (w : Result Prepared SurveyFault). or_refused refusal_of w) is
scene_stops found survey.NoMemory is = tt

pub stop_scene : (j : Judged) (asked : Asked) (error : SurveyError) → Prepares (prepared j.left j.right j.calib) (Err error) → StopsFor (wanted j asked) (survey_stop error)
stop_scene j asked error made =
    stops_along _ _ (survey_stop error) (scene_of j asked)
    (stops_on (or_refused refusal_of (prepared j.left j.right j.calib)) (after_scene asked) (survey_stop error) (scene_stops (prepared j.left j.right j.calib) error made))

-- ---- inside or not

pub given_inside : (asked : Asked) (g : Problem) → is_inside g asked.x asked.y asked.d ≡ true → certificate_in asked g ≡ Ok (trace_text g asked.dir (pixel_at asked.x asked.y) asked.d)
unfolding inside_refusal
given_inside asked g is =
    ap (λ (inside : Bool). unless (if inside then None else Some (NotInside asked.x asked.y asked.d)) (trace_text g asked.dir (pixel_at asked.x asked.y) asked.d)) is

pub refused_outside : (asked : Asked) (g : Problem) → is_inside g asked.x asked.y asked.d ≡ false → certificate_in asked g ≡ Err (NotInside asked.x asked.y asked.d)
unfolding inside_refusal
refused_outside asked g is =
    ap (λ (inside : Bool). unless (if inside then None else Some (NotInside asked.x asked.y asked.d)) (trace_text g asked.dir (pixel_at asked.x asked.y) asked.d)) is
