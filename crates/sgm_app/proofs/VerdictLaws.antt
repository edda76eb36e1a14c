-- No step of the verdict of a match or a trace says that an earlier input is absent, or refuses what comes earlier.
use Rattle.std.proofs.Common.{ℕ, ◌≤◌, List, Result}
use Rattle.sgm_base.specs.Picture.{Picture}
use Rattle.sgm_base.specs.declared.side.Side.TheVariants as side
use Rattle.sgm_pgm.specs.declared.fault.PgmFault.{PgmFault}
use Rattle.sgm_calib.specs.Calibration.{Calibration}
use Rattle.sgm_calib.specs.declared.keys.CalibFault.{CalibFault}
use Rattle.sgm_base.specs.Refining.{Refining}
use Rattle.sgm_energy.specs.declared.dir.Dir.{Dir}
use Rattle.sgm_energy.specs.Rays.{Problem}
use Rattle.sgm_job.specs.Survey.{surveyed, prepared}
use Rattle.sgm_job.specs.declared.job.SurveyFault.{SurveyFault}
use Rattle.sgm_job.specs.declared.job.SurveyFault.TheVariants as fault
use Rattle.sgm_outcome.specs.declared.outcome.Refusal.TheVariants as refusal
use Rattle.sgm_stages.specs.Refusals.{or_refused}
use Rattle.sgm_app.specs.Refusals.{refusal_of}
use Rattle.sgm_app.specs.Certificates.{is_inside, inside_refusal, certificate_for}
use Rattle.sgm_app.specs.Verdict.{texts_for, matched, traced}
use Rattle.sgm_stages.specs.Ends.{NoneBefore, refusal_order}
use Rattle.sgm_stages.proofs.VerdictLaws.{NeverBefore, never_ok, never_step, never_refused, NoneEarly, never_unless, none_early, none_unless, none_files, IsPresent, present_files, present_unless}

module _ (n : ℕ) (few : n ≤ 6) where
  never_survey : (found : SurveyFault) → n ≤ refusal_order (refusal_of found)
  never_survey (fault.SizesDiffer a b) = few
  never_survey (fault.VolumeTooLarge cells) = few
  never_survey (fault.Warp s found) = few

  never_texts : (left right : Result Picture PgmFault) (calib : Result Calibration CalibFault) (refine : Refining) → NeverBefore n (texts_for left right calib refine)
  unfolding texts_for
  never_texts left right calib refine =
      never_step n (or_refused (refusal.Pgm side.Left) left) _ (never_refused n (refusal.Pgm side.Left) left (λ f. few)) (λ a.
      never_step n (or_refused (refusal.Pgm side.Right) right) _ (never_refused n (refusal.Pgm side.Right) right (λ f. few)) (λ b.
      never_step n (or_refused refusal.Calib calib) _ (never_refused n refusal.Calib calib (λ f. few)) (λ c.
      never_step n (or_refused refusal_of (surveyed a b c refine)) _ (never_refused n refusal_of (surveyed a b c refine) never_survey) (λ survey. never_ok n _))))

  never_inside : (g : Problem) (x y d : ℕ) → NoneEarly n (inside_refusal g x y d)
  unfolding inside_refusal
  never_inside g x y d = none_early n (is_inside g x y d) (refusal.NotInside x y d) few

  never_certificate : (left right : Result Picture PgmFault) (calib : Result Calibration CalibFault) (dir : Dir) (x y d : ℕ) → NeverBefore n (certificate_for left right calib dir x y d)
  unfolding certificate_for
  never_certificate left right calib dir x y d =
      never_step n (or_refused (refusal.Pgm side.Left) left) _ (never_refused n (refusal.Pgm side.Left) left (λ f. few)) (λ a.
      never_step n (or_refused (refusal.Pgm side.Right) right) _ (never_refused n (refusal.Pgm side.Right) right (λ f. few)) (λ b.
      never_step n (or_refused refusal.Calib calib) _ (never_refused n refusal.Calib calib (λ f. few)) (λ c.
      never_step n (or_refused refusal_of (prepared a b c)) _ (never_refused n refusal_of (prepared a b c) never_survey) (λ made.
      never_unless n (inside_refusal made.problem x y d) _ (never_inside made.problem x y d)))))

pub none_matched : (n : ℕ) → n ≤ 6 → (out : List ℕ) (refine : Refining) (left right : Result Picture PgmFault) (calib : Result Calibration CalibFault) → NoneBefore n (matched out refine left right calib)
none_matched n few out refine left right calib = none_unless n (texts_for left right calib refine) _ (never_texts n few left right calib refine) (λ texts. none_files n _ _)

pub none_traced : (n : ℕ) → n ≤ 6 → (dir : Dir) (x y d : ℕ) (left right : Result Picture PgmFault) (calib : Result Calibration CalibFault) → NoneBefore n (traced dir x y d left right calib)
none_traced n few dir x y d left right calib = none_unless n (certificate_for left right calib dir x y d) _ (never_certificate n few left right calib dir x y d) (λ text. none_files n _ _)

pub present_matched : (out : List ℕ) (refine : Refining) (left right : Result Picture PgmFault) (calib : Result Calibration CalibFault) → IsPresent (matched out refine left right calib)
present_matched out refine left right calib = present_unless (texts_for left right calib refine) _ (λ texts. present_files _ _)

pub present_traced : (dir : Dir) (x y d : ℕ) (left right : Result Picture PgmFault) (calib : Result Calibration CalibFault) → IsPresent (traced dir x y d left right calib)
present_traced dir x y d left right calib = present_unless (certificate_for left right calib dir x y d) _ (λ text. present_files _ _)
