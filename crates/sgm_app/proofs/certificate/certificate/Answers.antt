use Rattle.std.proofs.Common.{◌≡◌, sym, subst, List, ℕ, Result, Ok, MatchResult}
use Rattle.sgm_outcome.specs.declared.outcome.Refusal.{Refusal}
use Rattle.sgm_stages.specs.Judge.{StopsFor}
use Rattle.sgm_app.proofs.CertificateSteps.{go_on, stop_judging}
use Rattle.sgm_app.proofs.certificate.certificate.Goals as goal

pub returns-in-Ok : goal.returns-in-Ok
returns-in-Ok c = λ left right calib on_left on_right on_calib.
    let same = go_on left right calib c.args.at.dir c.args.at.x c.args.at.y c.args.at.d c.in-Ok.judged (c.in-Ok.ensures left right calib on_left on_right on_calib) in
    let P : Result (List ℕ) Refusal → Type 0 = λ w. MatchResult c.judged_certificate.result (λ text. w ≡ Ok text.items) (StopsFor w) in
    subst P (sym same) c.judged_certificate.ensures

pub returns-in-Err : goal.returns-in-Err
returns-in-Err c = λ left right calib on_left on_right on_calib.
    stop_judging left right calib c.args.at.dir c.args.at.x c.args.at.y c.args.at.d c.in-Err.stop (c.in-Err.ensures left right calib on_left on_right on_calib)
