use Rattle.std.proofs.Common.{◌≡◌, sym, subst, List, ℕ, Result, Ok, MatchResult}
use Rattle.sgm_outcome.specs.declared.outcome.Refusal.{Refusal}
use Rattle.sgm_stages.specs.Judge.{StopsFor}
use Rattle.sgm_app.proofs.CertificateSteps.{Asked, of_scene, stop_scene}
use Rattle.sgm_app.proofs.certificate.judged_certificate.Goals as goal

pub returns-in-Ok : goal.returns-in-Ok
returns-in-Ok c =
    let asked : Asked = record { dir = c.args.at.dir; x = c.args.at.x; y = c.args.at.y; d = c.args.at.d } in
    let same = of_scene c.args.judged.now asked c.in-Ok.scene c.in-Ok.ensures in
    let P : Result (List ℕ) Refusal → Type 0 = λ w. MatchResult c.certificate_of.result (λ text. w ≡ Ok text.items) (StopsFor w) in
    subst P (sym same) c.certificate_of.ensures

pub returns-in-Err : goal.returns-in-Err
returns-in-Err c =
    let asked : Asked = record { dir = c.args.at.dir; x = c.args.at.x; y = c.args.at.y; d = c.args.at.d } in
    rw c.survey_stop.ensures (stop_scene c.args.judged.now asked c.in-Err.error c.in-Err.ensures)
