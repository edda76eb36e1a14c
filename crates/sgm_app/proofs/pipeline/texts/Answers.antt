use Rattle.std.proofs.Common.{◌≡◌, sym, subst, Result, Ok, MatchResult}
use Rattle.sgm_outcome.specs.declared.outcome.Refusal.{Refusal}
use Rattle.sgm_stages.specs.Judge.{StopsFor}
use Rattle.sgm_stages.specs.Made.{texts_in}
use Rattle.sgm_stages.specs.Texts.{Texts}
use Rattle.sgm_app.proofs.TextSteps.{go_on, stop_judging}
use Rattle.sgm_app.proofs.pipeline.texts.Goals as goal

pub returns-in-Ok : goal.returns-in-Ok
returns-in-Ok g c = λ left right calib on_left on_right on_calib.
    let same = go_on left right calib c.args.refine c.in-Ok.judged (c.in-Ok.ensures left right calib on_left on_right on_calib) in
    let P : Result Texts Refusal → Type 0 = λ w. MatchResult c.judged_texts.result (λ made. w ≡ Ok (texts_in made)) (StopsFor w) in
    subst P (sym same) c.judged_texts.ensures

pub returns-in-Err : goal.returns-in-Err
returns-in-Err g c = λ left right calib on_left on_right on_calib.
    stop_judging left right calib c.args.refine c.in-Err.stop (c.in-Err.ensures left right calib on_left on_right on_calib)
