use Rattle.std.proofs.Common.{◌∙◌, ap, sym, Result, Ok}
use Rattle.sgm_job.specs.Answers.{seen}
use Rattle.sgm_outcome.specs.declared.outcome.Refusal.{Refusal}
use Rattle.sgm_app.specs.Stops.{survey_stop}
use Rattle.sgm_stages.specs.Texts.{Texts}
use Rattle.sgm_app.proofs.Steps.{survey_goes, survey_stops}
use Rattle.sgm_app.proofs.TextSteps.{texts_made, stop_survey}
use Rattle.sgm_app.proofs.Tallied.{tallied}
use Rattle.sgm_app.proofs.pipeline.judged_texts.Goals as goal

pub returns-in-Err : goal.returns-in-Err
returns-in-Err g c =
    rw c.survey_stop.ensures (stop_survey c.args.judged.now c.args.refine (survey_stop c.in-Err.error) (survey_stops _ c.in-Err.error c.in-Err.ensures.exact))

pub of-requires-clause-tallies : goal.of-requires-clause-tallies
of-requires-clause-tallies g c =
    let j = c.args.judged.now in tallied j.left j.right j.calib c.args.refine (seen c.in-Ok.surveyed) c.in-Ok.ensures.exact

pub returns-in-Ok-of : goal.returns-in-Ok-of
returns-in-Ok-of g c =
    texts_made c.args.judged.now c.args.refine (seen c.in-Ok.surveyed) (survey_goes _ (seen c.in-Ok.surveyed) c.in-Ok.ensures.exact)
    ∙ ap (λ (t : Texts). let r : Result Texts Refusal = Ok t in r) (sym c.in-Ok-of.ensures)
