use Rattle.std.proofs.Common.{◌∙◌, ap, sym, List, ℕ, Result, Ok}
use Rattle.sgm_job.specs.Answers.{seen}
use Rattle.sgm_outcome.specs.declared.outcome.Refusal.{Refusal}
use Rattle.sgm_app.specs.Stops.{survey_stop}
use Rattle.sgm_app.proofs.Steps.{survey_goes, survey_stops}
use Rattle.sgm_app.proofs.TextSteps.{demo_made, demo_stop}
use Rattle.sgm_app.proofs.demo.judged_summary.Goals as goal

pub returns-in-Err : goal.returns-in-Err
returns-in-Err g c =
    rw c.survey_stop.ensures (demo_stop c.args.judged.now c.args.refine (survey_stop c.in-Err.error) (survey_stops _ c.in-Err.error c.in-Err.ensures.exact))

pub returns-in-Ok-demo_text : goal.returns-in-Ok-demo_text
returns-in-Ok-demo_text g c =
    demo_made c.args.judged.now c.args.refine (seen c.in-Ok.surveyed) (survey_goes _ (seen c.in-Ok.surveyed) c.in-Ok.ensures.exact)
    ∙ ap (λ (t : List ℕ). let r : Result (List ℕ) Refusal = Ok t in r) (sym c.in-Ok-demo_text.ensures)
