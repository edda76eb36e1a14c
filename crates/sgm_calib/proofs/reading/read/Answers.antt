use Rattle.serde_json.specs.View.{view}
use Rattle.sgm_calib.proofs.Answers.{text-of_value}
use Rattle.sgm_calib.proofs.reading.read.Goals as goal

pub returns-in-Ok-clause-exact : goal.returns-in-Ok-clause-exact
returns-in-Ok-clause-exact c =
    text-of_value _ (view c.in-Ok.value) _ (record { text = c.in-Ok.ensures.ok.0; value = c.in-Ok.ensures.ok.1 }) c.judge.ensures
