use Rattle.sgm_calib.proofs.Answers.{some_answer, one_answer}
use Rattle.sgm_calib.proofs.laws.answers.Goals as goal

pub returns-clause-some : goal.returns-clause-some
returns-clause-some c = some_answer

pub returns-clause-one : goal.returns-clause-one
returns-clause-one c = one_answer
