use Rattle.sgm_board.proofs.Soundness.{shows-sound}
use Rattle.sgm_board.proofs.laws.soundness.Goals as goal

pub returns-clause-shown : goal.returns-clause-shown
returns-clause-shown c about made s rule = (rule.0, rule.1)

pub returns-clause-sound : goal.returns-clause-sound
returns-clause-sound c = shows-sound
