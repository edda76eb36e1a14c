use Rattle.sgm_height.proofs.Level.{only_moved, at_rest}
use Rattle.sgm_height.proofs.laws.an_unturned_pose_moves.Goals as goal

pub returns-clause-moved : goal.returns-clause-moved
returns-clause-moved c = only_moved

pub returns-clause-at_rest : goal.returns-clause-at_rest
returns-clause-at_rest c = at_rest
