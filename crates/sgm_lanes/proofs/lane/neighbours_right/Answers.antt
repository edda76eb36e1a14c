use Rattle.std.proofs.Common.{◌∙◌, arith}
use Rattle.std.proofs.lemmas.Grind.{common_steps}
use Rattle.sgm_lanes.proofs.Lanes.{picked}
use Rattle.sgm_lanes.proofs.lane.neighbours_right.Goals as goal

pub returns-clause-others : goal.returns-clause-others
returns-clause-others c i lt = picked c.args.lanes c.args.ahead 1 i (omega arith) (omega arith) (omega arith) (omega arith) ∙ grind (arith, common_steps)

pub returns-clause-last : goal.returns-clause-last
returns-clause-last c = picked c.args.lanes c.args.ahead 1 15 (omega arith) (omega arith) (omega arith) (omega arith) ∙ grind (arith, common_steps)
