use Rattle.std.proofs.Common.{◌+◌, ◌∙◌, arith}
use Rattle.std.proofs.lemmas.Grind.{common_steps}
use Rattle.sgm_lanes.proofs.Lanes.{picked}
use Rattle.sgm_lanes.proofs.lane.neighbours_left.Goals as goal

pub returns-clause-first : goal.returns-clause-first
returns-clause-first c = picked c.args.behind c.args.lanes 15 0 (omega arith) (omega arith) (omega arith) (omega arith) ∙ grind (arith, common_steps)

pub returns-clause-others : goal.returns-clause-others
returns-clause-others c i lt = picked c.args.behind c.args.lanes 15 (i + 1) (omega arith) (omega arith) (omega arith) (omega arith) ∙ grind (arith, common_steps)
