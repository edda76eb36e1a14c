use Rattle.std.proofs.Common.{◌≤◌, arith}
use Rattle.std.proofs.lemmas.List.Elements.{All-from_get_or}
use Rattle.sgm_lanes.proofs.minimum.least_of_few.Goals as goal

pub returns-clause-least : goal.returns-clause-least
returns-clause-least c = All-from_get_or (λ x. c.loop-x.low ≤ x) c.args.v.now 0 (λ k h. c.loop-x.invariant.least k (omega (arith, h, c.loop-x-test.false)))
