use Rattle.std.proofs.Common.{◌≤◌, arith}
use Rattle.std.proofs.lemmas.List.Elements.{All-from_get_or}
use Rattle.sgm_lanes.proofs.minimum.least.Goals as goal

pub returns-clause-least : goal.returns-clause-least
returns-clause-least c = All-from_get_or (λ x. c.loop-i.low ≤ x) c.args.v.now 0 (λ k h. c.loop-i.invariant.least k (omega (arith, h, c.loop-i-test.false)))
