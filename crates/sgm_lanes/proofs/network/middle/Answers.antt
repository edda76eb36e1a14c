use Rattle.std.proofs.Common.{◌≡◌, ◌∙◌, sym}
use Rattle.sgm_lanes.proofs.Fives.{network, middle_of-network}
use Rattle.sgm_lanes.proofs.network.middle.Goals as goal

pub returns : goal.returns
returns c =
    let is : c.max-4.result ≡ network c.args.own c.args.right c.args.left c.args.below c.args.above = cc in
    is ∙ sym (middle_of-network c.args.own c.args.right c.args.left c.args.below c.args.above)
