use Rattle.std.proofs.Common.{false, get_or, arith}
use Rattle.sgm_census.proofs.CostWords.{cost-masked}
use Rattle.sgm_census.proofs.cost.cost_each.Goals as goal

pub returns : goal.returns
returns c = λ i h.
    cost-masked c.args.scale.bits c.args.scale.missing c.args.code (get_or c.args.words.now i 0) (get_or c.hamming_to.new.into i 0) (get_or c.mask.new.into i 0) (get_or c.args.present.now i false)
    c.requires.code (c.requires.words.within i)
    (c.hamming_to.ensures i (omega arith))
    (c.mask.ensures i h)
