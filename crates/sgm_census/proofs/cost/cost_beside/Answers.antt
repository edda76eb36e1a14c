use Rattle.std.proofs.Common.{get_or, false, sym, ap, cond}
use Rattle.sgm_census.proofs.CostWords.{cost-masked}
use Rattle.sgm_census.proofs.cost.cost_beside.Goals as goal

pub returns-then-right-place : goal.returns-then-right-place
returns-then-right-place c =
    let word = get_or c.args.right.words.now c.args.place 0 in
    cost-masked c.args.scale.bits c.args.scale.missing c.args.code word c.differing.result c.differing.result (get_or c.args.right.present.now c.args.place false)
    c.requires.code (c.requires.small.within c.args.place) c.differing.ensures (sym (ap (λ b. cond b c.differing.result c.args.scale.missing) c.if-right-place.true))
