use Rattle.std.proofs.Common.{arith, to_z, of_z, w32, subst, sym}
use Rattle.std.proofs.lemmas.Int.{ints}
use Rattle.sgm_base.specs.Ranges.{Within}
use Rattle.sgm_fine.proofs.Totals.{product_kept, product_within}
use Rattle.sgm_fine.proofs.sums.product.Goals as goal

pub returns-clause-small : goal.returns-clause-small
returns-clause-small c =
    let a = c.args.a in
    let b = c.args.b in
    let h = c.requires.a_small in
    let k = c.requires.b_small in
    subst (Within 16777216)
    (sym (product_kept 4096 4096 a b (to_z w32 (of_z w32 c.from.result)) (to_z w32 (of_z w32 c.from-2.result)) (omega arith) (omega (arith, ints, c.from.ensures))
    (omega (arith, ints, c.from-2.ensures)) h k))
    (product_within 4096 4096 a b h k)
