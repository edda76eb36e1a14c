use Rattle.std.proofs.Common.{◌^◌, ◌*◌, subst, sym, arith}
use Rattle.std.proofs.lemmas.Int.{ints}
use Rattle.sgm_base.specs.Ranges.{Within}
use Rattle.sgm_height.proofs.Turning.{dot_is, factors_are, pair_fits, sum_is, sum_near, triple_fits, wider}
use Rattle.sgm_height.proofs.pose.dot.Goals as goal

pub overflow_add-result : goal.overflow_add-result
overflow_add-result c =
    pair_fits c.product.result c.product-2.result c.product.ensures.near c.product-2.ensures.near

pub overflow_add-result-2 : goal.overflow_add-result-2
overflow_add-result-2 c =
    triple_fits c.product.result c.product-2.result c.product-3.result c.product.ensures.near
    c.product-2.ensures.near c.product-3.ensures.near

pub returns-clause-exact : goal.returns-clause-exact
returns-clause-exact c =
    dot_is c.product.result c.product-2.result c.product-3.result _ _ _
    (factors_are c.args.a.x c.args.b.x c.product.result (wider _ c.requires.a.x_in_range)
    (wider _ c.requires.b.x_in_range) c.product.ensures.exact)
    (factors_are c.args.a.y c.args.b.y c.product-2.result (wider _ c.requires.a.y_in_range)
    (wider _ c.requires.b.y_in_range) c.product-2.ensures.exact)
    (factors_are c.args.a.h c.args.b.h c.product-3.result (wider _ c.requires.a.h_in_range)
    (wider _ c.requires.b.h_in_range) c.product-3.ensures.exact)
    c.product.ensures.near
    c.product-2.ensures.near c.product-3.ensures.near

pub returns-clause-near : goal.returns-clause-near
returns-clause-near c =
    let near = sum_near (2 ^ 60) c.product.result c.product-2.result c.product-3.result
    c.product.ensures.near c.product-2.ensures.near c.product-3.ensures.near in
    let is = sum_is c.product.result c.product-2.result c.product-3.result c.product.ensures.near
    c.product-2.ensures.near c.product-3.ensures.near in
    let within : Within (3 * 2 ^ 60) _ = subst (Within (3 * 2 ^ 60)) (sym is) near in
    (omega (arith, ints, within.0), omega (arith, ints, within.1))
