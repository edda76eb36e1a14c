use Rattle.std.proofs.Common.{◌^◌, ◌*◌, subst, sym, arith}
use Rattle.std.proofs.lemmas.Int.{ints}
use Rattle.sgm_base.specs.Ranges.{Within}
use Rattle.sgm_height.proofs.Turning.{factors_are, sum_near, wide_dot_is, wide_pair_fits, wide_sum_is, wide_triple_fits, wider}
use Rattle.sgm_height.proofs.pose.dot_point.Goals as goal

pub overflow_add-result : goal.overflow_add-result
overflow_add-result c =
    wide_pair_fits c.wide_product.result c.wide_product-2.result c.wide_product.ensures.near
    c.wide_product-2.ensures.near

pub overflow_add-result-2 : goal.overflow_add-result-2
overflow_add-result-2 c =
    wide_triple_fits c.wide_product.result c.wide_product-2.result c.wide_product-3.result
    c.wide_product.ensures.near c.wide_product-2.ensures.near c.wide_product-3.ensures.near

pub returns-clause-exact : goal.returns-clause-exact
returns-clause-exact c =
    wide_dot_is c.wide_product.result c.wide_product-2.result c.wide_product-3.result _ _ _
    (factors_are c.args.axis.x c.args.point.x c.wide_product.result
    (wider _ c.requires.axis.x_in_range) c.requires.x c.wide_product.ensures.exact)
    (factors_are c.args.axis.y c.args.point.y c.wide_product-2.result
    (wider _ c.requires.axis.y_in_range) c.requires.y c.wide_product-2.ensures.exact)
    (factors_are c.args.axis.h c.args.point.h c.wide_product-3.result
    (wider _ c.requires.axis.h_in_range) c.requires.h c.wide_product-3.ensures.exact)
    c.wide_product.ensures.near c.wide_product-2.ensures.near c.wide_product-3.ensures.near

pub returns-clause-near : goal.returns-clause-near
returns-clause-near c =
    let near = sum_near (2 ^ 87) c.wide_product.result c.wide_product-2.result
    c.wide_product-3.result c.wide_product.ensures.near c.wide_product-2.ensures.near
    c.wide_product-3.ensures.near in
    let is = wide_sum_is c.wide_product.result c.wide_product-2.result c.wide_product-3.result
    c.wide_product.ensures.near c.wide_product-2.ensures.near c.wide_product-3.ensures.near in
    let within : Within (3 * 2 ^ 87) _ = subst (Within (3 * 2 ^ 87)) (sym is) near in
    (omega (arith, ints, within.0), omega (arith, ints, within.1))
