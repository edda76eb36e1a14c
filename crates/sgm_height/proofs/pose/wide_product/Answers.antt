use Rattle.std.proofs.Common.{◌^◌, subst, sym}
use Rattle.sgm_base.specs.Ranges.{Within}
use Rattle.sgm_height.proofs.Turning.{product_near, wide_product_is}
use Rattle.sgm_height.proofs.pose.wide_product.Goals as goal

pub returns-clause-near : goal.returns-clause-near
returns-clause-near c =
    subst (Within (2 ^ 87)) (sym (wide_product_is c.args.a c.args.b c.from.result c.from-2.result
    c.requires.a c.requires.b c.from.ensures c.from-2.ensures))
    (product_near (2 ^ 30) (2 ^ 57) c.args.a c.args.b c.requires.a c.requires.b)
