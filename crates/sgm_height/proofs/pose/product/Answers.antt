use Rattle.std.proofs.Common.{◌^◌, subst, sym}
use Rattle.sgm_base.specs.Ranges.{Within}
use Rattle.sgm_height.proofs.Turning.{product_is, product_near}
use Rattle.sgm_height.proofs.pose.product.Goals as goal

pub returns-clause-exact : goal.returns-clause-exact
returns-clause-exact c =
    product_is c.args.a c.args.b c.ranges.a c.ranges.b c.requires.a c.requires.b

pub returns-clause-near : goal.returns-clause-near
returns-clause-near c =
    subst (Within (2 ^ 60)) (sym (returns-clause-exact c))
    (product_near (2 ^ 30) (2 ^ 30) c.args.a c.args.b c.requires.a c.requires.b)
