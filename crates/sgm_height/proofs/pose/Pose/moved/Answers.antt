use Rattle.sgm_height.specs.Pose.{moved}
use Rattle.sgm_height.proofs.Turning.{point_is, shifted_is}
use Rattle.sgm_height.proofs.pose.Pose.moved.Goals as goal

pub returns-clause-exact : goal.returns-clause-exact
unfolding moved
returns-clause-exact c =
    point_is _ _ _ _ _ _
    (shifted_is c.args.self.now.east c.along.result _ c.along.ensures.exact
    c.requires.pose.east_in_range c.along.ensures.near)
    (shifted_is c.args.self.now.north c.along-2.result _ c.along-2.ensures.exact
    c.requires.pose.north_in_range c.along-2.ensures.near)
    (shifted_is c.args.self.now.up c.along-3.result _ c.along-3.ensures.exact
    c.requires.pose.up_in_range c.along-3.ensures.near)
