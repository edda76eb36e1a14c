use Rattle.sgm_height.proofs.Points.{point_is}
use Rattle.sgm_height.proofs.camera.point.Goals as goal

pub returns-clause-exact : goal.returns-clause-exact
returns-clause-exact c = point_is c.args.camera.now c.args.x c.args.y c.args.disparity16 c.point_at.result c.requires.disparity c.requires.camera.doffs_in_range c.point_at.ensures.exact
