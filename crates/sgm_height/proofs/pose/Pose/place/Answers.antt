use Rattle.std.proofs.Common.{arith}
use Rattle.std.proofs.lemmas.Int.{ints}
use Rattle.sgm_height.proofs.pose.Pose.place.Goals as goal

pub returns-then-is_level-clause-height : goal.returns-then-is_level-clause-height
returns-then-is_level-clause-height c =
    let level = c.is_level.ensures.level c.if-is_level.true in
    let near = c.moved-moved.ensures.up in (
      omega (arith, ints, level.0, level.1, near.0, near.1),
      omega (arith, ints, level.0, level.1, near.0, near.1),
    )
