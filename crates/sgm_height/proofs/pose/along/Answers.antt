use Rattle.std.proofs.Common.{◌^◌, ◌+◌, subst, sym, arith}
use Rattle.std.proofs.lemmas.Int.{ints}
use Rattle.sgm_base.specs.Ranges.{Within}
use Rattle.sgm_height.proofs.Turning.{rounded_near, wide}
use Rattle.sgm_height.proofs.pose.along.Goals as goal

pub returns-clause-near : goal.returns-clause-near
returns-clause-near c =
    let sum : Within (2 ^ 89) (wide c.dot_point.result) = (
      omega (arith, ints, c.dot_point.ensures.near.0, c.dot_point.ensures.near.1),
      omega (arith, ints, c.dot_point.ensures.near.0, c.dot_point.ensures.near.1),
    ) in
    let near = subst (Within (2 ^ 59 + 1)) (sym c.whole_micrometres.ensures)
    (rounded_near (wide c.dot_point.result) sum) in
    (omega (arith, ints, near.0, near.1), omega (arith, ints, near.0, near.1))
