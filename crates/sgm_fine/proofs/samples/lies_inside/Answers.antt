use Rattle.std.proofs.Common.{◌*◌, ◌-ℤ◌, pos, arith}
use Rattle.std.proofs.lemmas.Int.{ints}
use Rattle.sgm_fine.proofs.PlaceSamples.{apart_least, apart_most}
use Rattle.sgm_fine.proofs.samples.lies_inside.Goals as goal

pub returns : goal.returns
returns c inside i j li lj = (
  apart_least (pos 8) _ c.least_of.result c.greatest_of.result _ _ (c.spans.ensures.first inside) (omega (arith, ints, c.apart-first.ensures.value, c.least_of.type_inv, c.greatest_of.type_inv, c.apart-first.type_inv)) (c.least_of.ensures i li) (c.greatest_of.ensures j lj),
  apart_most (pos (16 * c.args.width) -ℤ pos 25) _ c.greatest_of-2.result c.least_of-2.result _ _ (c.spans.ensures.last inside) (omega (arith, ints, c.apart-last.ensures.value, c.greatest_of-2.type_inv, c.least_of-2.type_inv, c.apart-last.type_inv)) (c.greatest_of-2.ensures i li) (c.least_of-2.ensures j lj),
)
