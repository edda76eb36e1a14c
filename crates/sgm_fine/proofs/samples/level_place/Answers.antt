use Rattle.std.proofs.Common.{arith}
use Rattle.std.proofs.lemmas.Int.{ints}
use Rattle.sgm_fine.proofs.samples.level_place.Goals as goal

pub returns-clause-value : goal.returns-clause-value
returns-clause-value c = omega (arith, ints, c.requires.pixel.0, c.requires.pixel.1.0, c.requires.pixel.1.1, c.requires.inside, c.from.ensures, c.from.type_inv)

pub returns-clause-small : goal.returns-clause-small
returns-clause-small c = (
  omega (arith, ints, c.requires.pixel.0, c.requires.pixel.1.0, c.requires.pixel.1.1, c.requires.inside, c.from.ensures, c.from.type_inv),
  omega (arith, ints, c.requires.pixel.0, c.requires.pixel.1.0, c.requires.pixel.1.1, c.requires.inside, c.from.ensures, c.from.type_inv),
)
