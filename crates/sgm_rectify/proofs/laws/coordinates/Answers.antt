use Rattle.std.proofs.Common.{◌≡◌, ◌<◌, ℤ, pos, negsuc, ◌+ℤ◌, ◌*ℤ◌, arith}
use Rattle.std.proofs.lemmas.Int.{ints}
use Rattle.sgm_rectify.specs.Bilinear.{whole, fraction}
use Rattle.sgm_rectify.proofs.laws.coordinates.Goals as goal

whole-fraction : (u : ℤ) → (pos 256 *ℤ whole u) +ℤ pos (fraction u) ≡ u
whole-fraction (pos n) = omega (arith, ints)
whole-fraction (negsuc n) = omega (arith, ints)

fraction-lt : (u : ℤ) → fraction u < 256
fraction-lt (pos n) = omega arith
fraction-lt (negsuc n) = omega arith

pub returns : goal.returns
returns c = record { sum = whole-fraction; below = fraction-lt }
