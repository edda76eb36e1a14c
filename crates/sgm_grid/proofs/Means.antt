-- How far from 0 the rounded mean of some numbers lies.
use Rattle.std.proofs.Common.{ℕ, ◌+◌, ◌*◌, ◌/◌, ◌<◌, ℤ, pos, negsuc, neg_ℤ, ◌+ℤ◌, ◌*ℤ◌, ◌≤ℤ◌, ◌<ℤ◌, arith}
use Rattle.std.specs.Int.{int_div_euclid}
use Rattle.std.proofs.lemmas.Int.{ints}
use Rattle.std.proofs.lemmas.Nat.{div_below}
use Rattle.sgm_base.specs.Ranges.{Within}
use Rattle.sgm_base.specs.Rounding.{rounded}

-- a quotient whose rest is not negative
quotient_within : (t : ℤ) (d m : ℕ) → 0 < d → neg_ℤ (pos (m * d)) ≤ℤ t → t <ℤ pos ((m + 1) * d) → Within m (int_div_euclid t (pos d))
quotient_within (pos n) d m some low high =
    let below : n / d < m + 1 = div_below n d (m + 1) some (omega (arith, ints)) in
    (omega (arith, ints), omega (arith, ints))
quotient_within (negsuc n) d m some low high =
    let below : n / d < m = div_below n d m some (omega (arith, ints)) in
    (omega (arith, ints), omega (arith, ints))

-- a mean lies no further from 0 than what it is the mean of
pub mean_within : (total : ℤ) (count most : ℕ) → 0 < count → Within (count * most) total → Within most (rounded total (pos count))
mean_within total count most some within =
    quotient_within ((pos 2 *ℤ total) +ℤ pos count) (2 * count) most (omega arith) (omega (arith, ints, within.0)) (omega (arith, ints, within.1))
