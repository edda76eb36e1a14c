-- Covariances as the code holds them in 64 bits.
use Rattle.std.proofs.Common.{◌≡◌, ℤ, pos, ◌-ℤ◌, ◌*ℤ◌, FitsSigned, to_z, of_z, w32, w64, arith, ap, ap₂, ◌∙◌}
use Rattle.std.proofs.lemmas.Int.{ints}
use Rattle.sgm_base.specs.Ranges.{Within}

pub part_kept : (z : ℤ) → Within 70368744177664 z → to_z w64 (of_z w64 z) ≡ z
part_kept z h = omega (arith, ints, h.0, h.1)

pub part_within : (z : ℤ) → Within 70368744177664 z → Within 70368744177664 (to_z w64 (of_z w64 z))
part_within z h = (omega (arith, ints, h.0, h.1), omega (arith, ints, h.0, h.1))

pub part_near : (z : ℤ) → Within 70368744177664 z → Within 36028797018963968 (to_z w64 (of_z w64 z))
part_near z h = (omega (arith, ints, h.0, h.1), omega (arith, ints, h.0, h.1))

pub eight_kept : (z : ℤ) → Within 562949953421312 z → to_z w64 (of_z w64 z) ≡ z
eight_kept z h = omega (arith, ints, h.0, h.1)

pub eight_near : (z : ℤ) → Within 562949953421312 z → Within 36028797018963968 (to_z w64 (of_z w64 z))
eight_near z h = (omega (arith, ints, h.0, h.1), omega (arith, ints, h.0, h.1))

pub narrow_kept : (z : ℤ) → FitsSigned w32 z → to_z w32 (of_z w32 z) ≡ z
narrow_kept z f = omega (arith, ints, f)

-- covariances of numbers of which each is another one
pub covariance_parts : (t a b u p q : ℤ) → t ≡ u → a ≡ p → b ≡ q → (pos 25 *ℤ t) -ℤ (a *ℤ b) ≡ (pos 25 *ℤ u) -ℤ (p *ℤ q)
covariance_parts t a b u p q et ea eb =
    ap (λ (z : ℤ). (pos 25 *ℤ z) -ℤ (a *ℤ b)) et ∙ ap₂ (λ (y z : ℤ). (pos 25 *ℤ u) -ℤ (y *ℤ z)) ea eb
