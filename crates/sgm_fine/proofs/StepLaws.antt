-- Steps are small, and marks are 0 or 1.
use Rattle.std.proofs.Common.{◌≡◌, ℕ, ◌+◌, ◌&&◌, nat_le, Bool, true, false, refl, Option, Some, None, unwrap_or, is_some, if◌then◌else◌, ℤ, pos, negsuc, ◌-ℤ◌, ◌≤ℤ◌, arith}
use Rattle.std.specs.Int.{int_div_euclid}
use Rattle.std.proofs.Math.Nat.{div-le_self}
use Rattle.std.proofs.lemmas.Int.{ints}
use Rattle.sgm_base.specs.Ranges.{IsFromTo, Within}
use Rattle.sgm_fine.specs.Slopes.{step_to}

given : (most : ℕ) (b : Bool) (z : ℤ) → (b ≡ true → Within most z) → Within most (unwrap_or (if b then Some z else None) (pos 0))
given most true z h = h refl
given most false z h = (omega (arith, ints), omega (arith, ints))

pub step_within : (most m : ℕ) (value : Option ℕ) → Within most (unwrap_or (step_to most m value) (pos 0))
step_within most m None = (omega (arith, ints), omega (arith, ints))
step_within most m (Some v) = given most (nat_le v (m + most) && nat_le m (v + most)) (pos v -ℤ pos m) (λ e. (grind (arith, ints, e), grind (arith, ints, e)))

pub mark_from_to : (o : Option ℤ) → IsFromTo (pos 0) (pos 1) (if is_some o then pos 1 else pos 0)
mark_from_to None = (omega (arith, ints), omega (arith, ints))
mark_from_to (Some z) = (omega (arith, ints), omega (arith, ints))

-- a quotient is no further from 0 than its number
pub divided_within : (t d : ℤ) (m : ℕ) → Within m t → pos 1 ≤ℤ d → Within m (int_div_euclid t d)
divided_within (pos a) (pos n) m h k = let low = div-le_self a n in (omega (arith, ints), omega (arith, ints, h.1, low))
divided_within (negsuc a) (pos n) m h k = let low = div-le_self a n in (omega (arith, ints, h.0, low), omega (arith, ints))
divided_within t (negsuc n) m h k = absurd (omega (arith, ints, k))
