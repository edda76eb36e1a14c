-- How far from 0 products and rounded quotients lie.
use Rattle.std.proofs.Common.{◌≡◌, ℕ, ◌^◌, ◌≤◌, ◌*◌, ℤ, pos, negsuc, ◌+ℤ◌, ◌*ℤ◌, ◌≤ℤ◌, arith, unsigned_abs, FitsSigned, w64, to_z, of_z, mul-le-mul, sym, ap, ◌∙◌}
use Rattle.std.specs.Int.{int_div_euclid}
use Rattle.std.proofs.lemmas.Int.{ints, to_z-of_z, unsigned_abs-mul, fits_signed_from_abs}
use Rattle.std.proofs.Math.Nat.{div-le_self}
use Rattle.sgm_base.specs.Rounding.{rounded}
use Rattle.sgm_base.specs.Ranges.{Within}

pub abs_within : (m : ℕ) (z : ℤ) → Within m z → unsigned_abs z ≤ m
abs_within m (pos n) h = omega (arith, ints)
abs_within m (negsuc n) h = omega (arith, ints)

pub within_abs : (m : ℕ) (z : ℤ) → unsigned_abs z ≤ m → Within m z
within_abs m (pos n) h = (omega (arith, ints), omega (arith, ints))
within_abs m (negsuc n) h = (omega (arith, ints), omega (arith, ints))

-- a product of two bounded numbers
pub product_within : (a b : ℤ) (m n : ℕ) → Within m a → Within n b → unsigned_abs (a *ℤ b) ≤ m * n
product_within a b m n ha hb = omega (arith, unsigned_abs-mul a b, mul-le-mul (abs_within m a ha) (abs_within n b hb))

-- a quotient lies no further from 0 than what is divided
pub divided_within : (t d : ℤ) (m : ℕ) → Within m t → pos 1 ≤ℤ d → Within m (int_div_euclid t d)
divided_within (pos a) (pos b) m h p = (omega (arith, ints, div-le_self a b), omega (arith, ints, div-le_self a b))
divided_within (negsuc a) (pos b) m h p = (omega (arith, ints, div-le_self a b), omega (arith, ints, div-le_self a b))
divided_within (pos a) (negsuc b) m h p = absurd (omega (arith, ints))
divided_within (negsuc a) (negsuc b) m h p = absurd (omega (arith, ints))

-- a rounded quotient of that product
pub quotient_within : (a b d : ℤ) → Within (2 ^ 25) a → (pos 1 ≤ℤ b) × (b ≤ℤ pos 2000000000) → (pos 1 ≤ℤ d) × (d ≤ℤ pos (2 ^ 25)) → Within (2 ^ 57) (rounded (a *ℤ b) d)
quotient_within a b d ha hb hd =
    let wide : Within 2000000000 b = (omega (arith, ints, hb.0), hb.1) in
    let product : Within (2 ^ 25 * 2000000000) (a *ℤ b) = within_abs _ _ (product_within a b (2 ^ 25) 2000000000 ha wide) in
    let top : Within (2 ^ 57) ((pos 2 *ℤ (a *ℤ b)) +ℤ d) = (omega (arith, ints, product.0, hd.0), omega (arith, ints, product.1, hd.1)) in
    divided_within _ _ _ top (omega (arith, ints, hd.0))

-- a number as the code's 64 bits hold it
abbrev pub held : ℤ → ℤ
held z = to_z w64 (of_z w64 z)

-- the product that they give
product_is : (a b : ℤ) → FitsSigned w64 a → FitsSigned w64 b → Within (2 ^ 25) a → (pos 1 ≤ℤ b) × (b ≤ℤ pos 2000000000)
    → held (held a *ℤ held b) ≡ a *ℤ b
product_is a b fa fb ha hb =
    let wide : Within 2000000000 b = (omega (arith, ints, hb.0), hb.1) in
    let fits : FitsSigned w64 (a *ℤ b) = fits_signed_from_abs w64 (a *ℤ b) (omega (arith, product_within a b (2 ^ 25) 2000000000 ha wide)) in
    simp to_z-of_z

doubled : (t d : ℤ) → Within (2 ^ 25 * 2000000000) t → (pos 1 ≤ℤ d) × (d ≤ℤ pos (2 ^ 25))
    → held (held (pos 2 *ℤ t) +ℤ held d) ≡ (pos 2 *ℤ t) +ℤ d
doubled t d ht hd = omega (arith, ints, ht.0, ht.1, hd.0, hd.1)

-- what is divided, and by what
pub dividend_is : (a b d : ℤ) → FitsSigned w64 a → FitsSigned w64 b → Within (2 ^ 25) a → (pos 1 ≤ℤ b) × (b ≤ℤ pos 2000000000)
    → (pos 1 ≤ℤ d) × (d ≤ℤ pos (2 ^ 25)) → held (held (pos 2 *ℤ held (held a *ℤ held b)) +ℤ held d) ≡ (pos 2 *ℤ (a *ℤ b)) +ℤ d
dividend_is a b d fa fb ha hb hd =
    let wide : Within 2000000000 b = (omega (arith, ints, hb.0), hb.1) in
    let product : Within (2 ^ 25 * 2000000000) (a *ℤ b) = within_abs _ _ (product_within a b (2 ^ 25) 2000000000 ha wide) in
    ap (λ (t : ℤ). held (held (pos 2 *ℤ t) +ℤ held d)) (product_is a b fa fb ha hb) ∙ doubled (a *ℤ b) d product hd

pub divisor_is : (d : ℤ) → (pos 1 ≤ℤ d) × (d ≤ℤ pos (2 ^ 25)) → held (pos 2 *ℤ held d) ≡ pos 2 *ℤ d
divisor_is d hd = omega (arith, ints, hd.0, hd.1)

-- a divisor that isn't -1
above_2 : (z : ℤ) → pos 2 ≤ℤ z → z ≤ℤ pos (2 ^ 26) → of_z w64 z ≡ 18446744073709551615 → ⊥
above_2 (pos n) low high same = omega (arith, ints, low, high, same)
above_2 (negsuc n) low high same = absurd (omega (arith, ints, low))

pub divisor_above : (d : ℤ) → (pos 1 ≤ℤ d) × (d ≤ℤ pos (2 ^ 25)) → of_z w64 (held (pos 2 *ℤ held d)) ≡ 18446744073709551615 → ⊥
divisor_above d hd same =
    above_2 (pos 2 *ℤ d) (omega (arith, ints, hd.0)) (omega (arith, ints, hd.1)) (ap (λ (z : ℤ). of_z w64 z) (sym (divisor_is d hd)) ∙ same)

pub fits_within : (z : ℤ) → Within (2 ^ 60) z → FitsSigned w64 z
fits_within z h = fits_signed_from_abs w64 z (omega (arith, abs_within (2 ^ 60) z h))
