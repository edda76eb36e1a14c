-- What the code computes of axes, and of an axis and a point.
use Rattle.std.proofs.Common.{◌≡◌, ℕ, ◌+◌, ◌*◌, ◌^◌, ◌<◌, ℤ, pos, negsuc, ◌+ℤ◌, ◌*ℤ◌, arith, FitsSigned, w64, to_z, of_z, refl, ap, ap₂, ◌∙◌}
use mir.Syntax.{w128}
use Rattle.std.specs.Int.{int_div_euclid}
use Rattle.std.proofs.lemmas.Int.{ints, fits_signed_from_abs, to_z-of_z}
use Rattle.std.proofs.lemmas.Nat.{div_below}
use Rattle.sgm_base.specs.Ranges.{Within}
use Rattle.sgm_base.specs.Rounding.{rounded}
use Rattle.sgm_height.proofs.Points.{point}
use Rattle.sgm_height.proofs.Quotients.{abs_within, held, product_within, within_abs}

-- a product, and a sum of three
pub product_near : (m n : ℕ) (a b : ℤ) → Within m a → Within n b → Within (m * n) (a *ℤ b)
product_near m n a b ha hb = within_abs (m * n) (a *ℤ b) (product_within a b m n ha hb)

pub sum_near : (m : ℕ) (p q r : ℤ) → Within m p → Within m q → Within m r
    → Within (3 * m) ((p +ℤ q) +ℤ r)
sum_near m p q r hp hq hr =
    (omega (arith, ints, hp.0, hq.0, hr.0), omega (arith, ints, hp.1, hq.1, hr.1))

-- ---- in 64 bits

pub product_fits : (a b : ℤ) → Within (2 ^ 30) a → Within (2 ^ 30) b → FitsSigned w64 (a *ℤ b)
product_fits a b ha hb =
    fits_signed_from_abs w64 (a *ℤ b) (omega (arith, product_within a b (2 ^ 30) (2 ^ 30) ha hb))

pub product_is : (a b : ℤ) → FitsSigned w64 a → FitsSigned w64 b → Within (2 ^ 30) a
    → Within (2 ^ 30) b → held (held a *ℤ held b) ≡ a *ℤ b
product_is a b fa fb ha hb =
    let fits : FitsSigned w64 (a *ℤ b) = product_fits a b ha hb in simp to_z-of_z

pub pair_fits : (p q : ℤ) → Within (2 ^ 60) p → Within (2 ^ 60) q
    → FitsSigned w64 (held p +ℤ held q)
pair_fits p q hp hq =
    let near : Within (2 ^ 61) (held p +ℤ held q) =
    (omega (arith, ints, hp.0, hp.1, hq.0, hq.1), omega (arith, ints, hp.0, hp.1, hq.0, hq.1)) in
    fits_signed_from_abs w64 (held p +ℤ held q) (omega (arith, abs_within (2 ^ 61) _ near))

pub triple_fits : (p q r : ℤ) → Within (2 ^ 60) p → Within (2 ^ 60) q → Within (2 ^ 60) r
    → FitsSigned w64 (held (held p +ℤ held q) +ℤ held r)
triple_fits p q r hp hq hr =
    let near : Within (2 ^ 62) (held (held p +ℤ held q) +ℤ held r) = (
      omega (arith, ints, hp.0, hp.1, hq.0, hq.1, hr.0, hr.1),
      omega (arith, ints, hp.0, hp.1, hq.0, hq.1, hr.0, hr.1),
    ) in
    fits_signed_from_abs w64 _ (omega (arith, abs_within (2 ^ 62) _ near))

pub sum_is : (p q r : ℤ) → Within (2 ^ 60) p → Within (2 ^ 60) q → Within (2 ^ 60) r
    → held (held (held p +ℤ held q) +ℤ held r) ≡ (p +ℤ q) +ℤ r
sum_is p q r hp hq hr = omega (arith, ints, hp.0, hp.1, hq.0, hq.1, hr.0, hr.1)

-- a factor that is passed on as 64 bits hold it
pub factors_are : (a b r : ℤ) → Within (2 ^ 57) a → Within (2 ^ 57) b → r ≡ held a *ℤ held b
    → r ≡ a *ℤ b
factors_are a b r ha hb e =
    let same_a : held a ≡ a = omega (arith, ints, ha.0, ha.1) in
    let same_b : held b ≡ b = omega (arith, ints, hb.0, hb.1) in
    e ∙ ap₂ (λ (s t : ℤ). s *ℤ t) same_a same_b

pub wider : (a : ℤ) → Within (2 ^ 30) a → Within (2 ^ 57) a
wider a h = (omega (arith, ints, h.0), omega (arith, ints, h.1))

-- a sum of three products
pub dot_is : (p q r x y z : ℤ) → p ≡ x → q ≡ y → r ≡ z → Within (2 ^ 60) p → Within (2 ^ 60) q
    → Within (2 ^ 60) r → held (held (held p +ℤ held q) +ℤ held r) ≡ (x +ℤ y) +ℤ z
dot_is p q r x y z ep eq er hp hq hr =
    sum_is p q r hp hq hr ∙ ap₂ (λ (s t : ℤ). s +ℤ t) (ap₂ (λ (s t : ℤ). s +ℤ t) ep eq) er

-- ---- in 128 bits

abbrev pub wide : ℤ → ℤ
wide z = to_z w128 (of_z w128 z)

pub wide_product_is : (a b p q : ℤ) → Within (2 ^ 30) a → Within (2 ^ 57) b → p ≡ held a → q ≡ held b
    → wide (wide p *ℤ wide q) ≡ a *ℤ b
wide_product_is a b p q ha hb ep eq =
    let same_a : wide p ≡ a = omega (arith, ints, ep, ha.0, ha.1) in
    let same_b : wide q ≡ b = omega (arith, ints, eq, hb.0, hb.1) in
    let fits : FitsSigned w128 (a *ℤ b) =
    fits_signed_from_abs w128 (a *ℤ b)
    (omega (arith, product_within a b (2 ^ 30) (2 ^ 57) ha hb)) in
    ap₂ (λ (s t : ℤ). wide (s *ℤ t)) same_a same_b ∙ to_z-of_z w128 (a *ℤ b) fits

pub wide_pair_fits : (p q : ℤ) → Within (2 ^ 87) p → Within (2 ^ 87) q
    → FitsSigned w128 (wide p +ℤ wide q)
wide_pair_fits p q hp hq =
    let near : Within (2 ^ 88) (wide p +ℤ wide q) =
    (omega (arith, ints, hp.0, hp.1, hq.0, hq.1), omega (arith, ints, hp.0, hp.1, hq.0, hq.1)) in
    fits_signed_from_abs w128 (wide p +ℤ wide q) (omega (arith, abs_within (2 ^ 88) _ near))

pub wide_triple_fits : (p q r : ℤ) → Within (2 ^ 87) p → Within (2 ^ 87) q → Within (2 ^ 87) r
    → FitsSigned w128 (wide (wide p +ℤ wide q) +ℤ wide r)
wide_triple_fits p q r hp hq hr =
    let near : Within (2 ^ 89) (wide (wide p +ℤ wide q) +ℤ wide r) = (
      omega (arith, ints, hp.0, hp.1, hq.0, hq.1, hr.0, hr.1),
      omega (arith, ints, hp.0, hp.1, hq.0, hq.1, hr.0, hr.1),
    ) in
    fits_signed_from_abs w128 _ (omega (arith, abs_within (2 ^ 89) _ near))

pub wide_sum_is : (p q r : ℤ) → Within (2 ^ 87) p → Within (2 ^ 87) q → Within (2 ^ 87) r
    → wide (wide (wide p +ℤ wide q) +ℤ wide r) ≡ (p +ℤ q) +ℤ r
wide_sum_is p q r hp hq hr = omega (arith, ints, hp.0, hp.1, hq.0, hq.1, hr.0, hr.1)

pub wide_dot_is : (p q r x y z : ℤ) → p ≡ x → q ≡ y → r ≡ z → Within (2 ^ 87) p
    → Within (2 ^ 87) q → Within (2 ^ 87) r
    → wide (wide (wide p +ℤ wide q) +ℤ wide r) ≡ (x +ℤ y) +ℤ z
wide_dot_is p q r x y z ep eq er hp hq hr =
    wide_sum_is p q r hp hq hr ∙ ap₂ (λ (s t : ℤ). s +ℤ t) (ap₂ (λ (s t : ℤ). s +ℤ t) ep eq) er

-- ---- a quotient by a number that isn't small

pub quotient_near : (m k : ℕ) (t : ℤ) → 0 < k → Within (m * k) t
    → Within m (int_div_euclid t (pos k))
quotient_near m k (pos p) some near =
    let few = div_below p k (m + 1) some (omega (arith, ints, near.1)) in
    (omega (arith, ints), omega (arith, ints))
quotient_near m k (negsuc p) some near =
    let few = div_below p k m some (omega (arith, ints, near.0)) in
    (omega (arith, ints), omega (arith, ints))

pub rounded_near : (t : ℤ) → Within (2 ^ 89) t → Within (2 ^ 59 + 1) (rounded t (pos (2 ^ 30)))
rounded_near t near =
    quotient_near (2 ^ 59 + 1) (2 ^ 31) ((pos 2 *ℤ t) +ℤ pos (2 ^ 30)) (omega arith)
    (omega (arith, ints, near.0), omega (arith, ints, near.1))

-- ---- a pose

pub point_is : (x y h a b c : ℤ) → x ≡ a → y ≡ b → h ≡ c
    → point x y h ≡ point a b c
point_is x y h a b c ex ey eh = rw (ex, ey, eh) refl

pub shifted_is : (s r a : ℤ) → r ≡ a → Within 2000000000 s → Within (2 ^ 59 + 1) r
    → held (held s +ℤ held r) ≡ s +ℤ a
shifted_is s r a e hs hr =
    let sum : held (held s +ℤ held r) ≡ s +ℤ r = omega (arith, ints, hs.0, hs.1, hr.0, hr.1) in
    sum ∙ ap (λ (t : ℤ). s +ℤ t) e
