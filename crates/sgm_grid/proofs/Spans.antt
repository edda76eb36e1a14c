-- How far from 0 the heights of bridges lie.
use Rattle.std.proofs.Common.{◌≡◌, ℕ, ◌+◌, ◌*◌, ◌<◌, ◌≤◌, ℤ, pos, negsuc, neg_ℤ, ◌+ℤ◌, ◌*ℤ◌, ◌≤ℤ◌, ◌<ℤ◌, unsigned_abs, mul-le-mul, ◌^◌, FitsSigned, to_z, of_z, w32, w64, sym, ap, subst, ◌∙◌, arith}
use Rattle.std.specs.Int.{int_div_euclid}
use Rattle.std.proofs.lemmas.Int.{fits_signed_from_abs, ints, unsigned_abs-mul}
use Rattle.std.proofs.lemmas.Nat.{div_below}
use Rattle.sgm_base.specs.Ranges.{Within}
use Rattle.sgm_base.specs.Rounding.{rounded}

abs_within : (m : ℕ) (z : ℤ) → Within m z → unsigned_abs z ≤ m
abs_within m (pos n) h = omega (arith, ints)
abs_within m (negsuc n) h = omega (arith, ints)

within_abs : (m : ℕ) (z : ℤ) → unsigned_abs z ≤ m → Within m z
within_abs m (pos n) h = (omega (arith, ints), omega (arith, ints))
within_abs m (negsuc n) h = (omega (arith, ints), omega (arith, ints))

quotient_within : (m k : ℕ) (t : ℤ) → 0 < k → neg_ℤ (pos (m * k)) ≤ℤ t → t <ℤ pos (m * k + k) → Within m (int_div_euclid t (pos k))
quotient_within m k (pos p) some low high =
    let few = div_below p k (m + 1) some (omega (arith, ints)) in
    (omega (arith, ints), omega (arith, ints))
quotient_within m k (negsuc p) some low high =
    let few = div_below p k m some (omega (arith, ints)) in
    (omega (arith, ints), omega (arith, ints))

-- a rounded quotient of a number that is at most m times what it is divided by
rounded_within : (m n : ℕ) (a : ℤ) → 0 < n → unsigned_abs a ≤ m * n → Within m (rounded a (pos n))
rounded_within m n a some near =
    let far = within_abs (m * n) a near in
    quotient_within m (2 * n) ((pos 2 *ℤ a) +ℤ pos n) (omega arith) (omega (arith, ints, far.0, far.1)) (omega (arith, ints, far.0, far.1))

product_within : (m n : ℕ) (a : ℤ) → Within m a → unsigned_abs (a *ℤ pos n) ≤ m * n
product_within m n a h =
    let same : n ≤ n = omega arith in
    omega (arith, unsigned_abs-mul a (pos n), mul-le-mul (abs_within m a h) same)

sum_within : (a b : ℤ) (m n : ℕ) → unsigned_abs a ≤ m → unsigned_abs b ≤ n → unsigned_abs (a +ℤ b) ≤ m + n
sum_within a b m n ha hb =
    let fa = within_abs m a ha in
    let fb = within_abs n b hb in
    abs_within (m + n) (a +ℤ b) (omega (arith, ints, fa.0, fb.0), omega (arith, ints, fa.1, fb.1))

-- two heights by how far away each is
weighed_within : (m n k : ℕ) (a b : ℤ) → Within m a → Within m b → unsigned_abs ((a *ℤ pos k) +ℤ (b *ℤ pos n)) ≤ m * (n + k)
weighed_within m n k a b ha hb =
    omega (arith, sum_within (a *ℤ pos k) (b *ℤ pos n) (m * k) (m * n) (product_within m k a ha) (product_within m n b hb))

-- ---- as the code works them out in 64 bits

abbrev pub read_height : ℤ → ℤ
read_height h = to_z w64 (of_z w64 (to_z w32 (of_z w32 h)))

abbrev pub read_product : ℤ → ℕ → ℤ
read_product h n = read_height h *ℤ to_z w64 n

abbrev pub read_weighed : ℤ → ℤ → ℕ → ℕ → ℤ
read_weighed a b n k = to_z w64 (of_z w64 (read_product a k)) +ℤ to_z w64 (of_z w64 (read_product b n))

product_is : (h : ℤ) (n : ℕ) → Within 2000000000 h → n ≤ 8 → read_product h n ≡ h *ℤ pos n
product_is h n near few =
    let height : read_height h ≡ h = omega (arith, ints, near.0, near.1) in
    let number : to_z w64 n ≡ pos n = omega (arith, ints) in
    ap (λ (z : ℤ). z *ℤ to_z w64 n) height ∙ ap (λ (z : ℤ). h *ℤ z) number

product_near : (h : ℤ) (n : ℕ) → Within 2000000000 h → n ≤ 8 → Within 16000000000 (h *ℤ pos n)
product_near h n near few = within_abs 16000000000 (h *ℤ pos n) (omega (arith, product_within 2000000000 n h near))

pub product_fits : (h : ℤ) (n : ℕ) → Within 2000000000 h → n ≤ 8 → FitsSigned w64 (read_product h n)
product_fits h n near few =
    let far = product_within 2000000000 n h near in
    subst (FitsSigned w64) (sym (product_is h n near few)) (fits_signed_from_abs w64 (h *ℤ pos n) (omega arith))

product_read : (h : ℤ) (n : ℕ) → Within 2000000000 h → n ≤ 8 → to_z w64 (of_z w64 (read_product h n)) ≡ h *ℤ pos n
product_read h n near few =
    let far = product_near h n near few in
    ap (λ (z : ℤ). to_z w64 (of_z w64 z)) (product_is h n near few) ∙ omega (arith, ints, far.0, far.1)

weighed_is : (a b : ℤ) (n k : ℕ) → Within 2000000000 a → Within 2000000000 b → n ≤ 8 → k ≤ 8 → read_weighed a b n k ≡ (a *ℤ pos k) +ℤ (b *ℤ pos n)
weighed_is a b n k ha hb hn hk =
    ap (λ (z : ℤ). z +ℤ to_z w64 (of_z w64 (read_product b n))) (product_read a k ha hk) ∙ ap (λ (z : ℤ). (a *ℤ pos k) +ℤ z) (product_read b n hb hn)

pub weighed_fits : (a b : ℤ) (n k : ℕ) → Within 2000000000 a → Within 2000000000 b → n ≤ 8 → k ≤ 8 → FitsSigned w64 (read_weighed a b n k)
weighed_fits a b n k ha hb hn hk =
    let far = weighed_within 2000000000 n k a b ha hb in
    subst (FitsSigned w64) (sym (weighed_is a b n k ha hb hn hk)) (fits_signed_from_abs w64 ((a *ℤ pos k) +ℤ (b *ℤ pos n)) (omega arith))

weighed_read : (a b : ℤ) (n k : ℕ) → Within 2000000000 a → Within 2000000000 b → n ≤ 8 → k ≤ 8 → to_z w64 (of_z w64 (read_weighed a b n k)) ≡ (a *ℤ pos k) +ℤ (b *ℤ pos n)
weighed_read a b n k ha hb hn hk =
    let near = within_abs (2000000000 * (n + k)) ((a *ℤ pos k) +ℤ (b *ℤ pos n)) (weighed_within 2000000000 n k a b ha hb) in
    ap (λ (z : ℤ). to_z w64 (of_z w64 z)) (weighed_is a b n k ha hb hn hk) ∙ omega (arith, ints, near.0, near.1)

pub weighed_near : (a b : ℤ) (n k : ℕ) → Within 2000000000 a → Within 2000000000 b → n ≤ 8 → k ≤ 8 → Within (2 ^ 60) (to_z w64 (of_z w64 (read_weighed a b n k)))
weighed_near a b n k ha hb hn hk =
    let far = weighed_within 2000000000 n k a b ha hb in
    subst (Within (2 ^ 60)) (sym (weighed_read a b n k ha hb hn hk)) (within_abs (2 ^ 60) ((a *ℤ pos k) +ℤ (b *ℤ pos n)) (omega arith))

-- the height between two of them, as the code rounds it
pub between_is : (a b : ℤ) (n k : ℕ) (r : ℤ) → Within 2000000000 a → Within 2000000000 b → n ≤ 8 → k ≤ 8
    → r ≡ rounded (to_z w64 (of_z w64 (read_weighed a b n k))) (to_z w64 (n + k)) → r ≡ rounded ((a *ℤ pos k) +ℤ (b *ℤ pos n)) (pos (n + k))
between_is a b n k r ha hb hn hk is =
    let number : to_z w64 (n + k) ≡ pos (n + k) = omega (arith, ints) in
    is ∙ ap (λ (z : ℤ). rounded z (to_z w64 (n + k))) (weighed_read a b n k ha hb hn hk) ∙ ap (λ (z : ℤ). rounded ((a *ℤ pos k) +ℤ (b *ℤ pos n)) z) number

pub between_within : (a b : ℤ) (n k : ℕ) (r : ℤ) → Within 2000000000 a → Within 2000000000 b → 0 < n + k → r ≡ rounded ((a *ℤ pos k) +ℤ (b *ℤ pos n)) (pos (n + k)) → Within 2000000000 r
between_within a b n k r ha hb some is =
    subst (Within 2000000000) (sym is) (rounded_within 2000000000 (n + k) ((a *ℤ pos k) +ℤ (b *ℤ pos n)) some (weighed_within 2000000000 n k a b ha hb))

-- the mean of two heights, as the code rounds it
pub both_is : (a b r : ℤ) → Within 2000000000 a → Within 2000000000 b → r ≡ rounded (to_z w64 (of_z w64 (read_height a +ℤ read_height b))) (pos 2)
    → r ≡ rounded ((pos 0 +ℤ a) +ℤ b) (pos 2)
both_is a b r ha hb is =
    let sum : to_z w64 (of_z w64 (read_height a +ℤ read_height b)) ≡ (pos 0 +ℤ a) +ℤ b = omega (arith, ints, ha.0, ha.1, hb.0, hb.1) in
    is ∙ ap (λ (z : ℤ). rounded z (pos 2)) sum

pub both_within : (a b r : ℤ) → Within 2000000000 a → Within 2000000000 b → r ≡ rounded ((pos 0 +ℤ a) +ℤ b) (pos 2) → Within 2000000000 r
both_within a b r ha hb is =
    let fa : Within 2000000000 (pos 0 +ℤ a) = (omega (arith, ints, ha.0), omega (arith, ints, ha.1)) in
    let few = sum_within (pos 0 +ℤ a) b 2000000000 2000000000 (abs_within 2000000000 (pos 0 +ℤ a) fa) (abs_within 2000000000 b hb) in
    subst (Within 2000000000) (sym is) (rounded_within 2000000000 2 ((pos 0 +ℤ a) +ℤ b) (omega arith) (omega arith))

-- a height stays as it is
pub height_kept : (r : ℤ) → Within 2000000000 r → to_z w32 (of_z w32 (to_z w64 (of_z w64 r))) ≡ r
height_kept r near = omega (arith, ints, near.0, near.1)

pub height_fits : (r : ℤ) → Within 2000000000 r → FitsSigned w32 (to_z w64 (of_z w64 r))
height_fits r near =
    let same : to_z w64 (of_z w64 r) ≡ r = omega (arith, ints, near.0, near.1) in
    let far = abs_within 2000000000 r near in
    subst (FitsSigned w32) (sym same) (fits_signed_from_abs w32 r (omega arith))
