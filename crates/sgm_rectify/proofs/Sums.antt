-- Sums of signed numbers that are known to be small, as the code computes them.
use Rattle.std.proofs.Common.{◌≡◌, ℕ, ◌+◌, ◌*◌, ◌<◌, ◌≤◌, ℤ, pos, ◌+ℤ◌, ◌-ℤ◌, ◌*ℤ◌, ◌≤ℤ◌, unsigned_abs, FitsSigned, w32, w64, to_z, of_z, sym, ap, ◌∙◌, subst, arith}
use Rattle.std.proofs.lemmas.Int.{ints, unsigned_abs-mul}
use Rattle.std.proofs.lemmas.Nat.{mul-le}
use Rattle.sgm_rectify.specs.Warps.{IsCoordinate}

-- a number from -m to m
pub record Within (m : ℕ) (z : ℤ) : Type 0 where
  pub low : (pos 0 -ℤ pos m) ≤ℤ z
  pub high : z ≤ℤ pos m

pub Within-add : (m n : ℕ) (p q : ℤ) → Within m p → Within n q → Within (m + n) (p +ℤ q)
Within-add m n p q h k = record {
  low = omega (arith, ints, h.low, k.low);
  high = omega (arith, ints, h.high, k.high);
}

pub kept : (m : ℕ) (p : ℤ) → m < 9223372036854775808 → Within m p → to_z w64 (of_z w64 p) ≡ p
kept m p s h = omega (arith, ints, h.low, h.high)

fits : (m : ℕ) (p : ℤ) → m < 9223372036854775808 → Within m p → FitsSigned w64 p
fits m p s h = omega (arith, ints, h.low, h.high)

Within-mul : (m n : ℕ) (p q : ℤ) → Within m p → Within n q → Within (m * n) (p *ℤ q)
Within-mul m n p q h k =
    let low : unsigned_abs (p *ℤ q) ≤ m * n =
    subst (λ x. x ≤ m * n) (sym (unsigned_abs-mul p q)) (mul-le (unsigned_abs p) (unsigned_abs q) m n (omega (arith, ints, h.low, h.high)) (omega (arith, ints, k.low, k.high))) in
    record {
      low = omega (arith, ints, low);
      high = omega (arith, ints, low);
    }

-- what the code computes as a * b, where a is p and b is q
pub product : (m n : ℕ) (p q a b : ℤ) → a ≡ p → b ≡ q → m * n < 9223372036854775808 → Within m p → Within n q → to_z w64 (of_z w64 (a *ℤ b)) ≡ p *ℤ q
product m n p q a b ea eb s h k =
    ap (λ (z : ℤ). to_z w64 (of_z w64 (z *ℤ b))) ea
    ∙ ap (λ (z : ℤ). to_z w64 (of_z w64 (p *ℤ z))) eb
    ∙ kept (m * n) (p *ℤ q) s (Within-mul m n p q h k)

pub product-fits : (m n : ℕ) (p q a b : ℤ) → a ≡ p → b ≡ q → m * n < 9223372036854775808 → Within m p → Within n q → FitsSigned w64 (a *ℤ b)
product-fits m n p q a b ea eb s h k =
    subst (λ (z : ℤ). FitsSigned w64 z) (sym (ap (λ (z : ℤ). z *ℤ b) ea ∙ ap (λ (z : ℤ). p *ℤ z) eb))
    (fits (m * n) (p *ℤ q) s (Within-mul m n p q h k))

pub product-within : (m n : ℕ) (p q a b : ℤ) → a ≡ p → b ≡ q → m * n < 9223372036854775808 → Within m p → Within n q → Within (m * n) (to_z w64 (of_z w64 (a *ℤ b)))
product-within m n p q a b ea eb s h k =
    subst (λ (z : ℤ). Within (m * n) z) (sym (product m n p q a b ea eb s h k)) (Within-mul m n p q h k)

-- what the code computes as p + q, where p is a sum already
plus : (m n : ℕ) (p q : ℤ) → m < 9223372036854775808 → n < 9223372036854775808 → Within m p → Within n q → p +ℤ to_z w64 (of_z w64 q) ≡ p +ℤ q
plus m n p q s t h k = ap (λ (z : ℤ). p +ℤ z) (kept n q t k)

added : (m n : ℕ) (p q : ℤ) → m + n < 9223372036854775808 → Within m p → Within n q → to_z w64 (of_z w64 (to_z w64 (of_z w64 p) +ℤ to_z w64 (of_z w64 q))) ≡ p +ℤ q
added m n p q s h k =
    ap (λ (z : ℤ). to_z w64 (of_z w64 (z +ℤ to_z w64 (of_z w64 q)))) (kept m p (omega arith) h)
    ∙ ap (λ (z : ℤ). to_z w64 (of_z w64 (p +ℤ z))) (kept n q (omega arith) k)
    ∙ kept (m + n) (p +ℤ q) s (Within-add m n p q h k)

pub sum3 : (k m n : ℕ) (p q r : ℤ) → k + m + n < 9223372036854775808 → Within k p → Within m q → Within n r
    → to_z w64 (of_z w64 (to_z w64 (of_z w64 (to_z w64 (of_z w64 p) +ℤ to_z w64 (of_z w64 q))) +ℤ to_z w64 (of_z w64 r))) ≡ (p +ℤ q) +ℤ r
sum3 k m n p q r s a b c =
    ap (λ (z : ℤ). to_z w64 (of_z w64 (z +ℤ to_z w64 (of_z w64 r)))) (added k m p q (omega arith) a b)
    ∙ ap (λ (z : ℤ). to_z w64 (of_z w64 ((p +ℤ q) +ℤ z))) (kept n r (omega arith) c)
    ∙ kept (k + m + n) ((p +ℤ q) +ℤ r) s (Within-add (k + m) n (p +ℤ q) r (Within-add k m p q a b) c)

pub sum3-fits : (k m n : ℕ) (p q r : ℤ) → k + m + n < 9223372036854775808 → Within k p → Within m q → Within n r
    → FitsSigned w64 (to_z w64 (of_z w64 (to_z w64 (of_z w64 p) +ℤ to_z w64 (of_z w64 q))) +ℤ to_z w64 (of_z w64 r))
sum3-fits k m n p q r s a b c =
    subst (λ (z : ℤ). FitsSigned w64 z)
    (sym (ap (λ (z : ℤ). z +ℤ to_z w64 (of_z w64 r)) (added k m p q (omega arith) a b) ∙ ap (λ (z : ℤ). (p +ℤ q) +ℤ z) (kept n r (omega arith) c)))
    (fits (k + m + n) ((p +ℤ q) +ℤ r) s (Within-add (k + m) n (p +ℤ q) r (Within-add k m p q a b) c))

pub sum4 : (m : ℕ) (p q r t : ℤ) → m < 2305843009213693952 → Within m p → Within m q → Within m r → Within m t
    → to_z w64 (of_z w64 (to_z w64 (of_z w64 (to_z w64 (of_z w64 (to_z w64 (of_z w64 p) +ℤ to_z w64 (of_z w64 q))) +ℤ to_z w64 (of_z w64 r))) +ℤ to_z w64 (of_z w64 t)))
    ≡ ((p +ℤ q) +ℤ r) +ℤ t
sum4 m p q r t s a b c d =
    ap (λ (z : ℤ). to_z w64 (of_z w64 (z +ℤ to_z w64 (of_z w64 t)))) (sum3 m m m p q r (omega arith) a b c)
    ∙ ap (λ (z : ℤ). to_z w64 (of_z w64 (((p +ℤ q) +ℤ r) +ℤ z))) (kept m t (omega arith) d)
    ∙ kept (m + m + m + m) (((p +ℤ q) +ℤ r) +ℤ t) (omega arith) (Within-add (m + m + m) m ((p +ℤ q) +ℤ r) t (Within-add (m + m) m (p +ℤ q) r (Within-add m m p q a b) c) d)

pub sum4-fits : (m : ℕ) (p q r t : ℤ) → m < 2305843009213693952 → Within m p → Within m q → Within m r → Within m t
    → FitsSigned w64 (to_z w64 (of_z w64 (to_z w64 (of_z w64 (to_z w64 (of_z w64 p) +ℤ to_z w64 (of_z w64 q))) +ℤ to_z w64 (of_z w64 r))) +ℤ to_z w64 (of_z w64 t))
sum4-fits m p q r t s a b c d =
    subst (λ (z : ℤ). FitsSigned w64 z)
    (sym (ap (λ (z : ℤ). z +ℤ to_z w64 (of_z w64 t)) (sum3 m m m p q r (omega arith) a b c) ∙ ap (λ (z : ℤ). ((p +ℤ q) +ℤ r) +ℤ z) (kept m t (omega arith) d)))
    (fits (m + m + m + m) (((p +ℤ q) +ℤ r) +ℤ t) (omega arith) (Within-add (m + m + m) m ((p +ℤ q) +ℤ r) t (Within-add (m + m) m (p +ℤ q) r (Within-add m m p q a b) c) d))

pub kept32 : (u : ℤ) → IsCoordinate u → to_z w32 (of_z w32 u) ≡ u
kept32 u h = omega (arith, ints, h.0, h.1)

-- equal values from equal arguments
pub ap4 : (f : ℤ → ℤ → ℤ → ℤ → ℤ) {p p' q q' r r' t t' : ℤ} → p ≡ p' → q ≡ q' → r ≡ r' → t ≡ t' → f p q r t ≡ f p' q' r' t'
ap4 f {p} {p'} {q} {q'} {r} {r'} {t} {t'} e g h k =
    ap (λ (z : ℤ). f z q r t) e ∙ ap (λ (z : ℤ). f p' z r t) g ∙ ap (λ (z : ℤ). f p' q' z t) h ∙ ap (λ (z : ℤ). f p' q' r' z) k
