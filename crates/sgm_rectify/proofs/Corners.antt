-- A denominator that is positive at the corners is positive over the whole image.
use Rattle.std.proofs.Common.{◌≡◌, ℕ, ◌-◌, ◌<◌, ◌≤◌, ◌⊎◌, suc, Bool, true, false, cond, List, Option, Some, None, ℤ, pos, negsuc, ◌+ℤ◌, ◌*ℤ◌, ◌≤ℤ◌, ◌<ℤ◌, refl, arith, inl, inr}
use Rattle.std.specs.Prelude.{int_le}
use Rattle.std.proofs.lemmas.Int.{ints}
use Rattle.std.proofs.Math.Nat.{mul-le-mul_left}
use Rattle.sgm_base.specs.Sides.{Sides}
use Rattle.sgm_rectify.specs.Places.{entry, denominator}
use Rattle.sgm_rectify.specs.Faults.{bad_corner}

-- along a side a product is at least 0, its value at the start, or at least its value at the end
side : (a : ℤ) (x w : ℕ) → x ≤ w → (pos 0 ≤ℤ (a *ℤ pos x)) ⊎ ((a *ℤ pos w) ≤ℤ (a *ℤ pos x))
side (pos n) x w h = inl (omega (arith, ints))
side (negsuc n) x w h = inr (omega (arith, ints, mul-le-mul_left (suc n) h))

times_zero : (a : ℤ) → a *ℤ pos 0 ≡ pos 0
times_zero (pos n) = omega (arith, ints)
times_zero (negsuc n) = omega (arith, ints)

rectangle : (a b c : ℤ) (x y w h : ℕ) → x ≤ w → y ≤ h
    → pos 0 <ℤ (((a *ℤ pos 0) +ℤ (b *ℤ pos 0)) +ℤ c) → pos 0 <ℤ (((a *ℤ pos w) +ℤ (b *ℤ pos 0)) +ℤ c)
    → pos 0 <ℤ (((a *ℤ pos 0) +ℤ (b *ℤ pos h)) +ℤ c) → pos 0 <ℤ (((a *ℤ pos w) +ℤ (b *ℤ pos h)) +ℤ c)
    → pos 0 <ℤ (((a *ℤ pos x) +ℤ (b *ℤ pos y)) +ℤ c)
rectangle a b c x y w h p q c0 c1 c2 c3 = elim (side a x w p) [
  | inl k ↦ elim (side b y h q) [
    | inl l ↦ omega (arith, ints, times_zero a, times_zero b)
    | inr l ↦ omega (arith, ints, times_zero a, times_zero b)
  ]
  | inr k ↦ elim (side b y h q) [
    | inl l ↦ omega (arith, ints, times_zero a, times_zero b)
    | inr l ↦ omega (arith, ints, times_zero a, times_zero b)
  ]
]

record AllFalse (p q r s : Bool) : Type 0 where
  pub first : p ≡ false
  pub second : q ≡ false
  pub third : r ≡ false
  pub fourth : s ≡ false

none_bad : (p q r s : Bool) → cond {A = Option ℕ} p (Some 0) (cond {A = Option ℕ} q (Some 1) (cond {A = Option ℕ} r (Some 2) (cond {A = Option ℕ} s (Some 3) None))) ≡ None → AllFalse p q r s
none_bad true q r s e = absurd (cc)
none_bad false true r s e = absurd (cc)
none_bad false false true s e = absurd (cc)
none_bad false false false true e = absurd (cc)
none_bad false false false false e = record { first = refl; second = refl; third = refl; fourth = refl }

above_zero : (z : ℤ) → int_le z (pos 0) ≡ false → pos 0 <ℤ z
above_zero z e = omega (arith, ints)

pub positive_inside : (matrix : List ℤ) (sides : Sides) (x y : ℕ) → bad_corner matrix sides ≡ None → x < sides.width → y < sides.height → pos 0 <ℤ denominator matrix x y
positive_inside matrix sides x y e h k =
    let w : ℕ = sides.width - 1 in
    let b : ℕ = sides.height - 1 in
    let good = none_bad (int_le (denominator matrix 0 0) (pos 0)) (int_le (denominator matrix w 0) (pos 0)) (int_le (denominator matrix 0 b) (pos 0)) (int_le (denominator matrix w b) (pos 0)) e in
    rectangle (entry matrix 6) (entry matrix 7) (entry matrix 8) x y w b (omega arith) (omega arith)
    (above_zero (denominator matrix 0 0) good.first) (above_zero (denominator matrix w 0) good.second) (above_zero (denominator matrix 0 b) good.third) (above_zero (denominator matrix w b) good.fourth)
