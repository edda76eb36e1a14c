-- The samples on the right between three pixels, from the steps between these.
use Rattle.std.proofs.Common.{◌≡◌, ℕ, ◌+◌, ◌-◌, ◌*◌, ◌<◌, ◌≤◌, ℤ, pos, ◌+ℤ◌, ◌-ℤ◌, ◌*ℤ◌, inl, inr, to_z, of_z, w32, arith, ap, ap₂, ◌∙◌}
use Rattle.std.proofs.lemmas.Bool.{cases_lt}
use Rattle.std.proofs.lemmas.Nat.{mul-le}
use Rattle.std.proofs.lemmas.Int.{ints}
use Rattle.sgm_base.specs.Ranges.{IsFromTo}
use Rattle.sgm_fine.proofs.Products.{times_difference}

-- sixteen times a sample and so many times the step to the next one
mixed_to : (a b f n : ℕ) → n + f ≡ 16 → (pos 16 *ℤ pos a) +ℤ (pos f *ℤ (pos b -ℤ pos a)) ≡ pos (n * a + f * b)
mixed_to a b f n e = omega (arith, ints, times_difference (pos f) (pos b) (pos a), ap (λ m. m * a) e)

mixed_is : (a b f : ℕ) → f < 16 → (pos 16 *ℤ pos a) +ℤ (pos f *ℤ (pos b -ℤ pos a)) ≡ pos ((16 - f) * a + f * b)
mixed_is a b f lt = mixed_to a b f (16 - f) (omega (arith, lt))

-- half a pixel further
sooner_is : (a b f : ℕ) (z : ℤ) → f < 8 → z ≡ pos ((16 - f) * a + f * b) → z +ℤ (pos 8 *ℤ (pos b -ℤ pos a)) ≡ pos ((8 - f) * a + (8 + f) * b)
sooner_is a b f z lt e =
    let half : (8 - f) + 8 ≡ 16 - f = omega (arith, lt) in
    omega (arith, ints, e, ap (λ m. m * a) half)

-- half a pixel back
later_is : (b c f : ℕ) (z : ℤ) → 8 ≤ f → f < 16 → z ≡ pos ((16 - f) * b + f * c) → z -ℤ (pos 8 *ℤ (pos c -ℤ pos b)) ≡ pos ((24 - f) * b + (f - 8) * c)
later_is b c f z le lt e =
    let more : (16 - f) + 8 ≡ 24 - f = omega (arith, lt) in
    let less : (f - 8) + 8 ≡ f = omega (arith, le) in
    omega (arith, ints, e, ap (λ m. m * b) more, ap (λ m. m * c) less)

-- what lies between two samples has 20 bits
mixed_small : (a b n f : ℕ) → n + f ≡ 16 → a < 65536 → b < 65536 → n * a + f * b < 1048576
mixed_small a b n f e la lb = omega (arith, mul-le n a n 65535 (omega arith) (omega (arith, la)), mul-le f b f 65535 (omega arith) (omega (arith, lb)), e)

-- what the code computes of them
mixed_kept : (r h t p : ℤ) (a b f : ℕ) → r ≡ (pos 16 *ℤ h) +ℤ (p *ℤ t) → h ≡ pos a → t ≡ pos b -ℤ pos a → p ≡ pos f → f < 16 → r ≡ pos ((16 - f) * a + f * b)
mixed_kept r h t p a b f e eh et ep lt =
    e ∙ ap₂ (λ (y z : ℤ). y +ℤ z) (ap (λ (y : ℤ). pos 16 *ℤ y) eh) (ap₂ (λ (y z : ℤ). y *ℤ z) ep et) ∙ mixed_is a b f lt

-- a step between two samples
pub step_kept : (a b : ℕ) → a < 65536 → b < 65536 → to_z w32 (of_z w32 (to_z w32 b -ℤ to_z w32 a)) ≡ pos b -ℤ pos a
step_kept a b la lb = omega (arith, ints, la, lb)

-- so many times the one and the other, below 2 ^ 20
abbrev pub IsOf : ℤ → ℕ → ℕ → ℕ → ℕ → Type 0
IsOf r a b n f = (r ≡ pos (n * a + f * b)) × (n * a + f * b < 1048576)

pub between_kept : (r : ℤ) (a b f : ℕ) → a < 65536 → b < 65536 → f < 16 → r ≡ (pos 16 *ℤ to_z w32 a) +ℤ (to_z w32 f *ℤ to_z w32 (of_z w32 (to_z w32 b -ℤ to_z w32 a))) → IsOf r a b (16 - f) f
between_kept r a b f la lb lt e =
    (mixed_kept r (to_z w32 a) _ (to_z w32 f) a b f e (omega (arith, ints, la)) (step_kept a b la lb) (omega (arith, ints, lt)) lt, mixed_small a b (16 - f) f (omega (arith, lt)) la lb)

pub sooner_kept : (r z : ℤ) (a b f : ℕ) → a < 65536 → b < 65536 → f < 8 → IsOf z a b (16 - f) f → r ≡ to_z w32 (of_z w32 z) +ℤ (pos 8 *ℤ to_z w32 (of_z w32 (to_z w32 b -ℤ to_z w32 a))) → IsOf r a b (8 - f) (8 + f)
sooner_kept r z a b f la lb lt is e =
    let same : to_z w32 (of_z w32 z) ≡ z = omega (arith, ints, is.0, is.1) in
    (e ∙ ap₂ (λ (p q : ℤ). p +ℤ (pos 8 *ℤ q)) same (step_kept a b la lb) ∙ sooner_is a b f z lt is.0, mixed_small a b (8 - f) (8 + f) (omega (arith, lt)) la lb)

pub later_kept : (r z : ℤ) (b c f : ℕ) → b < 65536 → c < 65536 → 8 ≤ f → f < 16 → IsOf z b c (16 - f) f → r ≡ to_z w32 (of_z w32 z) -ℤ (pos 8 *ℤ to_z w32 (of_z w32 (to_z w32 c -ℤ to_z w32 b))) → IsOf r b c (24 - f) (f - 8)
later_kept r z b c f lb lc le lt is e =
    let same : to_z w32 (of_z w32 z) ≡ z = omega (arith, ints, is.0, is.1) in
    (e ∙ ap₂ (λ (p q : ℤ). p -ℤ (pos 8 *ℤ q)) same (step_kept b c lb lc) ∙ later_is b c f z le lt is.0, mixed_small b c (24 - f) (f - 8) (omega (arith, le, lt)) lb lc)

pub half_small : (r : ℤ) (a b c f : ℕ) → (f < 8 → IsOf r a b (8 - f) (8 + f)) → (8 ≤ f → IsOf r b c (24 - f) (f - 8)) → IsFromTo (pos 0) (pos 1048575) r
half_small r a b c f sooner later = elim (cases_lt f 8) [
  | inl lt ↦ let is = sooner lt in (omega (arith, ints, is.0), omega (arith, ints, is.0, is.1))
  | inr ge ↦ let is = later ge in (omega (arith, ints, is.0), omega (arith, ints, is.0, is.1))
]
