-- One step of the recurrence, over plain numbers.
use Rattle.std.proofs.Common.{◌≡◌, ℕ, ◌+◌, ◌-◌, ◌<◌, ◌≤◌, refl, ap, inl, inr, arith}
use Rattle.std.proofs.lemmas.Bool.Decides.{nat_tests}
use Rattle.std.proofs.lemmas.Bool.{cases_eq}
use Rattle.sgm_energy.specs.Step.{carried}
use Rattle.sgm_energy.specs.Energies.{change}

pub change_same : (p1 far a b : ℕ) → a ≡ b → change p1 far a b ≡ 0
change_same p1 far a b e = grind (arith, nat_tests)

pub change_near : (p1 far a b : ℕ) → a + 1 ≡ b → change p1 far a b ≡ p1
change_near p1 far a b e = grind (arith, nat_tests)

pub change_near_down : (p1 far a b : ℕ) → b + 1 ≡ a → change p1 far a b ≡ p1
change_near_down p1 far a b e = grind (arith, nat_tests)

pub change_le : (p1 far a b : ℕ) → p1 ≤ far → change p1 far a b ≤ far
change_le p1 far a b e = grind (arith, nat_tests)

pub change_far : (p1 far a b : ℕ) → (a ≡ b → ⊥) → (a + 1 ≡ b → ⊥) → (b + 1 ≡ a → ⊥) → change p1 far a b ≡ far
change_far p1 far a b e f h = grind (arith, nat_tests)

-- the four values of which carried is the least
pub carried_le_same : (prev : ℕ → ℕ) (count p1 far low d : ℕ) → carried prev count p1 far low d ≤ prev d
unfolding carried
carried_le_same prev count p1 far low d = grind (arith, nat_tests)

pub carried_le_far : (prev : ℕ → ℕ) (count p1 far low d : ℕ) → carried prev count p1 far low d ≤ low + far
unfolding carried
carried_le_far prev count p1 far low d = grind (arith, nat_tests)

pub carried_le_down : (prev : ℕ → ℕ) (count p1 far low d a : ℕ) → a + 1 ≡ d → carried prev count p1 far low d ≤ prev a + p1
unfolding carried
carried_le_down prev count p1 far low d a e = grind (arith, nat_tests)

pub carried_le_up : (prev : ℕ → ℕ) (count p1 far low d a : ℕ) → d + 1 ≡ a → a < count → carried prev count p1 far low d ≤ prev a + p1
unfolding carried
carried_le_up prev count p1 far low d a e h = grind (arith, nat_tests)

pub carried_from : (prev : ℕ → ℕ) (count p1 far low d k : ℕ) → k ≤ prev d → k ≤ low + far → ((a : ℕ) → a + 1 ≡ d → k ≤ prev a + p1) → ((a : ℕ) → d + 1 ≡ a → a < count → k ≤ prev a + p1) → k ≤ carried prev count p1 far low d
unfolding carried
carried_from prev count p1 far low d k same other down up = grind (arith, nat_tests, down (d - 1), up (d + 1))

-- what is the least over all indices before is what is carried: b was subtracted from the values before, and c is the cost
pub step_is : (prev : ℕ → ℕ) (count p1 far low d b c all : ℕ) → d < count → p1 ≤ far
    → ((a : ℕ) → a < count → low ≤ prev a) → (a : ℕ) → a < count → prev a ≡ low
    → ((a : ℕ) → a < count → all ≤ (prev a + b) + (c + change p1 far a d))
    → (a : ℕ) → a < count → (prev a + b) + (c + change p1 far a d) ≤ all
    → all ≡ (c + carried prev count p1 far low d) + b
step_is prev count p1 far low d b c all hd hf each m hm em le a ha in' =
    let upper : all - (b + c) ≤ carried prev count p1 far low d = carried_from prev count p1 far low d (all - (b + c))
    (omega (arith, le d hd, change_same p1 far d d refl))
    (omega (arith, le m hm, change_le p1 far m d hf))
    (λ x e. let hx : x < count = omega arith in omega (arith, le x hx, change_near p1 far x d e))
    (λ x e hx. omega (arith, le x hx, change_near_down p1 far x d e)) in
    let lower : c + (carried prev count p1 far low d + b) ≤ all = elim (cases_eq a d) [
      | inl e ↦ omega (arith, change_same p1 far a d e, carried_le_same prev count p1 far low d, ap prev e)
      | inr n ↦ (elim (cases_eq (a + 1) d) [
        | inl e ↦ omega (arith, change_near p1 far a d e, carried_le_down prev count p1 far low d a e)
        | inr n' ↦ (elim (cases_eq (d + 1) a) [
          | inl e ↦ omega (arith, change_near_down p1 far a d e, carried_le_up prev count p1 far low d a e ha)
          | inr n'' ↦ omega (arith, change_far p1 far a d n n' n'', carried_le_far prev count p1 far low d, each a ha)
        ])
      ])
    ] in
    omega (arith, upper, lower, le d hd)
