-- Looking for the first fault, position by position.
use Rattle.std.proofs.Common.{◌≡◌, ℕ, suc, ◌+◌, ◌-◌, ◌<◌, ◌≤◌, Option, None, Some, IsSome, is_some, false, refl, sym, ap, ◌∙◌, arith}
use Rattle.sgm_words.specs.Faults.{first_fault}
use Rattle.sgm_words.specs.declared.usage.UsageFault.{UsageFault}

next : (check : ℕ → Option UsageFault) (i n : ℕ) → check i ≡ None → first_fault check i (suc n) ≡ first_fault check (i + 1) n
unfolding first_fault
next check i n none = rw none refl

here : (check : ℕ → Option UsageFault) (i n : ℕ) (fault : UsageFault) → check i ≡ Some fault → first_fault check i (suc n) ≡ Some fault
unfolding first_fault
here check i n fault found = rw found refl

-- nothing is wrong at i
pub first_next : (check : ℕ → Option UsageFault) (i end : ℕ) (first : Option UsageFault) → i < end → check i ≡ None → first_fault check i (end - i) ≡ first
    → first_fault check (i + 1) (end - (i + 1)) ≡ first
first_next check i end first lt none so =
    let one : suc (end - (i + 1)) ≡ end - i = omega arith in
    sym (next check i (end - (i + 1)) none) ∙ ap (λ (n : ℕ). first_fault check i n) one ∙ so

found_here : (check : ℕ → Option UsageFault) (i n : ℕ) (o : Option UsageFault) → check i ≡ o → IsSome o → first_fault check i (suc n) ≡ o
found_here check i n None is some = absurd (cc)
found_here check i n (Some fault) is some = here check i n fault is

-- something is wrong at i
pub first_here : (check : ℕ → Option UsageFault) (i end : ℕ) (first o : Option UsageFault) → i < end → check i ≡ o → IsSome o → first_fault check i (end - i) ≡ first → o ≡ first
first_here check i end first o lt is some so =
    let one : suc (end - (i + 1)) ≡ end - i = omega arith in
    sym (found_here check i (end - (i + 1)) o is some) ∙ ap (λ (n : ℕ). first_fault check i n) one ∙ so

none_left : (check : ℕ → Option UsageFault) (i : ℕ) → first_fault check i 0 ≡ None
unfolding first_fault
none_left check i = refl

-- no position is left
pub first_end : (check : ℕ → Option UsageFault) (i end : ℕ) (first : Option UsageFault) → end ≤ i → first_fault check i (end - i) ≡ first → None ≡ first
first_end check i end first le so =
    let none : 0 ≡ end - i = omega arith in
    sym (none_left check i) ∙ ap (λ (n : ℕ). first_fault check i n) none ∙ so

-- so many positions from one on
pub first_begins : (check : ℕ → Option UsageFault) (from count end : ℕ) → end - from ≡ count → first_fault check from (end - from) ≡ first_fault check from count
first_begins check from count end is = ap (λ (n : ℕ). first_fault check from n) is

-- a value that isn't there
pub none_by : {A : Type 0} (o : Option A) → is_some o ≡ false → o ≡ None
none_by None e = refl
none_by (Some x) e = absurd (cc)

pub none_but : {A : Type 0} (o : Option A) → ((x : A) → o ≡ Some x → ⊥) → o ≡ None
none_but None never = refl
none_but (Some x) never = absurd (never x refl)
