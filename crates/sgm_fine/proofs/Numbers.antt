-- Numbers that are written one by one.
use Rattle.std.proofs.Common.{◌≡◌, ℕ, ◌+◌, ◌<◌, ◌≤◌, zero, suc, refl, List, length, replicate, slice_set, ℤ, pos, inl, inr, get_or-set_other, arith, ap, subst, sym, ◌∙◌}
use Rattle.std.proofs.lemmas.Bool.{cases_eq, cases_lt}
use Rattle.std.proofs.lemmas.Int.{ints}
use Rattle.std.proofs.lemmas.Grind.{get_or-set_at}
use Rattle.sgm_base.specs.Ranges.{Within}
use Rattle.sgm_fine.specs.Windows.{IsPadded, number}

pub number_more : (f : ℕ → ℤ) (xs : List ℤ) (i : ℕ) (v : ℤ) → i < length xs → v ≡ f i → ((j : ℕ) → j < i → number xs j ≡ f j)
    → (j : ℕ) → j < i + 1 → number (slice_set xs i v) j ≡ f j
number_more f xs i v lt e h j hj = elim (cases_eq j i) [
  | inl same ↦ get_or-set_at xs i j v (pos 0) same lt ∙ e ∙ ap f (sym same)
  | inr other ↦ get_or-set_other xs i j v (pos 0) other ∙ h j (omega arith)
]

-- those behind stay as they are
pub padded_more : (xs : List ℤ) (i : ℕ) (v : ℤ) → ((j : ℕ) → i ≤ j → number xs j ≡ pos 0) → (j : ℕ) → i + 1 ≤ j → number (slice_set xs i v) j ≡ pos 0
padded_more xs i v h j hj = get_or-set_other xs i j v (pos 0) (λ e. omega (arith, e, hj)) ∙ h j (omega (arith, hj))

-- so that all are small where those of the places are
pub within_all : (m : ℕ) (xs : List ℤ) → ((k : ℕ) → k < 25 → Within m (number xs k)) → IsPadded xs → (k : ℕ) → Within m (number xs k)
within_all m xs small padded k = elim (cases_lt k 25) [
  | inl lt ↦ small k lt
  | inr ge ↦ let none = padded k ge in (omega (arith, ints, none), omega (arith, ints, none))
]

pub number_none : (n k : ℕ) → number (replicate n (pos 0)) k ≡ pos 0
number_none zero k = refl
number_none (suc n) zero = refl
number_none (suc n) (suc k) = number_none n k

pub within_more : (m : ℕ) (xs : List ℤ) (i : ℕ) (v : ℤ) → i < length xs → Within m v → ((j : ℕ) → j < i → Within m (number xs j))
    → (j : ℕ) → j < i + 1 → Within m (number (slice_set xs i v) j)
within_more m xs i v lt w h j hj = elim (cases_eq j i) [
  | inl same ↦ subst (Within m) (sym (get_or-set_at xs i j v (pos 0) same lt)) w
  | inr other ↦ subst (Within m) (sym (get_or-set_other xs i j v (pos 0) other)) (h j (omega arith))
]
