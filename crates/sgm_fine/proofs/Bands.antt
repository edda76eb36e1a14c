-- Rows that are packed number by number.
use Rattle.std.proofs.Common.{◌≡◌, ℕ, ◌+◌, ◌*◌, ◌-◌, ◌<◌, ◌≤◌, List, Option, None, slice_index_or, length, slice_set, ℤ, pos, inl, inr, get_or-set_other, arith, ap, sym, ◌∙◌}
use Rattle.std.proofs.lemmas.Bool.{cases_eq, cases_lt}
use Rattle.std.proofs.lemmas.Grind.{get_or-set_at}
use Rattle.sgm_base.specs.Values.{Values, value_at}
use Rattle.sgm_fine.specs.Bands.{HoldsRows, IsPackedFrom, packed}
use Rattle.sgm_fine.specs.Windows.{number}

pub row_more : (f : ℕ → ℤ) (xs : List ℤ) (from i : ℕ) (v : ℤ) → from + i < length xs → v ≡ f i → ((q : ℕ) → q < i → number xs (from + q) ≡ f q)
    → (q : ℕ) → q < i + 1 → number (slice_set xs (from + i) v) (from + q) ≡ f q
row_more f xs from i v lt e h q hq = elim (cases_eq q i) [
  | inl same ↦ get_or-set_at xs (from + i) (from + q) v (pos 0) (ap (λ n. from + n) same) lt ∙ e ∙ ap f (sym same)
  | inr other ↦ get_or-set_other xs (from + i) (from + q) v (pos 0) (λ x. other (omega (arith, x))) ∙ h q (omega arith)
]

pub row_kept : (xs ys : List ℤ) (from i : ℕ) (v : ℤ) → ((k : ℕ) → k < from → number xs k ≡ number ys k) → (k : ℕ) → k < from → number (slice_set xs (from + i) v) k ≡ number ys k
row_kept xs ys from i v h k hk = get_or-set_other xs (from + i) k v (pos 0) (λ x. omega (arith, x, hk)) ∙ h k hk

pub rows_more : (j y : ℕ) (xs ys : List ℤ) (plane : Values) → plane.width ≤ 4160
    → HoldsRows j xs plane y → ((k : ℕ) → k < 4160 * j → number ys k ≡ number xs k)
    → ((q : ℕ) → q < plane.width → number ys (4160 * j + q) ≡ packed (value_at plane q (y + j - 2)))
    → HoldsRows (j + 1) ys plane y
rows_more j y xs ys plane few h kept written i q hi hq = elim (cases_lt i j) [
  | inl lt ↦ kept (4160 * i + q) (omega (arith, lt, hq, few)) ∙ h i q lt hq
  | inr ge ↦
      let same : i ≡ j = omega (arith, ge, hi) in
      ap (λ n. number ys (4160 * n + q)) same ∙ written q hq ∙ ap (λ n. packed (value_at plane q (y + n - 2))) (sym same)
]

-- samples that are packed behind those before
pub joined : (from n : ℕ) (row part : List (Option ℕ)) (mid new : List ℤ) → ((q : ℕ) → q < n → number mid (from + q) ≡ packed (slice_index_or row q None))
    → ((q : ℕ) → q < length part → slice_index_or part q None ≡ slice_index_or row (n + q) None) → IsPackedFrom (from + n) part mid new
    → (q : ℕ) → q < n + length part → number new (from + q) ≡ packed (slice_index_or row q None)
joined from n row part mid new before same h q hq = elim (cases_lt q n) [
  | inl lt ↦ h.kept (from + q) (omega (arith, lt)) ∙ before q lt
  | inr ge ↦
      let i : ℕ = q - n in
      let at : from + q ≡ from + n + i = omega (arith, ge) in
      let is : n + i ≡ q = omega (arith, ge) in
      ap (number new) at ∙ h.written i (omega (arith, ge, hq)) ∙ ap packed (same i (omega (arith, ge, hq)) ∙ ap (λ k. slice_index_or row k None) is)
]
