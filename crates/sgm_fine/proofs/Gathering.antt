-- What is gathered place by place.
use Rattle.std.proofs.Common.{◌≡◌, ℕ, ◌+◌, ◌*◌, ◌/◌, ◌%◌, ◌<◌, List, slice_set, ℤ, pos, ◌≤ℤ◌, inl, inr, get_or-set_other, arith, subst, sym, ◌∙◌}
use Rattle.std.proofs.lemmas.Bool.{cases_eq}
use Rattle.std.proofs.lemmas.Int.{ints}
use Rattle.std.proofs.Math.ListN.{length-set}
use Rattle.sgm_fine.specs.Bands.{AreLanes, HoldsGathered, IsGathered, start}
use Rattle.sgm_fine.specs.Windows.{number}
use Rattle.sgm_fine.specs.declared.samples.Lie.{Lie}
use Rattle.sgm_fine.specs.declared.whole.Gathered.{Gathered}
use Rattle.sgm_fine.proofs.Numbers.{number_more}

-- the same with numbers for the place k
abbrev pub with : Gathered → ℕ → ℤ → ℤ → ℤ → ℤ → Gathered
with g k b c d e = record {
  left = g.left;
  first = slice_set g.first k b;
  second = slice_set g.second k c;
  third = slice_set g.third k d;
  part = slice_set g.part k e;
}

lanes_more : (xs : List ℤ) (k : ℕ) (v : ℤ) → k < 25 → AreLanes xs → AreLanes (slice_set xs k v)
lanes_more xs k v lt h = (length-set xs k v ∙ h.0, λ j le. get_or-set_other xs k j v (pos 0) (λ e. omega (arith, e, le, lt)) ∙ h.1 j le)

pub lanes_with : (g : Gathered) (k : ℕ) (b c d e : ℤ) → k < 25 → IsGathered g → IsGathered (with g k b c d e)
lanes_with g k b c d e lt h = record {
  left = h.left;
  first = lanes_more g.first k b lt h.first;
  second = lanes_more g.second k c lt h.second;
  third = lanes_more g.third k d lt h.third;
  part = lanes_more g.part k e lt h.part;
}

-- the numbers of one place
pub record AreOf (b c d e : ℤ) (band : List ℤ) (lie : Lie) (k : ℕ) : Type 0 where
  pub first : b ≡ number band (4160 * (k / 5) + start lie k / 16)
  pub second : c ≡ number band (4160 * (k / 5) + start lie k / 16 + 1)
  pub third : d ≡ number band (4160 * (k / 5) + start lie k / 16 + 2)
  pub part : e ≡ pos (start lie k % 16)

pub gathered_more : (g : Gathered) (band : List ℤ) (lie : Lie) (k : ℕ) (b c d e : ℤ) → k < 25 → IsGathered g → AreOf b c d e band lie k → ((n : ℕ) → n < k → HoldsGathered g band lie n)
    → (n : ℕ) → n < k + 1 → HoldsGathered (with g k b c d e) band lie n
gathered_more g band lie k b c d e lt long is h n hn = record {
  first = number_more (λ n. number band (4160 * (n / 5) + start lie n / 16)) g.first k b (omega (arith, lt, long.first.0)) is.first (λ m hm. (h m hm).first) n hn;
  second = number_more (λ n. number band (4160 * (n / 5) + start lie n / 16 + 1)) g.second k c (omega (arith, lt, long.second.0)) is.second (λ m hm. (h m hm).second) n hn;
  third = number_more (λ n. number band (4160 * (n / 5) + start lie n / 16 + 2)) g.third k d (omega (arith, lt, long.third.0)) is.third (λ m hm. (h m hm).third) n hn;
  part = number_more (λ n. pos (start lie n % 16)) g.part k e (omega (arith, lt, long.part.0)) is.part (λ m hm. (h m hm).part) n hn;
}

-- the same of another name of the place
pub gathered_renamed : (a b : ℕ) (g : Gathered) (band : List ℤ) (lie : Lie) → a ≡ b → ((n : ℕ) → n < a → HoldsGathered g band lie n) → (n : ℕ) → n < b → HoldsGathered g band lie n
gathered_renamed a b g band lie e h n hn = h n (omega (arith, hn, e))

-- the least of what comes before and of one more
pub least_more : (f : ℕ → ℤ) (k : ℕ) (z m : ℤ) → z ≤ℤ m → ((j : ℕ) → j < k → m ≤ℤ f j) → z ≤ℤ f k → (j : ℕ) → j < k + 1 → z ≤ℤ f j
least_more f k z m le h here j hj = elim (cases_eq j k) [
  | inl same ↦ subst (λ n. z ≤ℤ f n) (sym same) here
  | inr other ↦ omega (arith, ints, le, h j (omega arith))
]
