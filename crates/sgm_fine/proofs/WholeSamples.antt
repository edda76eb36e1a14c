-- A pixel's samples as they are vary as those made small do, where they are small already.
use Rattle.std.proofs.Common.{◌≡◌, ℕ, ◌+◌, ◌<◌, ◌≤◌, ◌++◌, true, List, [], ◌∷◌, length, map, Option, Some, Contains, unwrap_or, unsigned_abs, slice_index, ◌-◌, ℤ, pos, neg_ℤ, ◌≤ℤ◌, ◌+ℤ◌, arith, ap, sym, ◌∙◌}
use Rattle.std.specs.List.{All, range_with_len}
use Rattle.std.specs.Prelude.{slice_index_or}
use Rattle.std.proofs.lemmas.Int.{ints}
use Rattle.std.proofs.lemmas.List.Elements.{All-contains}
use Rattle.std.proofs.lemmas.List.FromFn.{get_or-map-range_with_len, length-map-range_with_len}
use Rattle.sgm_base.specs.Ranges.{IsFromTo}
use Rattle.sgm_fine.specs.Finer.{ArePixelParts}
use Rattle.sgm_fine.specs.Samples.{Centre, half, has, has_all, left_at, lefts, right_at, rights}
use Rattle.sgm_fine.specs.Scores.{HoldsPart, HoldsParts, covariance}
use Rattle.sgm_fine.specs.Small.{HoldsWhole, IsSmall, least, small_left, small_right}
use Rattle.sgm_fine.specs.Windows.{number}
use Rattle.sgm_fine.specs.declared.scores.Part.{Part}
use Rattle.sgm_fine.specs.declared.scores.Parts.{Parts}
use Rattle.sgm_fine.specs.declared.small.SmallWindow.{SmallWindow}
use Rattle.sgm_fine.proofs.Covariances.{covariance_same, covariance_shifted, covariance_turned}
use Rattle.sgm_fine.proofs.Halvings.{in_first, in_second, in_third, least_each}
use Rattle.sgm_fine.proofs.PlaceSamples.{all_four}
use Rattle.sgm_fine.proofs.Unhalved.{left_whole, right_whole}
use Rattle.sgm_fine.proofs.WindowSamples.{all_pass}

-- all samples are there
pub whole_has : (w : SmallWindow) (p : Centre) → HoldsWhole w p → has_all p ≡ true
whole_has w p h =
    all_pass (has p) 0 25
    (λ k lt. sym (all_four (left_at p k) (right_at p half k) (right_at p (pos 0) k) (right_at p (neg_ℤ half) k) _ _ _ _ (h.left k lt) (h.after k lt) (h.here k lt) (h.before k lt)))

-- numbers that are each so much greater than others
abbrev IsAbove : ℤ → (ℕ → ℤ) → (ℕ → ℤ) → Type 0
IsAbove c f g = (k : ℕ) → k < 25 → f k ≡ g k +ℤ c

above_right : (c : ℤ) (f g h : ℕ → ℤ) → IsAbove c g h → covariance f g ≡ covariance f h
above_right c f g h e =
    covariance_same f g (λ k. h k +ℤ c) e ∙ covariance_turned f (λ k. h k +ℤ c) ∙ covariance_shifted c h f ∙ covariance_turned h f

-- they vary as the others do
above_same : (b c : ℤ) (f g p q : ℕ → ℤ) → IsAbove b f p → IsAbove c g q → covariance f g ≡ covariance p q
above_same b c f g p q hf hg = above_right c f g q hg ∙ covariance_turned f q ∙ above_right b q f p hf ∙ covariance_turned q p

part_same : (b c : ℤ) (part : Part) (l h s m i t : ℕ → ℤ) → IsAbove b l m → IsAbove c h i → IsAbove c s t → HoldsPart part l h s → HoldsPart part m i t
part_same b c part l h s m i t hl hh hs is = record {
  left = is.left ∙ above_same b c l s m t hl hs;
  cross = is.cross ∙ above_same c c h s i t hh hs;
  own = is.own ∙ above_same c c s s t t hs hs;
}

-- no sample is below the least
least_bound : (xs : List ℕ) → All (λ v. least xs ≤ v) xs
least_bound [] k d lt = absurd (omega (arith, lt))
least_bound (x ∷ xs) k d lt = least_each x xs k d lt

least_of_any : (xs : List ℕ) (v : ℕ) → Contains xs v → least xs ≤ v
least_of_any xs v has = All-contains (λ u. least xs ≤ u) xs v (least_bound xs) has

-- the samples of all places, where each is there
abbrev samples : (ℕ → Option ℕ) → List ℕ
samples f = map (λ k. unwrap_or (f k) 0) (range_with_len 0 25)

abbrev HoldsNumbers : (ℕ → Option ℕ) → List ℤ → Type 0
HoldsNumbers f numbers = (k : ℕ) → k < 25 → f k ≡ Some (unsigned_abs (number numbers k))

sample_is : (f : ℕ → Option ℕ) (numbers : List ℤ) → HoldsNumbers f numbers → (k d : ℕ) → k < 25 → slice_index_or (samples f) k d ≡ unsigned_abs (number numbers k)
sample_is f numbers h k d lt =
    get_or-map-range_with_len (λ j. unwrap_or (f j) 0) 0 25 k k d lt (omega arith) ∙ ap (λ o. unwrap_or o 0) (h k lt)

samples_below : (m : ℕ) (f : ℕ → Option ℕ) (numbers : List ℤ) → HoldsNumbers f numbers → ((k : ℕ) → k < 25 → IsFromTo (pos 0) (pos m) (number numbers k)) → All (λ v. v < m + 1) (samples f)
samples_below m f numbers h within k d lt =
    let below : k < 25 = omega (arith, lt, length-map-range_with_len (λ j. unwrap_or (f j) 0) 0 25) in
    let bound = within k below in
    omega (arith, ints, sample_is f numbers h k d below, bound.0, bound.1)

-- a number is a sample, and so much above that sample less the least
above_least : (f : ℕ → Option ℕ) (numbers : List ℤ) (low k : ℕ) (small : ℤ) → HoldsNumbers f numbers → k < 25 → pos 0 ≤ℤ number numbers k
    → low ≤ slice_index (samples f) k → small ≡ pos (slice_index (samples f) k - low) → number numbers k ≡ small +ℤ pos low
above_least f numbers low k small h lt from le e = omega (arith, ints, sample_is f numbers h k 0 lt, from, le, e)

below_256 : (w : SmallWindow) (p : Centre) → HoldsWhole w p → IsSmall w → All (λ v. v < 256) (lefts p)
below_256 w p h small = samples_below 255 (left_at p) w.left h.left small.left

-- how far the numbers are above those made small
left_above : (w : SmallWindow) (p : Centre) → HoldsWhole w p → IsSmall w → IsAbove (pos (least (lefts p))) (number w.left) (small_left p)
left_above w p h small k lt =
    above_least (left_at p) w.left (least (lefts p)) k (small_left p k) h.left lt (small.left k lt).0
    (least_bound (lefts p) k 0 (omega (arith, lt, length-map-range_with_len (λ j. unwrap_or (left_at p j) 0) 0 25)))
    (left_whole p k (below_256 w p h small))

abbrev all_rights : Centre → List ℕ
all_rights p = rights p half ++ rights p (pos 0) ++ rights p (neg_ℤ half)

-- so it is on the right, where a sample is among all
right_above : (w : SmallWindow) (p : Centre) (offset : ℤ) (numbers : List ℤ) → HoldsWhole w p → IsSmall w → HoldsNumbers (right_at p offset) numbers
    → ((k : ℕ) → k < 25 → IsFromTo (pos 0) (pos 4095) (number numbers k)) → ((k : ℕ) → k < length (rights p offset) → Contains (all_rights p) (slice_index (rights p offset) k))
    → IsAbove (pos (least (all_rights p))) (number numbers) (small_right p offset)
right_above w p offset numbers h small holds within among k lt =
    above_least (right_at p offset) numbers (least (all_rights p)) k (small_right p offset k) holds lt (within k lt).0
    (least_of_any (all_rights p) _ (among k (omega (arith, lt, length-map-range_with_len (λ j. unwrap_or (right_at p offset j) 0) 0 25))))
    (right_whole p offset k (samples_below 4095 (right_at p half) w.after h.after small.after) (samples_below 4095 (right_at p (pos 0)) w.here h.here small.here)
    (samples_below 4095 (right_at p (neg_ℤ half)) w.before h.before small.before))

-- a window of the samples made small
numbers_of : (ℕ → ℤ) → List ℤ
numbers_of f = map f (range_with_len 0 25)

made : Centre → SmallWindow
made p = record {
  left = numbers_of (small_left p);
  after = numbers_of (small_right p half);
  here = numbers_of (small_right p (pos 0));
  before = numbers_of (small_right p (neg_ℤ half));
}

number_of : (f : ℕ → ℤ) (k : ℕ) → k < 25 → number (numbers_of f) k ≡ f k
unfolding numbers_of
number_of f k lt = get_or-map-range_with_len f 0 25 k k (pos 0) lt (omega arith)

above_number : (c : ℤ) (g f : ℕ → ℤ) → IsAbove c g f → IsAbove c g (number (numbers_of f))
above_number c g f h k lt = h k lt ∙ ap (λ z. z +ℤ c) (sym (number_of f k lt))

-- the parts of a window of the samples as they are, are those of the samples made small
pub whole_parts : (parts : Parts) (w : SmallWindow) (p : Centre) → HoldsWhole w p → IsSmall w → HoldsParts parts w → ArePixelParts parts p
unfolding HoldsParts made
whole_parts parts w p h small holds =
    let a = pos (least (lefts p)) in
    let b = pos (least (all_rights p)) in
    let left = above_number a (number w.left) (small_left p) (left_above w p h small) in
    let after = above_number b (number w.after) (small_right p half)
    (right_above w p half w.after h small h.after small.after (in_first (rights p half) (rights p (pos 0)) (rights p (neg_ℤ half)))) in
    let here = above_number b (number w.here) (small_right p (pos 0))
    (right_above w p (pos 0) w.here h small h.here small.here (in_second (rights p half) (rights p (pos 0)) (rights p (neg_ℤ half)))) in
    let before = above_number b (number w.before) (small_right p (neg_ℤ half))
    (right_above w p (neg_ℤ half) w.before h small h.before small.before (in_third (rights p half) (rights p (pos 0)) (rights p (neg_ℤ half)))) in
    record {
      window = made p;
      holds = record {
        alone = holds.alone ∙ above_same a a _ _ _ _ left left;
        here = part_same a b parts.here _ _ _ _ _ _ left here here holds.here;
        after = part_same a b parts.after _ _ _ _ _ _ left here after holds.after;
        before = part_same a b parts.before _ _ _ _ _ _ left here before holds.before;
      };
      left = number_of (small_left p);
      after = number_of (small_right p half);
      here = number_of (small_right p (pos 0));
      before = number_of (small_right p (neg_ℤ half));
    }
