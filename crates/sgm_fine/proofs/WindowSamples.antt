-- The samples of a window, as they are gathered place by place.
use Rattle.std.proofs.Common.{◌≡◌, ℕ, zero, suc, ◌+◌, ◌^◌, ◌<◌, Bool, true, false, ◌&&◌, List, length, get_or, map, Option, Some, unwrap_or, pos, neg_ℤ, length-set, arith, refl, ap, ap₂, subst, sym, ◌∙◌}
use Rattle.std.specs.List.{list_all, range_with_len}
use Rattle.std.proofs.lemmas.List.{get_or-set_other, get_or-set_same}
use Rattle.std.proofs.lemmas.List.Elements.{All-set}
use Rattle.std.proofs.lemmas.List.Folds.{list_all_at}
use Rattle.std.proofs.lemmas.List.FromFn.{fill_by_all, get_or-range_with_len, length-range_with_len}
use borrow.Author.Count.{below_more}
use lib.ListN.{set}
use Rattle.sgm_base.specs.Values.{Values}
use Rattle.sgm_fine.specs.Samples.{Centre, HoldsLie, HoldsPlace, IsPlace, IsWindow, centre, half, has, left_at, right_at}
use Rattle.sgm_fine.specs.declared.samples.Lie.{Lie}
use Rattle.sgm_fine.specs.declared.samples.Pixel.{Pixel}
use Rattle.sgm_fine.specs.declared.samples.Place.{Place}
use Rattle.sgm_fine.specs.declared.samples.Window.{Window}
use Rattle.sgm_fine.proofs.PlaceSamples.{all_four}

-- what a list holds of the first k places
abbrev pub HoldsList : (ℕ → Option ℕ) → ℕ → List ℕ → Type 0
HoldsList f k xs = (j : ℕ) → j < k → f j ≡ Some (get_or xs j 0)

pub list_more : (f : ℕ → Option ℕ) (xs : List ℕ) (k v : ℕ) → k < length xs → HoldsList f k xs → f k ≡ Some v → HoldsList f (k + 1) (set xs k v)
list_more f xs k v lt below here =
    below_more (λ j. f j ≡ Some (get_or (set xs k v) j 0)) k
    (λ j l. below j l ∙ ap (λ n. Some n) (sym (get_or-set_other xs k j v 0 (λ e. omega arith))))
    (here ∙ ap (λ n. Some n) (sym (get_or-set_same xs k v 0 lt)))

pub list_all_places : (f : ℕ → Option ℕ) (xs : List ℕ) (n k : ℕ) → length xs ≡ n → k ≡ n → HoldsList f k xs → xs ≡ map (λ j. unwrap_or (f j) 0) (range_with_len 0 n)
list_all_places f xs n k long all h =
    fill_by_all (λ j. unwrap_or (f j) 0) xs n 0 long (λ j lt. sym (ap (λ o. unwrap_or o 0) (h j (omega arith))))

-- what a window holds of the first k places
pub record HoldsBelow (k : ℕ) (window : Window) (p : Centre) : Type 0 where
  pub left : HoldsList (left_at p) k window.left
  pub after : HoldsList (right_at p half) k window.after
  pub here : HoldsList (right_at p (pos 0)) k window.here
  pub before : HoldsList (right_at p (neg_ℤ half)) k window.before

pub none_below : (window : Window) (p : Centre) → HoldsBelow 0 window p
none_below window p = record {
  left = λ j lt. absurd (omega arith);
  after = λ j lt. absurd (omega arith);
  here = λ j lt. absurd (omega arith);
  before = λ j lt. absurd (omega arith);
}

-- a window of a pixel, of which the first k places are filled
pub record IsFilled (window : Window) (left right : Values) (lie : Lie) (at : Pixel) (k : ℕ) : Type 0 where
  pub long_left : length window.left ≡ 25
  pub long_after : length window.after ≡ 25
  pub long_here : length window.here ≡ 25
  pub long_before : length window.before ≡ 25
  pub kept : IsWindow window
  pub held : (map : Values) → HoldsLie lie (centre left right map at.first at.x at.y at.value) → HoldsBelow k window (centre left right map at.first at.x at.y at.value)

pub has_below : (k : ℕ) (window : Window) (p : Centre) → HoldsBelow k window p → (j : ℕ) → j < k → has p j ≡ true
has_below k window p h j lt =
    sym (all_four (left_at p j) (right_at p half j) (right_at p (pos 0) j) (right_at p (neg_ℤ half) j) _ _ _ _ (h.left j lt) (h.after j lt) (h.here j lt) (h.before j lt))

-- a test of all places
pub all_pass : (f : ℕ → Bool) (a n : ℕ) → ((j : ℕ) → j < a + n → f j ≡ true) → list_all f (range_with_len a n) ≡ true
all_pass f a zero h = refl
all_pass f a (suc n) h = ap₂ (λ x y. x && y) (h a (omega arith)) (all_pass f (a + 1) n (λ j lt. h j (omega arith)))

pub one_fails : (f : ℕ → Bool) (n k : ℕ) → k < n → f k ≡ false → list_all f (range_with_len 0 n) ≡ false
one_fails f n k lt e =
    let at : get_or (range_with_len 0 n) k 0 ≡ k = omega (arith, get_or-range_with_len 0 n k 0 lt) in
    list_all_at f (range_with_len 0 n) k 0 (omega (arith, length-range_with_len 0 n)) (ap f at ∙ e)

-- a window with the samples of the place k
abbrev pub with_place : Window → ℕ → Place → Window
with_place w k s = record { left = set w.left k s.left; after = set w.after k s.after; here = set w.here k s.here; before = set w.before k s.before }

pub filled_more : (w : Window) (left right : Values) (lie : Lie) (at : Pixel) (k n : ℕ) (s : Place) → k < 25 → k + 1 ≡ n → IsPlace s
    → ((map : Values) → HoldsLie lie (centre left right map at.first at.x at.y at.value) → HoldsPlace s (centre left right map at.first at.x at.y at.value) k)
    → IsFilled w left right lie at k → IsFilled (with_place w k s) left right lie at n
filled_more w left right lie at k n s lt next small is before = subst (IsFilled (with_place w k s) left right lie at) next (record {
  long_left = length-set w.left k s.left ∙ before.long_left;
  long_after = length-set w.after k s.after ∙ before.long_after;
  long_here = length-set w.here k s.here ∙ before.long_here;
  long_before = length-set w.before k s.before ∙ before.long_before;
  kept = record {
    left = All-set (λ v. v < 2 ^ 16) w.left k s.left small.left before.kept.left;
    after = All-set (λ v. v < 2 ^ 20) w.after k s.after small.after before.kept.after;
    here = All-set (λ v. v < 2 ^ 20) w.here k s.here small.here before.kept.here;
    before = All-set (λ v. v < 2 ^ 20) w.before k s.before small.before before.kept.before;
  };
  held = λ map h.
      let p : Centre = centre left right map at.first at.x at.y at.value in
      let below = before.held map h in
      let more = is map h in
      record {
        left = list_more (left_at p) w.left k s.left (omega (arith, lt, before.long_left)) below.left more.left;
        after = list_more (right_at p half) w.after k s.after (omega (arith, lt, before.long_after)) below.after more.after;
        here = list_more (right_at p (pos 0)) w.here k s.here (omega (arith, lt, before.long_here)) below.here more.here;
        before = list_more (right_at p (neg_ℤ half)) w.before k s.before (omega (arith, lt, before.long_before)) below.before more.before;
      };
})
