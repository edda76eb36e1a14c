-- No value of a map that is made finer is above those that there can be.
use Rattle.std.proofs.Common.{◌≡◌, ℕ, ◌+◌, ◌-◌, ◌*◌, ◌/◌, ◌%◌, ◌<◌, ◌≤◌, zero, suc, Bool, true, ltb, ◌&&◌, nat_lt, List, [], ◌∷◌, filter, length, get_or, Option, Some, None, IfSome, option_map, ℤ, pos, ◌+ℤ◌, ◌-ℤ◌, ◌≤ℤ◌, unsigned_abs, if◌then◌else◌, refl, arith, ap, sym, subst, inl, inr}
use Rattle.std.specs.Prelude.{nat_le}
use Rattle.std.specs.List.{best_of, range_with_len}
use Rattle.std.proofs.lemmas.Bool.{cases_lt, cond_both}
use Rattle.std.proofs.lemmas.Int.{ints}
use Rattle.std.proofs.lemmas.List.{get_or_past}
use Rattle.std.proofs.lemmas.List.Elements.{All-map}
use Rattle.std.proofs.lemmas.Nat.{div_below}
use Rattle.sgm_base.specs.Disparities.{Disparities}
use Rattle.sgm_base.specs.Values.{Values, AtMost, row_by_row, value_at}
use Rattle.sgm_fine.specs.Finer.{best, finer, finer_value, fits, order, place_score, tells}
use Rattle.sgm_fine.specs.Making.{made_finer}
use Rattle.sgm_fine.specs.Means.{mean_value, means, near_at}
use Rattle.sgm_fine.specs.Samples.{Centre, centre, has_all}
use Rattle.sgm_fine.specs.Slopes.{step_to}
use Rattle.sgm_fine.specs.Windows.{value_around}
use Rattle.sgm_fine.proofs.Nearby.{count_near, count_none, count_some, mean_is, sum_near, sum_none, sum_some, sum_zero}

-- no value above most
abbrev Low : ℕ → Option ℕ → Type 0
Low most entry = IfSome entry (λ value. value ≤ most)

entry_low : (most : ℕ) (es : List (Option ℕ)) (k : ℕ) → AtMost most es → Low most (get_or es k None)
entry_low most es k h = elim (cases_lt k (length es)) [
  | inl l ↦ h k None l
  | inr l ↦ subst (Low most) (sym (get_or_past es k None l)) tt
]

value_low : (most : ℕ) (m : Values) (x y : ℕ) → AtMost most m.entries → Low most (value_at m x y)
value_low most m x y h =
    cond_both (ltb x m.width && ltb y m.height) (get_or m.entries (y * m.width + x) None) None (Low most) (λ e. entry_low most m.entries (y * m.width + x) h) (λ e. tt)

mapped_low : (most : ℕ) (f : ℕ → ℕ) (o : Option ℕ) → Low most o → ((v : ℕ) → v ≤ most → f v ≤ most) → Low most (option_map f o)
mapped_low most f None h each = tt
mapped_low most f (Some v) h each = each v h

-- ---- finer values

-- the value of the place lies from 0 to most
abbrev Lies : ℕ → ℕ → ℤ → Type 0
Lies most m c = (pos 0 ≤ℤ (pos m +ℤ c)) × ((pos m +ℤ c) ≤ℤ pos most)

-- what is said of the first and of all that pass a test is said of the best of these
best_lies : (takes : ℤ → ℤ → Bool) (P : ℤ → Type 0) (q : ℤ → Bool) (b : ℤ) (xs : List ℤ) → P b → ((c : ℤ) → q c ≡ true → P c) → P (best_of takes b (filter q xs))
best_lies takes P q b [] h each = h
best_lies takes P q b (c ∷ xs) h each =
    cond_both (q c) (c ∷ filter q xs) (filter q xs) (λ ys. P (best_of takes b ys))
    (λ e. best_lies takes P q (if takes c b then c else b) xs (cond_both (takes c b) c b P (λ _. each c e) (λ _. h)) each)
    (λ e. best_lies takes P q b xs h each)

fits_lies : (count most m : ℕ) (c : ℤ) → 16 * (count - 1) ≤ most → fits (16 * (count - 1)) m c ≡ true → Lies most m c
fits_lies count most m c h e = (grind (arith, ints, e), grind (arith, ints, h, e))

lies_low : (most m : ℕ) (c : ℤ) → Lies most m c → unsigned_abs (pos m +ℤ c) ≤ most
lies_low most m c h = omega (arith, ints, h.0, h.1)

none_lies : (most m : ℕ) → m ≤ most → Lies most m (pos 0)
none_lies most m h = (omega (arith, ints), omega (arith, ints, h))

finer_value_low : (count most : ℕ) (p : Centre) → 16 * (count - 1) ≤ most → p.value ≤ most → finer_value count p ≤ most
unfolding finer_value
finer_value_low count most p few h =
    let lies : Lies most p.value (best count p) =
    best_lies (λ a b. nat_lt (place_score p b) (place_score p a)) (Lies most p.value) (fits (16 * (count - 1)) p.value) (pos 0) order (none_lies most p.value h)
    (λ c e. fits_lies count most p.value c few e) in
    cond_both (has_all p && tells p (best count p)) (unsigned_abs (pos p.value +ℤ best count p)) p.value (λ v. v ≤ most)
    (λ _. lies_low most p.value (best count p) lies) (λ _. h)

finer_low : (left right map : Values) (span : Disparities) (most : ℕ) → 16 * (span.count - 1) ≤ most → AtMost most map.entries → AtMost most (finer left right map span).entries
unfolding row_by_row
finer_low left right map span most few h =
    let at : ℕ → ℕ → Option ℕ = λ x y. option_map (λ value. finer_value span.count (centre left right map span.first x y value)) (value_at map x y) in
    let low : (x y : ℕ) → Low most (at x y) = λ x y.
    mapped_low most (λ value. finer_value span.count (centre left right map span.first x y value)) (value_at map x y) (value_low most map x y h)
    (λ v l. finer_value_low span.count most (centre left right map span.first x y v) few l) in
    All-map (Low most) (λ k. at (k % map.width) (k / map.width)) (range_with_len 0 (map.width * map.height)) (λ k d l. low _ _)

-- ---- means

step_low : (most reach m : ℕ) (o : Option ℕ) → Low most o → Low most (option_map (λ step. unsigned_abs (pos m +ℤ step)) (step_to reach m o))
step_low most reach m None h = tt
step_low most reach m (Some v) h =
    cond_both (nat_le v (m + reach) && nat_le m (v + reach)) (Some (pos v -ℤ pos m)) None (λ o. Low most (option_map (λ step. unsigned_abs (pos m +ℤ step)) o))
    (λ e. omega (arith, ints, h)) (λ e. tt)

around_low : (most : ℕ) (map : Values) (x y i j : ℕ) → AtMost most map.entries → Low most (value_around map 1 x y i j)
around_low most map x y i j h =
    cond_both (nat_le 1 (x + i) && nat_le 1 (y + j)) (value_at map (x + i - 1) (y + j - 1)) None (Low most)
    (λ e. value_low most map (x + i - 1) (y + j - 1) h) (λ e. tt)

near_low : (most : ℕ) (map : Values) (x y m k : ℕ) → AtMost most map.entries → Low most (near_at map x y m k)
near_low most map x y m k h = step_low most 16 m (value_around map 1 x y (k % 3) (k / 3)) (around_low most map x y (k % 3) (k / 3) h)

sum_more : (most : ℕ) (map : Values) (x y m n : ℕ) (o : Option ℕ) → o ≡ near_at map x y m n → Low most o → sum_near map x y m n ≤ most * count_near map x y m n
    → sum_near map x y m (n + 1) ≤ most * count_near map x y m (n + 1)
sum_more most map x y m n (Some v) e low before =
    omega (arith, sum_some map x y m n v e, ap (λ k. most * k) (count_some map x y m n v e), low, before)
sum_more most map x y m n None e low before = omega (arith, sum_none map x y m n e, ap (λ k. most * k) (count_none map x y m n e), before)

sum_low : (most : ℕ) (map : Values) (x y m n : ℕ) → AtMost most map.entries → sum_near map x y m n ≤ most * count_near map x y m n
sum_low most map x y m zero h = omega (arith, sum_zero map x y m)
sum_low most map x y m (suc n) h =
    let next : n + 1 ≡ suc n = omega arith in
    subst (λ k. sum_near map x y m k ≤ most * count_near map x y m k) next
    (sum_more most map x y m n (near_at map x y m n) refl (near_low most map x y m n h) (sum_low most map x y m n h))

mean_within : (s n most : ℕ) → s ≤ most * n → (2 * s + n) / (2 * n) ≤ most
mean_within s zero most h = omega (arith, h)
mean_within s (suc n) most h =
    let below : (2 * s + suc n) / (2 * suc n) < most + 1 = div_below (2 * s + suc n) (2 * suc n) (most + 1) (omega arith) (omega (arith, h)) in
    omega (arith, below)

mean_low : (most : ℕ) (map : Values) (x y m : ℕ) → AtMost most map.entries → mean_value map x y m ≤ most
mean_low most map x y m h =
    subst (λ v. v ≤ most) (mean_is map x y m) (mean_within (sum_near map x y m 9) (count_near map x y m 9) most (sum_low most map x y m 9 h))

means_low : (map : Values) (most : ℕ) → AtMost most map.entries → AtMost most (means map).entries
unfolding row_by_row
means_low map most h =
    let at : ℕ → ℕ → Option ℕ = λ x y. option_map (mean_value map x y) (value_at map x y) in
    let low : (x y : ℕ) → Low most (at x y) = λ x y. mapped_low most (mean_value map x y) (value_at map x y) (value_low most map x y h) (λ v l. mean_low most map x y v h) in
    All-map (Low most) (λ k. at (k % map.width) (k / map.width)) (range_with_len 0 (map.width * map.height)) (λ k d l. low _ _)

-- ---- both

pub made_low : (fine : Bool) (left right map : Values) (span : Disparities) (most : ℕ) → 16 * (span.count - 1) ≤ most → AtMost most map.entries
    → AtMost most (made_finer fine left right map span).entries
made_low fine left right map span most few h =
    cond_both fine (means (finer left right map span)) map (λ (v : Values). AtMost most v.entries)
    (λ _. means_low (finer left right map span) most (finer_low left right map span most few h)) (λ _. h)
