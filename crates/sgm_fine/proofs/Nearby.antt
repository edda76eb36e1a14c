-- The values around a pixel that lie near its own, place by place, and their mean.
use Rattle.std.proofs.Common.{◌≡◌, ℕ, ◌+◌, ◌*◌, ◌/◌, zero, suc, refl, List, [], ◌∷◌, ◌++◌, Bool, true, false, length, Option, Some, None, pos, ◌+ℤ◌, ◌-ℤ◌, unsigned_abs, ◌-◌, append-nil, ap₂, ◌&&◌, if◌then◌else◌, length-append, arith, ap, sym, ◌∙◌}
use Rattle.std.specs.List.{cons_option, filter_map, range_with_len, sum}
use Rattle.std.specs.Prelude.{nat_le, option_map}
use Rattle.std.proofs.lemmas.Bool.{and_from, cond-true, le-leb}
use Rattle.std.proofs.lemmas.Int.{ints}
use Rattle.std.proofs.lemmas.List.Elements.{filter_map-append}
use Rattle.std.proofs.lemmas.List.Sums.{sum_by-append}
use Rattle.sgm_base.specs.Values.{Values, value_at}
use Rattle.sgm_fine.specs.Means.{mean_value, near, near_at}
use Rattle.sgm_fine.specs.Slopes.{step_to}
use Rattle.sgm_fine.specs.Windows.{value_around}

range_more : (a n : ℕ) → range_with_len a (suc n) ≡ range_with_len a n ++ (a + n) ∷ []
range_more a zero = let e : a ≡ a + 0 = omega arith in ap (λ j. j ∷ []) e
range_more a (suc n) = let e : a + 1 + n ≡ a + suc n = omega arith in ap (λ xs. a ∷ xs) (range_more (a + 1) n ∙ ap (λ j. range_with_len (a + 1) n ++ j ∷ []) e)

-- those of the first n places
pub near_below : Values → ℕ → ℕ → ℕ → ℕ → List ℕ
near_below map x y m n = filter_map (near_at map x y m) (range_with_len 0 n)

near_next : (map : Values) (x y m n : ℕ) → near_below map x y m (n + 1) ≡ near_below map x y m n ++ filter_map (near_at map x y m) (n ∷ [])
unfolding near_below
near_next map x y m n =
    let next : n + 1 ≡ suc n = omega arith in
    let here : 0 + n ≡ n = omega arith in
    ap (λ k. filter_map (near_at map x y m) (range_with_len 0 k)) next ∙ ap (filter_map (near_at map x y m)) (range_more 0 n ∙ ap (λ j. range_with_len 0 n ++ j ∷ []) here)
    ∙ filter_map-append (near_at map x y m) (range_with_len 0 n) (n ∷ [])

kept : List ℕ → Option ℕ → List ℕ
kept xs (Some v) = xs ++ v ∷ []
kept xs None = xs

one_more : (f : ℕ → Option ℕ) (xs : List ℕ) (n : ℕ) (r : Option ℕ) → r ≡ f n → xs ++ filter_map f (n ∷ []) ≡ kept xs r
unfolding kept
one_more f xs n (Some v) e = ap (λ o. xs ++ cons_option o []) (sym e)
one_more f xs n None e = ap (λ o. xs ++ cons_option o []) (sym e) ∙ append-nil xs

-- a place that has none adds nothing
pub near_without : (map : Values) (x y m n : ℕ) → None ≡ near_at map x y m n → near_below map x y m (n + 1) ≡ near_below map x y m n
unfolding kept
near_without map x y m n e = near_next map x y m n ∙ one_more (near_at map x y m) (near_below map x y m n) n None e

-- the sum and the number of those of the first n places
pub sum_near : Values → ℕ → ℕ → ℕ → ℕ → ℕ
sum_near map x y m n = sum (near_below map x y m n)

pub count_near : Values → ℕ → ℕ → ℕ → ℕ → ℕ
count_near map x y m n = length (near_below map x y m n)

pub sum_none : (map : Values) (x y m n : ℕ) → None ≡ near_at map x y m n → sum_near map x y m (n + 1) ≡ sum_near map x y m n
unfolding sum_near
sum_none map x y m n e = ap sum (near_without map x y m n e)

pub count_none : (map : Values) (x y m n : ℕ) → None ≡ near_at map x y m n → count_near map x y m (n + 1) ≡ count_near map x y m n
unfolding count_near
count_none map x y m n e = ap length (near_without map x y m n e)

near_with : (map : Values) (x y m n v : ℕ) → Some v ≡ near_at map x y m n → near_below map x y m (n + 1) ≡ near_below map x y m n ++ v ∷ []
unfolding kept
near_with map x y m n v e = near_next map x y m n ∙ one_more (near_at map x y m) (near_below map x y m n) n (Some v) e

pub sum_some : (map : Values) (x y m n v : ℕ) → Some v ≡ near_at map x y m n → sum_near map x y m (n + 1) ≡ sum_near map x y m n + v
unfolding sum_near
sum_some map x y m n v e =
    let own : sum (v ∷ []) ≡ v = omega arith in
    ap sum (near_with map x y m n v e) ∙ sum_by-append (λ z. z) (near_below map x y m n) (v ∷ []) ∙ ap (λ z. sum (near_below map x y m n) + z) own

pub count_some : (map : Values) (x y m n v : ℕ) → Some v ≡ near_at map x y m n → count_near map x y m (n + 1) ≡ count_near map x y m n + 1
unfolding count_near
count_some map x y m n v e = ap length (near_with map x y m n v e) ∙ length-append (near_below map x y m n) (v ∷ [])

pub sum_zero : (map : Values) (x y m : ℕ) → sum_near map x y m 0 ≡ 0
unfolding sum_near near_below
sum_zero map x y m = refl

pub count_zero : (map : Values) (x y m : ℕ) → count_near map x y m 0 ≡ 0
unfolding count_near near_below
count_zero map x y m = refl

-- all of them
pub sum_all : (map : Values) (x y m : ℕ) → sum_near map x y m 9 ≡ sum (near map x y m)
unfolding sum_near near_below
sum_all map x y m = refl

pub count_all : (map : Values) (x y m : ℕ) → count_near map x y m 9 ≡ length (near map x y m)
unfolding count_near near_below
count_all map x y m = refl

-- and their mean
pub mean_is : (map : Values) (x y m : ℕ) → (2 * sum_near map x y m 9 + count_near map x y m 9) / (2 * count_near map x y m 9) ≡ mean_value map x y m
unfolding sum_near count_near near_below mean_value
mean_is map x y m = refl

pub mean_from : (map : Values) (x y m s n : ℕ) → s ≡ sum (near map x y m) → n ≡ length (near map x y m) → (2 * s + n) / (2 * n) ≡ mean_value map x y m
unfolding mean_value
mean_from map x y m s n es en = ap₂ (λ (a b : ℕ). (2 * a + b) / (2 * b)) es en

-- the pixel's own value is among them
own_step : (most m : ℕ) (b : Bool) → b ≡ true → option_map (λ step. unsigned_abs (pos m +ℤ step)) (if b then Some (pos m -ℤ pos m) else None) ≡ Some m
own_step most m true e = ap Some (omega (arith, ints))
own_step most m false e = cc

pub near_own : (map : Values) (x y m : ℕ) → value_at map x y ≡ Some m → near_at map x y m 4 ≡ Some m
near_own map x y m e =
    let inside : (nat_le 1 (x + 1) && nat_le 1 (y + 1)) ≡ true = and_from (nat_le 1 (x + 1)) (nat_le 1 (y + 1)) (le-leb 1 (x + 1) (omega arith)) (le-leb 1 (y + 1) (omega arith)) in
    let same_x : x + 1 - 1 ≡ x = omega arith in
    let same_y : y + 1 - 1 ≡ y = omega arith in
    let around : value_around map 1 x y 1 1 ≡ Some m =
    cond-true (nat_le 1 (x + 1) && nat_le 1 (y + 1)) (value_at map (x + 1 - 1) (y + 1 - 1)) None inside
    ∙ ap₂ (λ a b. value_at map a b) same_x same_y ∙ e in
    ap (λ o. option_map (λ step. unsigned_abs (pos m +ℤ step)) (step_to 16 m o)) around
    ∙ own_step 16 m (nat_le m (m + 16) && nat_le m (m + 16)) (and_from (nat_le m (m + 16)) (nat_le m (m + 16)) (le-leb m (m + 16) (omega arith)) (le-leb m (m + 16) (omega arith)))
