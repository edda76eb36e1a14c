-- Rows of costs.
use Rattle.std.proofs.Common.{◌≡◌, ℕ, ◌+◌, ◌-◌, ◌*◌, ◌/◌, ◌%◌, ◌<◌, ◌≤◌, Bool, true, false, cond, ltb, min, List, [], ◌∷◌, ◌++◌, length, get_or, take, Option, Some, None, option_map, option_and_then, ℤ, pos, negsuc, ◌+ℤ◌, ◌-ℤ◌, refl, sym, ap, ◌∙◌, subst, arith, inl, inr}
use Rattle.std.proofs.lemmas.Bool.{cases_lt, lt-ltb, le-ltb}
use Rattle.std.proofs.lemmas.Bool.Decides.{nat_tests}
use Rattle.std.proofs.lemmas.Int.{ints}
use Rattle.std.proofs.lemmas.List.{get_or-take, get_or_append_left, get_or-append_right}
use Rattle.std.proofs.lemmas.Nat.{mul-le, row_fits, div-add-mod', mod_below, div_below}
use Rattle.sgm_census.specs.Windows.{WindowSides, IsWindow, greatest_of}
use Rattle.sgm_base.specs.Columns.{column_within, left_column, right_column}
use Rattle.sgm_census.specs.Codes.{Codes, IsCodes, code_in}
use Rattle.sgm_census.specs.Costs.{differs, differing, cost_between, missing_cost, single_cost, cost_by, census_cost}
use Rattle.sgm_census.specs.declared.rule.CostRule.{CostRule}
use Rattle.sgm_census.specs.declared.rule.CostRule.TheVariants.{Plain, Smoothed}
use Rattle.sgm_lanes.specs.Middles.{smoothed}
use Rattle.sgm_census.specs.Packed.{unpacked, HoldsCodes}
use Rattle.sgm_census.proofs.CodeLists.{unpacked-length}

-- ---- columns from the right end

within : (width n : ℕ) → n < width → column_within width (pos n) ≡ Some n
within width n h = ap (λ b. cond b (Some n) None) (lt-ltb n width h)

beyond : (width n : ℕ) → width ≤ n → column_within width (pos n) ≡ None
beyond width n h = ap (λ b. cond b (Some n) None) (le-ltb n width h)

mirrored : (width : ℕ) (z w : ℤ) → 0 < width → z +ℤ w ≡ pos (width - 1) → column_within width z ≡ option_map (λ m. width - 1 - m) (column_within width w)
mirrored width (pos n) (pos m) p e =
    let back : n ≡ width - 1 - m = omega (arith, ints) in
    within width n (omega (arith, ints)) ∙ ap (λ k. Some k) back ∙ sym (ap (λ o. option_map (λ k. width - 1 - k) o) (within width m (omega (arith, ints))))
mirrored width (pos n) (negsuc m) p e = beyond width n (omega (arith, ints))
mirrored width (negsuc n) (pos m) p e = sym (ap (λ o. option_map (λ k. width - 1 - k) o) (beyond width m (omega (arith, ints))))
mirrored width (negsuc n) (negsuc m) p e = refl

column_small : (width m : ℕ) (z : ℤ) → column_within width z ≡ Some m → m < width
column_small width m (pos n) e = elim (cases_lt n width) [
  | inl h ↦ (let same : Some n ≡ Some m = sym (within width n h) ∙ e in let number : n ≡ m = cc in omega arith)
  | inr h ↦ (let none : None ≡ Some m = sym (beyond width n h) ∙ e in cc)
]
column_small width m (negsuc n) e = cc

right_column-mirrored : (width : ℕ) (first : ℤ) (x d : ℕ) → x < width → right_column width first x d ≡ option_map (λ m. width - 1 - m) (left_column width first (width - 1 - x) d)
right_column-mirrored width first x d h =
    mirrored width ((pos x -ℤ first) -ℤ pos d) ((pos (width - 1 - x) +ℤ first) +ℤ pos d) (omega arith) (omega (arith, ints))

-- ---- costs from rows of codes

right_codes : (right : Codes) (y : ℕ) (words : List ℕ) (present : List Bool) (o : Option ℕ) → HoldsCodes right y words present → ((m : ℕ) → o ≡ Some m → m < right.width)
    → option_and_then (λ q. code_in right q y) (option_map (λ m. right.width - 1 - m) o) ≡ option_and_then (unpacked (greatest_of right.window) words present) o
right_codes right y words present None h s = refl
right_codes right y words present (Some m) h s =
    let inside : m < right.width = s m refl in
    let back : right.width - 1 - (right.width - 1 - m) ≡ m = omega arith in
    h.each (right.width - 1 - m) (omega arith) ∙ ap (unpacked (greatest_of right.window) words present) back

-- the single cost of a pixel from the rows of codes, which stand from right to left
pub single_cost-rows : (left right : Codes) (first : ℤ) (x y d : ℕ) (words more_words : List ℕ) (present more_present : List Bool) → HoldsCodes left y words present → HoldsCodes right y more_words more_present
    → left.width ≡ right.width → left.window ≡ right.window → x < left.width
    → single_cost left right first x y d
    ≡ cost_between (missing_cost left.rule left.window) (unpacked (greatest_of left.window) words present (left.width - 1 - x))
    (option_and_then (unpacked (greatest_of left.window) more_words more_present) (left_column left.width first (left.width - 1 - x) d))
unfolding single_cost
single_cost-rows left right first x y d words more_words present more_present h k ew es l =
    let n = greatest_of left.window in
    let missing = missing_cost left.rule left.window in
    let bits : greatest_of right.window ≡ n = ap (λ (w : WindowSides). greatest_of w) (sym es) in
    let place : ℕ = left.width - 1 - x in
    ap (λ o. cost_between missing o (option_and_then (λ q. code_in right q y) (right_column right.width first x d))) (h.each x l)
    ∙ ap (λ o. cost_between missing (unpacked n words present place) o)
    (ap (λ o. option_and_then (λ q. code_in right q y) o) (right_column-mirrored right.width first x d (omega arith))
    ∙ right_codes right y more_words more_present (left_column right.width first (right.width - 1 - x) d) k (λ m e. column_small right.width m ((pos (right.width - 1 - x) +ℤ first) +ℤ pos d) e)
    ∙ ap (λ b. option_and_then (unpacked b more_words more_present) (left_column right.width first (right.width - 1 - x) d)) bits
    ∙ ap (λ w. option_and_then (unpacked n more_words more_present) (left_column w first (w - 1 - x) d)) (sym ew))

differs-le : (a b : Bool) → differs a b ≤ 1
differs-le true true = omega arith
differs-le true false = omega arith
differs-le false true = omega arith
differs-le false false = omega arith

differing-le : (xs ys : List Bool) → differing xs ys ≤ length xs
differing-le [] ys = omega arith
differing-le (x ∷ xs) [] = omega arith
differing-le (x ∷ xs) (y ∷ ys) = omega (arith, differs-le x y, differing-le xs ys)

cost_between-le : (n missing : ℕ) (o p : Option (List Bool)) → missing ≤ n → ((code : List Bool) → o ≡ Some code → length code ≤ n) → cost_between missing o p ≤ n
cost_between-le n missing None p small h = omega arith
cost_between-le n missing (Some a) None small h = omega arith
cost_between-le n missing (Some a) (Some b) small h = omega (arith, differing-le a b, h a refl)

missing_cost-le : (rule : CostRule) (window : WindowSides) → missing_cost rule window ≤ greatest_of window
missing_cost-le Plain window = omega arith
missing_cost-le Smoothed window = omega arith

-- no single cost is above the greatest
single_cost-le : (left right : Codes) (first : ℤ) (x y d : ℕ) → IsCodes left → single_cost left right first x y d ≤ greatest_of left.window
unfolding single_cost
single_cost-le left right first x y d k =
    cost_between-le (greatest_of left.window) (missing_cost left.rule left.window) (code_in left x y) (option_and_then (λ q. code_in right q y) (right_column right.width first x d))
    (missing_cost-le left.rule left.window) (λ code e. omega (arith, k.lengths x y code e))

pub single_cost-le_row : (left right : Codes) (first : ℤ) (x y d : ℕ) (words : List ℕ) (present : List Bool) → HoldsCodes left y words present → x < left.width → single_cost left right first x y d ≤ greatest_of left.window
unfolding single_cost
single_cost-le_row left right first x y d words present h l =
    cost_between-le (greatest_of left.window) (missing_cost left.rule left.window) (code_in left x y) (option_and_then (λ q. code_in right q y) (right_column right.width first x d))
    (missing_cost-le left.rule left.window)
    (λ code e. omega (arith, unpacked-length (greatest_of left.window) (get_or words (left.width - 1 - x) 0) (get_or present (left.width - 1 - x) false) code (sym (h.each x l) ∙ e)))

-- the single cost with the numbers that the code has
pub single_cost-read : (left right : Codes) (first : ℤ) (x y d n missing width : ℕ) (words more_words : List ℕ) (present more_present : List Bool) → n ≡ greatest_of left.window → missing ≡ missing_cost left.rule left.window → width ≡ left.width
    → HoldsCodes left y words present → HoldsCodes right y more_words more_present → left.width ≡ right.width → left.window ≡ right.window → x < left.width
    → cost_between missing (unpacked n words present (width - 1 - x)) (option_and_then (unpacked n more_words more_present) (left_column width first (width - 1 - x) d)) ≡ single_cost left right first x y d
single_cost-read left right first x y d n missing width words more_words present more_present en em ew h k same_width same_window l =
    let g = greatest_of left.window in
    ap (λ m. cost_between missing (unpacked m words present (width - 1 - x)) (option_and_then (unpacked m more_words more_present) (left_column width first (width - 1 - x) d))) en
    ∙ ap (λ m. cost_between m (unpacked g words present (width - 1 - x)) (option_and_then (unpacked g more_words more_present) (left_column width first (width - 1 - x) d))) em
    ∙ ap (λ w. cost_between (missing_cost left.rule left.window) (unpacked g words present (w - 1 - x)) (option_and_then (unpacked g more_words more_present) (left_column w first (w - 1 - x) d))) ew
    ∙ sym (single_cost-rows left right first x y d words more_words present more_present h k same_width same_window l)

-- ---- from single costs to costs

pub smoothed-le : (n before here after : ℕ) → before ≤ n → here ≤ n → after ≤ n → smoothed before here after ≤ n
smoothed-le n before here after b h a = omega arith

cost_by-le : (rule : CostRule) (width : ℕ) (single : ℕ → ℕ) (x n : ℕ) → ((q : ℕ) → single q ≤ n) → cost_by rule width single x ≤ n
cost_by-le Plain width single x n h = h x
cost_by-le Smoothed width single x n h = smoothed-le n _ _ _ (h (x - 1)) (h x) (h (cond (ltb (x + 1) width) (x + 1) x))

-- no cost is above the greatest
pub census_cost-le : (left right : Codes) (first : ℤ) (x y d : ℕ) → IsCodes left → census_cost left right first x y d ≤ greatest_of left.window
unfolding census_cost
census_cost-le left right first x y d k = cost_by-le left.rule left.width (λ q. single_cost left right first q y d) x (greatest_of left.window) (λ q. single_cost-le left right first q y d k)

-- the column after x, or x itself where there is none
pub next_is : (width x : ℕ) → x < width → min (x + 1) (width - 1) ≡ cond (ltb (x + 1) width) (x + 1) x
next_is width x h = grind (arith, nat_tests)

next_small : (width x : ℕ) → x < width → cond (ltb (x + 1) width) (x + 1) x < width
next_small width x h = omega (arith, next_is width x h)

cost_by-same : (rule : CostRule) (width : ℕ) (f g : ℕ → ℕ) (x : ℕ) → x < width → ((q : ℕ) → q < width → f q ≡ g q) → cost_by rule width f x ≡ cost_by rule width g x
cost_by-same Plain width f g x l h = h x l
cost_by-same Smoothed width f g x l h =
    ap (λ n. smoothed n (f x) (f (cond (ltb (x + 1) width) (x + 1) x))) (h (x - 1) (omega arith))
    ∙ ap (λ n. smoothed (g (x - 1)) n (f (cond (ltb (x + 1) width) (x + 1) x))) (h x l)
    ∙ ap (λ n. smoothed (g (x - 1)) (g x) n) (h (cond (ltb (x + 1) width) (x + 1) x) (next_small width x l))

-- the cost from the single costs of a row, by the rule of its codes
pub census_cost-by : (left right : Codes) (first : ℤ) (x y d : ℕ) (rule : CostRule) (single : ℕ → ℕ) → rule ≡ left.rule → x < left.width
    → ((q : ℕ) → q < left.width → single q ≡ single_cost left right first q y d) → cost_by rule left.width single x ≡ census_cost left right first x y d
unfolding census_cost
census_cost-by left right first x y d rule single e l h =
    ap (λ r. cost_by r left.width single x) e ∙ cost_by-same left.rule left.width single (λ q. single_cost left right first q y d) x l h

-- the same of a row of single costs that was smoothed, with the numbers that the code has
pub census_cost-row : (left right : Codes) (first : ℤ) (x y d width count n : ℕ) (singles costs : List ℕ) → Smoothed ≡ left.rule → width ≡ left.width → n ≡ count → x < left.width → d < count
    → ((q e : ℕ) → q < left.width → e < count → get_or singles (q * count + e) 0 ≡ single_cost left right first q y e)
    → ((q e : ℕ) → q < width → e < n → get_or costs (q * n + e) 0 ≡ cost_by Smoothed width (λ r. get_or singles (r * n + e) 0) q)
    → get_or costs (x * count + d) 0 ≡ census_cost left right first x y d
census_cost-row left right first x y d width count n singles costs e ew en l k single done =
    ap (λ m. get_or costs (x * m + d) 0) (sym en) ∙ done x d (omega arith) (omega arith)
    ∙ ap (λ w. cost_by Smoothed w (λ r. get_or singles (r * n + d) 0) x) ew ∙ ap (λ m. cost_by Smoothed left.width (λ r. get_or singles (r * m + d) 0) x) en
    ∙ census_cost-by left right first x y d Smoothed (λ r. get_or singles (r * count + d) 0) e l (λ q h. single q d h k)

-- ---- a row, pixel by pixel

-- one pixel more
pub costs_more : (count x : ℕ) (row front cells rest : List ℕ) (f : ℕ → ℕ → ℕ) → front ≡ take (x * count) row → length front ≡ x * count → length cells ≡ count
    → ((z d : ℕ) → z < x → d < count → get_or row (z * count + d) 0 ≡ f z d) → ((d : ℕ) → d < count → get_or cells d 0 ≡ f x d)
    → (z d : ℕ) → z < x + 1 → d < count → get_or (front ++ (cells ++ rest)) (z * count + d) 0 ≡ f z d
costs_more count x row front cells rest f ef lf lc old new z d h k = elim (cases_lt z x) [
  | inl l ↦
      (let inside : z * count + d < x * count = omega (arith, row_fits z count x count l (omega arith)) in
      get_or_append_left front (cells ++ rest) 0 (z * count + d) (omega (arith, inside)) ∙ ap (λ us. get_or us (z * count + d) 0) ef ∙ get_or-take (x * count) row (z * count + d) 0 inside ∙ old z d l k)
  | inr l ↦
      (let same : z ≡ x = omega arith in
      let at : z * count + d ≡ x * count + d = ap (λ n. n * count + d) same in
      let from : z * count + d - x * count ≡ d = omega arith in
      get_or-append_right front (cells ++ rest) (x * count) (z * count + d) 0 lf (omega arith)
      ∙ ap (λ n. get_or (cells ++ rest) n 0) from ∙ get_or_append_left cells rest 0 d (omega arith) ∙ new d k ∙ ap (λ n. f n d) (sym same))
]

-- what holds of each entry of each pixel holds of each entry
pub each_entry : (P : ℕ → Type 0) (width count : ℕ) (row : List ℕ) → length row ≡ width * count → 0 < count → ((x d : ℕ) → x < width → d < count → P (get_or row (x * count + d) 0)) → (k : ℕ) → k < length row → P (get_or row k 0)
each_entry P width count row long some h k l =
    let at : k / count * count + k % count ≡ k = div-add-mod' k count in
    subst (λ n. P (get_or row n 0)) at (h (k / count) (k % count) (div_below k count width some (omega arith)) (mod_below k count some))

pub greatest-le : (window : WindowSides) → IsWindow window.width window.height → greatest_of window ≤ 62
greatest-le window w =
    let all : window.width * window.height ≤ 9 * 7 = mul-le window.width window.height 9 7 (w.wide).1 (w.high).1 in
    omega arith
