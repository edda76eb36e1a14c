-- Rows that hold what a problem has, and the choices in them.
use Rattle.std.proofs.Common.{◌≡◌, ℕ, ◌+◌, ◌*◌, ◌<◌, true, cond, List, length, get_or, Option, Some, None, option_and_then, unwrap_or, ℤ, pos, negsuc, ◌+ℤ◌, ◌-ℤ◌, refl, sym, ap, ◌∙◌, inl, inr, arith, slice_index}
use Rattle.std.proofs.lemmas.Bool.{cases_lt, lt-ltb, le-ltb}
use Rattle.std.proofs.lemmas.Option.{get_or_from_slice_get}
use Rattle.sgm_base.specs.Values.{Values, row_of, value_at}
use Rattle.sgm_base.specs.Columns.{column_within, left_column, right_column}
use Rattle.sgm_census.proofs.InWindow.{get_or-row_of}
use Rattle.sgm_energy.specs.Rays.{pixel_at, Problem}
use Rattle.sgm_energy.specs.Energies.{path_sum}
use Rattle.sgm_energy.specs.Rows.{HoldsRow}
use Rattle.std.specs.Prelude.{option_map}
use Rattle.sgm_select.specs.Selection.{lies, base, matched, checked, disparity, in_sixteenths}
use Rattle.sgm_select.specs.Rows.{sum_in, base_in, matched_in, checked_in, HoldsBases, HoldsMatches}
use Rattle.sgm_select.proofs.Checked.{made_of_own-agree, own}
use Rattle.sgm_select.proofs.Greatest.{base_least_at}
use Rattle.sgm_select.proofs.LeastIndex.{least_index-agree}
use Rattle.sgm_select.proofs.Offsets.{in_sixteenths-agree}

pub base_in-is : (g : Problem) (y x : ℕ) (sums : List ℕ) → HoldsRow g y (path_sum g) sums → x < g.width → base_in sums g.count x ≡ base g (pixel_at x y)
unfolding base_in base
base_in-is g y x sums h l =
    ap (λ o. unwrap_or o 0) (least_index-agree (λ _. true) (λ d. slice_index sums (x * g.count + d)) (path_sum g (pixel_at x y)) g.count (λ d k. h.each x d l k))

column_or : (width : ℕ) (z : ℤ) → 0 < width → unwrap_or (column_within width z) 0 < width
column_or width (pos n) p = elim (cases_lt n width) [
  | inl h ↦ (let there : column_within width (pos n) ≡ Some n = ap (λ b. cond b (Some n) None) (lt-ltb n width h) in omega (arith, ap (λ o. unwrap_or o 0) there))
  | inr h ↦ (let none : column_within width (pos n) ≡ None = ap (λ b. cond b (Some n) None) (le-ltb n width h) in omega (arith, ap (λ o. unwrap_or o 0) none))
]
column_or width (negsuc n) p = p

pub matched_in-is : (g : Problem) (first : ℤ) (y q : ℕ) (sums : List ℕ) → HoldsRow g y (path_sum g) sums → q < g.width → matched_in sums g.width first g.count q ≡ matched g first q y
unfolding matched_in matched
matched_in-is g first y q sums h l =
    least_index-agree (lies g.width first q) (λ d. slice_index sums (unwrap_or (left_column g.width first q d) 0 * g.count + d))
    (λ d. path_sum g (pixel_at (unwrap_or (left_column g.width first q d) 0) y) d) g.count
    (λ d k. h.each (unwrap_or (left_column g.width first q d) 0) d (column_or g.width ((pos q +ℤ first) +ℤ pos d) (omega arith)) k)

column_inside : (width n : ℕ) (z : ℤ) → column_within width z ≡ Some n → n < width
column_inside width n (pos m) e = elim (cases_lt m width) [
  | inl h ↦ (let same : Some m ≡ Some n = sym (ap (λ b. cond b (Some m) None) (lt-ltb m width h)) ∙ e in let number : m ≡ n = cc in omega arith)
  | inr h ↦ (let none : None ≡ Some n = sym (ap (λ b. cond b (Some m) None) (le-ltb m width h)) ∙ e in cc)
]
column_inside width n (negsuc m) e = cc

and_then-agree : {X Y : Type 0} (f g : X → Option Y) (o : Option X) → ((x : X) → o ≡ Some x → f x ≡ g x) → option_and_then f o ≡ option_and_then g o
and_then-agree f g None h = refl
and_then-agree f g (Some x) h = h x refl

pub checked_in-is : (g : Problem) (left right : Values) (first : ℤ) (y x : ℕ) (sums bases : List ℕ) (matches : List (Option ℕ)) → left.width ≡ g.width → left.height ≡ g.height → right.width ≡ g.width → right.height ≡ g.height
    → HoldsRow g y (path_sum g) sums → HoldsBases g y bases → HoldsMatches g first y matches → 0 < g.count → x < g.width → y < g.height
    → checked_in sums g.count bases matches (row_of left y) (row_of right y) first x ≡ disparity g left right first (pixel_at x y)
unfolding checked_in disparity
checked_in-is g left right first y x sums bases matches lw lh rw rh hs hb hm some h k =
    let b = base g (pixel_at x y) in
    let here = get_or-row_of left x y (omega arith) (omega arith) in
    ap (λ o. option_map (in_sixteenths (sum_in sums g.count x) g.count) o)
    (ap (λ n. option_and_then (λ q. checked n (get_or (row_of left y) x None) (get_or (row_of right y) q None) (get_or matches q None)) (right_column (length bases) first x n)) (hb.each x h)
    ∙ ap (λ w. option_and_then (λ q. checked b (get_or (row_of left y) x None) (get_or (row_of right y) q None) (get_or matches q None)) (right_column w first x b)) hb.whole
    ∙ and_then-agree (λ q. checked b (get_or (row_of left y) x None) (get_or (row_of right y) q None) (get_or matches q None)) (λ q. checked b (value_at left x y) (value_at right q y) (matched g first q y)) (right_column g.width first x b)
    (λ q e.
    let inside : q < g.width = column_inside g.width q ((pos x -ℤ first) -ℤ pos b) e in
    ap (λ o. checked b o (get_or (row_of right y) q None) (get_or matches q None)) here
    ∙ ap (λ o. checked b (value_at left x y) o (get_or matches q None)) (get_or-row_of right q y (omega arith) (omega arith))
    ∙ ap (λ o. checked b (value_at left x y) (value_at right q y) o) (get_or_from_slice_get matches q (matched g first q y) None (hm.each q inside))))
    ∙ made_of_own-agree (in_sixteenths (sum_in sums g.count x) g.count) (in_sixteenths (path_sum g (pixel_at x y)) g.count)
    (option_and_then (λ q. checked b (value_at left x y) (value_at right q y) (matched g first q y)) (right_column g.width first x b)) b
    (own b (value_at left x y) (λ q. value_at right q y) (λ q. matched g first q y) (right_column g.width first x b))
    (in_sixteenths-agree (sum_in sums g.count x) (path_sum g (pixel_at x y)) g.count b (base_least_at g (pixel_at x y) some).inside (λ d l. hs.each x d h l))
