-- Which pixels are mismatched, from the matches of a row one after the other.
use Rattle.std.proofs.Common.{◌≡◌, ℕ, ◌+◌, ◌*◌, ◌/◌, ◌<◌, ◌∙◌, Bool, true, false, cond, ltb, List, length, get_or, Option, Some, None, refl, sym, ap, subst, arith, ℤ, pos, negsuc, ◌+ℤ◌, ◌-ℤ◌}
use Rattle.std.specs.Prelude.{option_and_then, nat_eq, IfSome}
use Rattle.std.specs.Option.{option_eq, option_map_or}
use Rattle.std.proofs.lemmas.Bool.{ltb-true, lt-ltb, eqb-true, eq-eqb}
use Rattle.std.proofs.lemmas.Int.{ints}
use Rattle.std.proofs.lemmas.List.Elements.{All-get_or}
use Rattle.std.proofs.lemmas.List.Folds.{list_any_at, Any-from_list_any}
use Rattle.std.proofs.lemmas.List.FromFn.{get_or-range_with_len, length-range_with_len}
use Rattle.std.proofs.lemmas.Nat.{mul-add-lt}
use Rattle.sgm_base.specs.Columns.{column_within, left_column, right_column}
use Rattle.sgm_base.specs.Values.{Values, IsValues, row_of, value_at}
use Rattle.sgm_energy.specs.Energies.{below}
use Rattle.sgm_energy.specs.Rays.{pixel_at}
use Rattle.sgm_refine.specs.Filling.{AreIndices, is_matched, is_mismatched}
use Rattle.sgm_refine.specs.Met.{matched_column}
use Rattle.sgm_refine.proofs.MetLemmas.{row_value}

-- ---- columns that stand for each other
limited : (b : Bool) (n m : ℕ) → cond b (Some n) None ≡ Some m → (b ≡ true) × (n ≡ m)
limited true n m e = (refl, cc)
limited false n m e = absurd (cc)

within_is : (width n : ℕ) (z : ℤ) → column_within width z ≡ Some n → (z ≡ pos n) × (n < width)
within_is width n (pos k) e =
    let w = limited (ltb k width) k n e in
    (ap (λ i. pos i) w.1, subst (λ i. i < width) w.1 (ltb-true k width w.0))
within_is width n (negsuc k) e = absurd (cc)

within_some : (width n : ℕ) (z : ℤ) → z ≡ pos n → n < width → column_within width z ≡ Some n
within_some width n z e h = ap (column_within width) e ∙ ap (λ b. cond b (Some n) None) (lt-ltb n width h)

pub seen_from_right : (width x q d : ℕ) (first : ℤ) → x < width → right_column width first x d ≡ Some q → (left_column width first q d ≡ Some x) × (q < width)
seen_from_right width x q d first hx e =
    let w = within_is width q ((pos x -ℤ first) -ℤ pos d) e in
    let z : (pos q +ℤ first) +ℤ pos d ≡ pos x = omega (arith, ints, w.0) in
    (within_some width x ((pos q +ℤ first) +ℤ pos d) z hx, w.1)

pub seen_from_left : (width x q d : ℕ) (first : ℤ) → q < width → left_column width first q d ≡ Some x → right_column width first x d ≡ Some q
seen_from_left width x q d first hq e =
    let w = within_is width x ((pos q +ℤ first) +ℤ pos d) e in
    let z : (pos x -ℤ first) -ℤ pos d ≡ pos q = omega (arith, ints, w.0) in
    within_some width q ((pos x -ℤ first) -ℤ pos d) z hq

-- ---- a match gives its column
equal_values : (o : Option ℕ) (v : ℕ) → option_eq nat_eq o (Some v) ≡ true → o ≡ Some v
equal_values None v e = absurd (cc)
equal_values (Some u) v e = ap (λ n. Some n) (eqb-true u v e)

matched_at : (m : Values) (first : ℤ) (x y d : ℕ) (o : Option ℕ) → o ≡ right_column m.width first x d
    → option_map_or (λ q. option_eq nat_eq (value_at m q y) (Some (16 * d))) o false ≡ true → (q : ℕ) × (right_column m.width first x d ≡ Some q) × (value_at m q y ≡ Some (16 * d))
matched_at m first x y d None e t = absurd (cc)
matched_at m first x y d (Some q) e t = (q, sym e, equal_values (value_at m q y) (16 * d) t)

pub given_from : (m : Values) (first : ℤ) (count x y : ℕ) (values : List (Option ℕ)) → values ≡ row_of m y → y < m.height → x < m.width
    → is_mismatched m first count (pixel_at x y) ≡ true → (q : ℕ) × (q < m.width) × (matched_column m.width first values q ≡ Some x)
unfolding is_mismatched
given_from m first count x y values ev hy hx t =
    let w = Any-from_list_any (is_matched m first (pixel_at x y)) (below count) t in
    let d = w.1 in
    let v = matched_at m first x y d (right_column m.width first x d) refl w.4 in
    let q = v.0 in
    let seen = seen_from_right m.width x q d first hx v.1 in
    let whole : 16 * d / 16 ≡ d = omega arith in (
      q,
      seen.1,
      ap (option_and_then (λ n. left_column m.width first q (n / 16))) (ap (λ vs. get_or vs q None) ev ∙ row_value m q y seen.1 hy ∙ v.2)
          ∙ ap (λ n. left_column m.width first q n) whole ∙ seen.0,
    )

-- ---- a column that a match gives is mismatched
index_of : (m : Values) (count q y v : ℕ) → IsValues m → AreIndices count m.entries → q < m.width → y < m.height → value_at m q y ≡ Some v → (d : ℕ) × (d < count) × (v ≡ 16 * d)
index_of m count q y v kept h hq hy e =
    let at = y * m.width + q in
    let inside : at < length m.entries = omega (arith, kept.full, mul-add-lt y m.width q m.height hy hq) in
    let entry : get_or m.entries at None ≡ Some v = sym (there (lt-ltb q m.width hq) (lt-ltb y m.height hy)) ∙ e in
    subst (λ o. IfSome o (λ value. (d : ℕ) × (d < count) × (value ≡ 16 * d))) entry
    (All-get_or (λ entry. IfSome entry (λ value. (d : ℕ) × (d < count) × (value ≡ 16 * d))) m.entries at None inside h)
  where
    there : ltb q m.width ≡ true → ltb y m.height ≡ true → value_at m q y ≡ get_or m.entries (y * m.width + q) None
    there a b = rw (a, b) refl

given_value : (width : ℕ) (first : ℤ) (q x : ℕ) (o : Option ℕ) → option_and_then (λ value. left_column width first q (value / 16)) o ≡ Some x → (v : ℕ) × (o ≡ Some v) × (left_column width first q (v / 16) ≡ Some x)
given_value width first q x None e = absurd (cc)
given_value width first q x (Some v) e = (v, refl, e)

pub mismatched_from : (m : Values) (first : ℤ) (count x y q : ℕ) (values : List (Option ℕ)) → IsValues m → AreIndices count m.entries → values ≡ row_of m y → y < m.height
    → q < m.width → matched_column m.width first values q ≡ Some x → is_mismatched m first count (pixel_at x y) ≡ true
unfolding is_mismatched
mismatched_from m first count x y q values kept h ev hy hq e =
    let w = given_value m.width first q x (get_or values q None) e in
    let v = w.0 in
    let here : value_at m q y ≡ Some v = sym (row_value m q y hq hy) ∙ sym (ap (λ vs. get_or vs q None) ev) ∙ w.1 in
    let i = index_of m count q y v kept h hq hy here in
    let d = i.0 in
    let index : v / 16 ≡ d = omega (arith, i.2) in
    let right : right_column m.width first x d ≡ Some q = seen_from_left m.width x q d first hq (ap (λ n. left_column m.width first q n) (sym index) ∙ w.2) in
    let is : is_matched m first (pixel_at x y) d ≡ true =
    ap (λ o. option_map_or (λ p. option_eq nat_eq (value_at m p y) (Some (16 * d))) o false) right
    ∙ ap (λ o. option_eq nat_eq o (Some (16 * d))) here ∙ eq-eqb v (16 * d) i.2 in
    let at : get_or (below count) d 0 ≡ d = get_or-range_with_len 0 count d 0 i.1 ∙ omega arith in
    list_any_at (is_matched m first (pixel_at x y)) (below count) d 0 (omega (arith, length-range_with_len 0 count, i.1))
    (ap (is_matched m first (pixel_at x y)) at ∙ is)

-- two tests that pass together are one
pub same_tests : (a b : Bool) → (a ≡ true → b ≡ true) → (b ≡ true → a ≡ true) → a ≡ b
same_tests true b f g = sym (f refl)
same_tests false true f g = g refl
same_tests false false f g = refl
