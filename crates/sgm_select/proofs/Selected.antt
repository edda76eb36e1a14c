-- Disparities that are written row by row.
use Rattle.std.proofs.Common.{◌≡◌, ℕ, ◌+◌, ◌*◌, ◌/◌, ◌%◌, ◌<◌, ◌≤◌, List, ◌++◌, length, take, drop, get_or, slice_index, Option, Some, None, sym, ap, ◌∙◌, subst, inl, inr, arith}
use Rattle.std.specs.Prelude.{EachIndex, slice_get, ℤ}
use Rattle.std.proofs.lemmas.Bool.{cases_eq}
use Rattle.std.proofs.lemmas.List.FromFn.{fill_by_all}
use Rattle.std.proofs.lemmas.Nat.{mod_below, div_below, mul-add-lt}
use Rattle.sgm_base.specs.Values.{Values, row_of, values_of}
use Rattle.sgm_base.specs.Values.{row_by_row}
use Rattle.sgm_energy.specs.Energies.{path_sum}
use Rattle.sgm_energy.specs.Rays.{Problem, pixel_at}
use Rattle.sgm_energy.specs.Rows.{HoldsRow}
use Rattle.sgm_select.specs.Selection.{disparity}
use Rattle.sgm_select.specs.Rows.{base_in, matched_in, checked_in, HoldsBases, HoldsMatches}
use Rattle.sgm_select.proofs.Rows.{base_in-is, matched_in-is, checked_in-is}
use Rattle.sgm_energy.proofs.Parts.{splice_other, splice_here}
use Rattle.sgm_select.specs.Strips.{SuitsPlane}

bases_held : (g : Problem) (y count n : ℕ) (sums bases : List ℕ) → g.count ≡ count → g.width ≡ n → HoldsRow g y (path_sum g) sums → length bases ≡ n
    → EachIndex bases (λ x. slice_index bases x ≡ base_in sums count x) → HoldsBases g y bases
bases_held g y count n sums bases ec ew h lb each = record {
  whole = lb ∙ sym ew;
  each = λ x l. each x (omega (arith, lb, ew)) ∙ ap (λ k. base_in sums k x) (sym ec) ∙ base_in-is g y x sums h l;
}

matches_held : (g : Problem) (first : ℤ) (y count n : ℕ) (sums : List ℕ) (matches : List (Option ℕ)) → g.count ≡ count → g.width ≡ n → HoldsRow g y (path_sum g) sums → length matches ≡ n
    → EachIndex matches (λ q. slice_get matches q ≡ Some (matched_in sums (length matches) first count q)) → HoldsMatches g first y matches
matches_held g first y count n sums matches ec ew h lm each = record {
  whole = lm ∙ sym ew;
  each = λ q l. each q (omega (arith, lm, ew)) ∙ ap (λ o. Some o)
      (ap (λ w. matched_in sums w first count q) (lm ∙ sym ew) ∙ ap (λ k. matched_in sums g.width first k q) (sym ec) ∙ matched_in-is g first y q sums h l);
}

-- what the check finds in a row is the disparity
pub row_selected : (g : Problem) (planes others : Values) (first : ℤ) (y count n : ℕ) (sums bases : List ℕ) (matches lefts rights : List (Option ℕ))
    → g.count ≡ count → 1 ≤ count → g.width ≡ n → y < g.height → HoldsRow g y (path_sum g) sums → SuitsPlane g planes → SuitsPlane g others
    → lefts ≡ row_of planes y → rights ≡ row_of others y → length bases ≡ n → length matches ≡ n
    → EachIndex bases (λ x. slice_index bases x ≡ base_in sums count x)
    → EachIndex matches (λ q. slice_get matches q ≡ Some (matched_in sums (length matches) first count q))
    → (x : ℕ) → x < n → checked_in sums count bases matches lefts rights first x ≡ disparity g planes others first (pixel_at x y)
row_selected g planes others first y count n sums bases matches lefts rights ec some ew hy h sp so el er lb lm eb em x hx =
    ap (λ l. checked_in sums count bases matches l rights first x) el ∙ ap (λ r. checked_in sums count bases matches (row_of planes y) r first x) er
    ∙ ap (λ k. checked_in sums k bases matches (row_of planes y) (row_of others y) first x) (sym ec)
    ∙ checked_in-is g planes others first y x sums bases matches (sym sp.same_width) (sym sp.same_height) (sym so.same_width) (sym so.same_height)
    h (bases_held g y count n sums bases ec ew h lb eb) (matches_held g first y count n sums matches ec ew h lm em) (omega arith) (omega (arith, ew)) hy

-- one row more holds its entries
pub entries_more : (f : ℕ → ℕ → Option ℕ) (width y : ℕ) (s a v b : List (Option ℕ)) → a ≡ take (y * width) s → b ≡ drop width (drop (y * width) s) → length a ≡ y * width → length v ≡ width
    → EachIndex v (λ x. get_or v x None ≡ f x y) → ((x r : ℕ) → x < width → r < y → get_or s (r * width + x) None ≡ f x r)
    → (x r : ℕ) → x < width → r < y + 1 → get_or (a ++ (v ++ b)) (r * width + x) None ≡ f x r
entries_more f width y s a v b ea eb la lv here before x r hx hr = elim (cases_eq r y) [
  | inl same ↦ subst (λ z. get_or (a ++ (v ++ b)) (z * width + x) None ≡ f x z) (sym same)
      (splice_here a v b (y * width) x None la (omega (arith, lv)) ∙ here x (omega (arith, lv)))
  | inr other ↦ (let less : r < y = omega arith in
      splice_other s a v b (y * width) width (r * width + x) None ea eb la lv (inl (omega (arith, mul-add-lt r width x y less hx))) ∙ before x r hx less)
]

-- a list that holds what f gives for each pixel is the list of these, row by row
pub rows_are : (f : ℕ → ℕ → Option ℕ) (width height : ℕ) (xs : List (Option ℕ)) → 0 < width → length xs ≡ width * height
    → ((x y : ℕ) → x < width → y < height → get_or xs (y * width + x) None ≡ f x y) → xs ≡ row_by_row width height f
unfolding row_by_row
rows_are f width height xs some e h =
    fill_by_all (λ k. f (k % width) (k / width)) xs (width * height) None e
    (λ k l. let at : k ≡ k / width * width + k % width = omega arith in
    ap (λ j. get_or xs j None) at ∙ h (k % width) (k / width) (mod_below k width some) (div_below k width height some (omega arith)))

pub values_same : (width width' height height' : ℕ) (entries entries' : List (Option ℕ)) → width ≡ width' → height ≡ height' → entries ≡ entries' → values_of width height entries ≡ values_of width' height' entries'
values_same width width' height height' entries entries' ew eh ee =
    ap (λ w. values_of w height entries) ew ∙ ap (λ h. values_of width' h entries) eh ∙ ap (λ e. values_of width' height' e) ee
