-- The matches of the right image, in sixteenths.
use Rattle.std.proofs.Common.{◌≡◌, ℕ, ◌*◌, ◌/◌, ◌%◌, ◌<◌, List, Option, Some, None, get_or, refl, sym, subst, ℤ}
use Rattle.std.specs.Prelude.{IfSome, option_map, slice_get, All}
use Rattle.std.specs.List.{range_with_len}
use Rattle.std.proofs.lemmas.List.Elements.{All-map}
use Rattle.std.proofs.lemmas.Option.{get_or_from_slice_get}
use Rattle.sgm_base.specs.Values.{row_by_row}
use Rattle.sgm_energy.specs.Rays.{Problem}
use Rattle.sgm_select.specs.Rows.{matched_in}
use Rattle.sgm_select.specs.Selection.{matched, matches_of}
use Rattle.sgm_select.proofs.LeastIndex.{least_index_low}

below_count : (o : Option ℕ) (n : ℕ) → ((b : ℕ) → o ≡ Some b → b < n) → IfSome o (λ d. d < n)
below_count None n h = tt
below_count (Some b) n h = h b refl

matched_in_low : (sums : List ℕ) (width : ℕ) (first : ℤ) (count q : ℕ) → IfSome (matched_in sums width first count q) (λ d. d < count)
unfolding matched_in
matched_in_low sums width first count q = below_count _ count (λ b e. least_index_low _ _ count b e)

matched_low : (g : Problem) (first : ℤ) (q y : ℕ) → IfSome (matched g first q y) (λ d. d < g.count)
unfolding matched
matched_low g first q y = below_count _ g.count (λ b e. least_index_low _ _ g.count b e)

-- what a row of matches has at a column
pub entry_low : (entries : List (Option ℕ)) (sums : List ℕ) (width : ℕ) (first : ℤ) (count q : ℕ) → slice_get entries q ≡ Some (matched_in sums width first count q) → IfSome (get_or entries q None) (λ d. d < count)
entry_low entries sums width first count q e =
    subst (λ o. IfSome o (λ d. d < count)) (sym (get_or_from_slice_get entries q (matched_in sums width first count q) None e)) (matched_in_low sums width first count q)

sixteen_times : (o : Option ℕ) (n : ℕ) → IfSome o (λ d. d < n) → IfSome (option_map (λ d. 16 * d) o) (λ value. (d : ℕ) × (d < n) × (value ≡ 16 * d))
sixteen_times None n h = tt
sixteen_times (Some d) n h = (d, h, refl)

-- each value of the map is 16 times an index
pub all_indices : (g : Problem) (first : ℤ) → All (λ entry. IfSome entry (λ value. (d : ℕ) × (d < g.count) × (value ≡ 16 * d))) (matches_of g first).entries
unfolding row_by_row
all_indices g first =
    All-map (λ entry. IfSome entry (λ value. (d : ℕ) × (d < g.count) × (value ≡ 16 * d))) (λ k. option_map (λ d. 16 * d) (matched g first (k % g.width) (k / g.width))) (range_with_len 0 (g.width * g.height))
    (λ k d h. sixteen_times _ g.count (matched_low g first _ _))
