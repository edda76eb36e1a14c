-- How great a disparity is at most.
use Rattle.std.proofs.Common.{◌*◌, ◌/◌, ◌%◌, ◌<◌, ◌≤◌, option_and_then, arith}
use Rattle.std.specs.Prelude.{IfSome, ℤ}
use Rattle.std.specs.List.{range_with_len}
use Rattle.std.proofs.lemmas.List.Elements.{All-map}
use Rattle.sgm_base.specs.declared.limits.TheConstants.{MAX_COUNT, MAX_DISPARITY}
use Rattle.sgm_base.specs.Columns.{right_column}
use Rattle.sgm_base.specs.Values.{Values, AtMost, row_by_row, value_at}
use Rattle.sgm_energy.specs.Energies.{path_sum}
use Rattle.sgm_energy.specs.Rays.{Pixel, pixel_at, Problem}
use Rattle.sgm_select.specs.Selection.{base, checked, disparity, in_sixteenths, matched}
use Rattle.sgm_select.proofs.Checked.{made_of_own, own}
use Rattle.sgm_select.proofs.LeastIndex.{IsLeastAt, least_of_least}
use Rattle.sgm_select.proofs.Offsets.{refined_is}

pub base_least_at : (g : Problem) (p : Pixel) → 0 < g.count → IsLeastAt (path_sum g p) g.count (base g p)
unfolding base
base_least_at g p h = least_of_least (path_sum g p) g.count h

disparity_low : (g : Problem) (left right : Values) (first : ℤ) (p : Pixel) → 0 < g.count → g.count ≤ MAX_COUNT → IfSome (disparity g left right first p) (λ v. v ≤ MAX_DISPARITY)
unfolding disparity
disparity_low g left right first p some few =
    let b = base g p in
    made_of_own (λ v. v ≤ MAX_DISPARITY) (in_sixteenths (path_sum g p) g.count)
    (option_and_then (λ q. checked b (value_at left p.x p.y) (value_at right q p.y) (matched g first q p.y)) (right_column g.width first p.x b)) b
    (own b (value_at left p.x p.y) (λ q. value_at right q p.y) (λ q. matched g first q p.y) (right_column g.width first p.x b))
    (omega (arith, (refined_is (path_sum g p) g.count b (base_least_at g p some)).most))

pub rows_low : (g : Problem) (left right : Values) (first : ℤ) → 0 < g.count → g.count ≤ MAX_COUNT → AtMost MAX_DISPARITY (row_by_row g.width g.height (λ x y. disparity g left right first (pixel_at x y)))
unfolding row_by_row
rows_low g left right first some few =
    All-map (λ entry. IfSome entry (λ value. value ≤ MAX_DISPARITY)) (λ k. disparity g left right first (pixel_at (k % g.width) (k / g.width))) (range_with_len 0 (g.width * g.height))
    (λ k d h. disparity_low g left right first _ some few)
