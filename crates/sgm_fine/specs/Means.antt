-- The means of a map's values over those around them that lie near.
use Rattle.std.specs.Prelude.{ℕ, ◌%◌, ◌/◌, List, length, sum, Option, option_map, unsigned_abs, pos}
use Rattle.std.specs.Prelude.{◌+ℤ◌}
use Rattle.std.specs.List.{filter_map, range_with_len}
use Rattle.sgm_base.specs.Rounding.{rounded}
use Rattle.sgm_base.specs.Values.{Values, row_by_row, value_at, values_of}
use Rattle.sgm_fine.specs.Slopes.{step_to}
use Rattle.sgm_fine.specs.Windows.{value_around}

-- the value of the place k of the square of three by three around a pixel, where it lies no
-- further than one pixel, in sixteenths, from the pixel's own
abbrev pub near_at : Values → ℕ → ℕ → ℕ → ℕ → Option ℕ
near_at map x y m k = option_map (λ step. unsigned_abs (pos m +ℤ step))
    (step_to 16 m (value_around map 1 x y (k % 3) (k / 3)))

-- those values, the pixel's own among them
abbrev pub near : Values → ℕ → ℕ → ℕ → List ℕ
near map x y m = filter_map (near_at map x y m) (range_with_len 0 9)

-- their mean, rounded
unfoldable pub mean_value : Values → ℕ → ℕ → ℕ → ℕ
mean_value map x y m = unsigned_abs
    (rounded (pos (sum (near map x y m))) (pos (length (near map x y m))))

-- the mean of each pixel that has a value
abbrev pub means : Values → Values
means map = values_of map.width map.height
    (row_by_row map.width map.height (λ x y. option_map (mean_value map x y) (value_at map x y)))
