-- The steps in which a map is made finer.
use Rattle.std.specs.Prelude.{◌≡◌, ℕ, ◌+◌, ◌*◌, ◌<◌, List, Option, None, slice_index_or, option_map}
use Rattle.sgm_base.specs.Disparities.{Disparities}
use Rattle.sgm_base.specs.Values.{Values, row_by_row, value_at, values_of}
use Rattle.sgm_fine.specs.Finer.{finer_value}
use Rattle.sgm_fine.specs.Means.{mean_value}
use Rattle.sgm_fine.specs.Samples.{centre}
use Rattle.sgm_map.specs.declared.fining.Step.{Step}
use Rattle.sgm_map.specs.declared.fining.Step.TheVariants.{Finer, Mean}

-- what a step makes of the pixel (x, y)
abbrev pub made_at : Step → Values → Values → Values → Disparities → ℕ → ℕ → Option ℕ
made_at Finer left right map span x y =
    option_map (λ value. finer_value span.count (centre left right map span.first x y value))
    (value_at map x y)
made_at Mean left right map span x y = option_map (mean_value map x y) (value_at map x y)

-- what it makes of the map
abbrev pub made : Step → Values → Values → Values → Disparities → Values
made step left right map span =
    values_of map.width map.height
    (row_by_row map.width map.height (λ x y. made_at step left right map span x y))

-- the first n rows of the entries are what the step makes of the rows from top on
abbrev pub HoldsMade : Step → Values → Values → Values → Disparities → ℕ → ℕ → List (Option ℕ)
    → Type 0
HoldsMade step left right map span top n entries =
    (x r : ℕ) → x < map.width → r < n → slice_index_or entries (r * map.width + x) None
    ≡ made_at step left right map span x (top + r)
