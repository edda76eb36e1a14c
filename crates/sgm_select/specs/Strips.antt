-- Disparities that are found row by row and strip by strip.
use Rattle.std.specs.Prelude.{◌≡◌, ℕ, ◌+◌, ◌-◌, ◌*◌, ◌<◌, ℤ, List, length, take, drop, Option, None}
use Rattle.std.specs.Prelude.{Some, slice_get, slice_index_or, option_map}
use Rattle.sgm_base.specs.Values.{Values}
use Rattle.sgm_energy.specs.Rays.{Problem, pixel_at}
use Rattle.sgm_strip.specs.Cuts.{CutParts, IsCut, first_row}
use Rattle.sgm_select.specs.Selection.{disparity, matched}

-- a plane of the same sides as the problem
pub record SuitsPlane (g : Problem) (plane : Values) : Type 0 where
  pub same_width : g.width ≡ plane.width
  pub same_height : g.height ≡ plane.height

-- the first n rows of the entries are the matches, in sixteenths, of the pixels of the rows of the
-- right image from top on
abbrev pub HoldsMatchesFrom : Problem → ℤ → ℕ → ℕ → List (Option ℕ) → Type 0
HoldsMatchesFrom g first top n entries =
    (q r : ℕ) → q < g.width → r < n
    → slice_index_or entries (r * g.width + q) None
    ≡ option_map (λ d. 16 * d) (matched g first q (top + r))

-- the first n rows of the entries are the disparities of the pixels of the rows from top on
abbrev pub HoldsFrom : Problem → Values → Values → ℤ → ℕ → ℕ → List (Option ℕ) → Type 0
HoldsFrom g left right first top n entries =
    (x r : ℕ) → x < g.width → r < n
    → slice_index_or entries (r * g.width + x) None
    ≡ disparity g left right first (pixel_at x (top + r))

-- the entries of the rows of a map from `from` on, before `to`
abbrev pub rows_between : Values → ℕ → ℕ → List (Option ℕ)
rows_between map from to = take ((to - from) * map.width) (drop (from * map.width) map.entries)

-- those of the rows of a strip
abbrev pub rows_of_strip : Values → CutParts → ℕ → List (Option ℕ)
rows_of_strip map cut strip = rows_between map (first_row cut strip) (first_row cut (strip + 1))

-- the lists are the rows of the map's strips, all of them and in order
pub record AreRowsOf (map : Values) (cut : CutParts)
    (strips : List (List (Option ℕ))) : Type 0 where
  pub cut_kept : IsCut cut
  pub same_height : cut.height ≡ map.height
  pub full : length map.entries ≡ map.width * map.height
  pub all : length strips ≡ cut.strips
  pub each : (strip : ℕ) (rows : List (Option ℕ)) → slice_get strips strip ≡ Some rows
      → rows ≡ rows_of_strip map cut strip
