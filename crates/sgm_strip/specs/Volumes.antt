-- Rows of a volume, one after the other. Of the r-th of them the value of the column x and the
-- index d stands at r * row + (x * count + d), where row is the length of a row.
use Rattle.std.specs.Prelude.{◌≡◌, ℕ, ◌+◌, ◌*◌, ◌<◌, List, length, slice_index}
use Rattle.sgm_energy.specs.Rays.{Pixel, pixel_at, Problem}

-- so many rows, from the row top of the image on, have the value f p d of each of their pixels p
-- and each index d
pub record HoldsRows (g : Problem) (top rows : ℕ) (f : Pixel → ℕ
    → ℕ) (volume : List ℕ) : Type 0 where
  pub whole : length volume ≡ rows * (g.width * g.count)
  pub each : (r x d : ℕ) → r < rows → x < g.width → d < g.count
      → slice_index volume (r * (g.width * g.count) + (x * g.count + d))
      ≡ f (pixel_at x (top + r)) d
