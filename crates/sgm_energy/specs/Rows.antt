-- Rows of a volume: slices in which the value of the column x and the index d stands at x *
-- count + d.
use Rattle.std.specs.Prelude.{◌≡◌, ℕ, ◌+◌, ◌*◌, ◌<◌, List, length, slice_index}
use Rattle.sgm_energy.specs.Rays.{Pixel, pixel_at, Problem}

-- row has the value f p d of each pixel p of the row y and each index d
pub record HoldsRow (g : Problem) (y : ℕ) (f : Pixel → ℕ → ℕ) (row : List ℕ) : Type 0 where
  pub whole : length row ≡ g.width * g.count
  pub each : (x d : ℕ) → x < g.width → d < g.count
      → slice_index row (x * g.count + d) ≡ f (pixel_at x y) d
