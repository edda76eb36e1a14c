-- The penalties between the rows of a problem that follows a guide.
use Rattle.std.proofs.Common.{◌≡◌, ℕ, ◌<◌, get_or, None, sym, ap, ◌∙◌, arith}
use Rattle.sgm_base.specs.Values.{Values, row_of, value_at}
use Rattle.sgm_census.proofs.InWindow.{get_or-row_of}
use Rattle.sgm_energy.specs.Pens.{Penalties, far_of}
use Rattle.sgm_energy.specs.Rays.{Pixel, pixel_at, Problem}
use Rattle.sgm_path.specs.Paths.{far_between, HasFar}

-- between two rows the penalty is what their guides say
pub rows_far : (g : Problem) (penalties : Penalties) (guide : Values) (before y : ℕ) → ((q p : Pixel) → g.far q p ≡ far_of penalties (value_at guide p.x p.y) (value_at guide q.x q.y))
    → g.width ≡ guide.width → before < guide.height → y < guide.height → HasFar g before y (far_between penalties (row_of guide y) (row_of guide before))
rows_far g penalties guide before y far wide hb hy = record {
  each = λ z x hz hx.
      far (pixel_at z before) (pixel_at x y)
      ∙ ap (λ o. far_of penalties o (value_at guide z before)) (sym (get_or-row_of guide x y (omega (arith, wide)) hy))
      ∙ ap (λ o. far_of penalties (get_or (row_of guide y) x None) o) (sym (get_or-row_of guide z before (omega (arith, wide)) hb));
}
