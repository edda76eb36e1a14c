-- Where nothing is bridged.
use Rattle.std.proofs.Common.{◌≡◌, ℤ, Option, Some, None, refl, sym, arith}
use Rattle.std.specs.Option.{option_or}
use Rattle.sgm_grid.specs.Bridges.{bridged, bridged_at}
use Rattle.sgm_grid.specs.Cells.{Cells, IsCells, height_at}
use Rattle.sgm_grid.proofs.Kept.{grid_is}

or_none : (o : Option ℤ) → o ≡ option_or o None
or_none None = refl
or_none (Some h) = refl

pub without_bridges : (grid : Cells) → IsCells grid → bridged 0 grid ≡ grid
unfolding bridged
without_bridges grid kept =
    sym (grid_is grid grid.spec (bridged_at 0 grid) refl (omega (arith, kept.ranges.cols_in_range.0)) kept.full (λ col row hc hr. or_none (height_at grid col row)))
