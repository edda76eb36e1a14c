-- Points that are placed first and added after that.
use Rattle.std.proofs.Common.{◌≡◌, ℕ, List, [], ◌∷◌, Option, Some, None, ℤ, refl, sym, ap, ◌∙◌}
use Rattle.std.specs.Prelude.{fold, option_map}
use Rattle.std.specs.List.{cons_option, filter_map}
use Rattle.sgm_base.specs.declared.point.Point.{Point}
use Rattle.sgm_grid.specs.declared.grid_spec.GridSpec.{GridSpec}
use Rattle.sgm_grid.specs.declared.keep.Keep.{Keep}
use Rattle.sgm_grid.specs.declared.keep.Keep.TheVariants.{Highest, Mean}
use Rattle.sgm_grid.specs.declared.placed.Placed.{Placed}
use Rattle.sgm_grid.specs.Binning.{Binned, CellSums, greatest_heights, height_sums, no_points, summed_in, with_point}
use Rattle.sgm_grid.specs.Cells.{Cells}
use Rattle.sgm_grid.specs.Placing.{placed, placed_at, spec_in, with_placed}
use Rattle.sgm_grid.specs.Points.{added, cell_of, raised, raised_at}

-- the grid after a height, where there is one
abbrev pub raised_by : Cells → Option Placed → Cells
raised_by grid None = grid
raised_by grid (Some fallen) = raised_at grid fallen.place fallen.height

-- what is held after a height, where there is one
abbrev pub held_after : Binned → Option Placed → Binned
held_after bins None = bins
held_after bins (Some fallen) = with_placed bins fallen

raised_placed : (grid : Cells) (o : Option (ℕ × ℕ)) (h : ℤ) → raised grid o h ≡ raised_by grid (option_map (placed_at grid.spec h) o)
raised_placed grid None h = refl
raised_placed grid (Some cell) h = refl

-- a point is added as its height is at its place
pub added_placed : (grid : Cells) (p : Point) → added grid p ≡ raised_by grid (placed grid.spec p)
added_placed grid p = raised_placed grid (cell_of grid.spec p) p.h

-- a point that falls into the grid, and one that doesn't
pub added_some : (grid : Cells) (spec : GridSpec) (p : Point) (fallen : Placed) → spec ≡ grid.spec → Some fallen ≡ placed spec p
    → raised_at grid fallen.place fallen.height ≡ added grid p
added_some grid spec p fallen same is = ap (raised_by grid) (is ∙ ap (λ (s : GridSpec). placed s p) same) ∙ sym (added_placed grid p)

pub added_none : (grid : Cells) (spec : GridSpec) (p : Point) → spec ≡ grid.spec → None ≡ placed spec p → grid ≡ added grid p
added_none grid spec p same is = ap (raised_by grid) (is ∙ ap (λ (s : GridSpec). placed s p) same) ∙ sym (added_placed grid p)

held_raised : (grid : Cells) (o : Option Placed) → greatest_heights (raised_by grid o) ≡ held_after (greatest_heights grid) o
held_raised grid None = refl
held_raised grid (Some fallen) = refl

held_summed : (held : CellSums) (o : Option (ℕ × ℕ)) (h : ℤ) → height_sums (summed_in held o h) ≡ held_after (height_sums held) (option_map (placed_at held.spec h) o)
held_summed held None h = refl
held_summed held (Some cell) h = refl

pub point_placed : (bins : Binned) (p : Point) → with_point bins p ≡ held_after bins (placed (spec_in bins) p)
point_placed (greatest_heights grid) p = ap greatest_heights (added_placed grid p) ∙ held_raised grid (placed grid.spec p)
point_placed (height_sums held) p = held_summed held (cell_of held.spec p) p.h

pub held_some : (bins : Binned) (spec : GridSpec) (p : Point) (fallen : Placed) → spec ≡ spec_in bins → Some fallen ≡ placed spec p
    → with_placed bins fallen ≡ with_point bins p
held_some bins spec p fallen same is = ap (held_after bins) (is ∙ ap (λ (s : GridSpec). placed s p) same) ∙ sym (point_placed bins p)

pub held_none : (bins : Binned) (spec : GridSpec) (p : Point) → spec ≡ spec_in bins → None ≡ placed spec p → bins ≡ with_point bins p
held_none bins spec p same is = ap (held_after bins) (is ∙ ap (λ (s : GridSpec). placed s p) same) ∙ sym (point_placed bins p)

-- a height more changes nothing of where a grid lies
pub placed-spec : (bins : Binned) (fallen : Placed) → spec_in (with_placed bins fallen) ≡ spec_in bins
placed-spec (greatest_heights grid) fallen = refl
placed-spec (height_sums held) fallen = refl

after-spec : (bins : Binned) (o : Option Placed) → spec_in (held_after bins o) ≡ spec_in bins
after-spec bins None = refl
after-spec bins (Some fallen) = placed-spec bins fallen

-- nor does no point
pub none-spec : (keep : Keep) (spec : GridSpec) → spec_in (no_points keep spec) ≡ spec
none-spec Highest spec = refl
none-spec Mean spec = refl

placed_first : (bins : Binned) (o : Option Placed) (rest : List Placed) → fold with_placed bins (cons_option o rest) ≡ fold with_placed (held_after bins o) rest
placed_first bins None rest = refl
placed_first bins (Some fallen) rest = refl

-- points that are placed are added as the points are
pub points_placed : (points : List Point) (bins : Binned) → fold with_placed bins (filter_map (placed (spec_in bins)) points) ≡ fold with_point bins points
points_placed [] bins = refl
points_placed (p ∷ points) bins =
    let o = placed (spec_in bins) p in
    placed_first bins o (filter_map (placed (spec_in bins)) points)
    ∙ ap (λ (s : GridSpec). fold with_placed (held_after bins o) (filter_map (placed s) points)) (sym (after-spec bins o))
    ∙ points_placed points (held_after bins o)
    ∙ ap (λ (b : Binned). fold with_point b points) (sym (point_placed bins p))
