-- Which warps an image of given sides can't be rectified by.
use Rattle.std.specs.Prelude.{◌≡◌, ℕ, ◌+◌, ◌-◌, ◌/◌, ◌<◌, ◌==◌, ◌&&◌, if◌then◌else◌, ℤ, pos, int_le}
use Rattle.std.specs.Prelude.{List, [], ◌∷◌, Option, Some, None, option_map}
use Rattle.std.specs.List.{position_from}
use Rattle.sgm_base.specs.Sides.{Sides, IsSide}
use Rattle.sgm_rectify.specs.declared.warp.Warp.{Warp}
use Rattle.sgm_rectify.specs.declared.warp.Warp.TheVariants.{Identity, Projective, Mesh}
use Rattle.sgm_rectify.specs.declared.warp.WarpFault.{WarpFault}
use Rattle.sgm_rectify.specs.declared.warp.WarpFault.TheVariants.{Denominator, MeshSize}
use Rattle.sgm_rectify.specs.Places.{denominator}
use Rattle.sgm_rectify.specs.Warps.{IsWarp}

-- the corners 0 to 3 of an image
abbrev pub corners : Sides → List (ℕ × ℕ)
corners sides =
    let right = sides.width - 1 in
    let bottom = sides.height - 1 in
    (0, 0) ∷ (right, 0) ∷ (0, bottom) ∷ (right, bottom) ∷ []

-- the least number of a corner at which the denominator is 0 or less
abbrev pub bad_corner : List ℤ → Sides → Option ℕ
bad_corner matrix sides = position_from (λ c. int_le (denominator matrix c.0 c.1) (pos 0)) 0
    (corners sides)

-- how many nodes a mesh of this step needs along a side
abbrev pub nodes_needed : ℕ → ℕ → ℕ
nodes_needed step side = (side - 1) / step + 2

-- a mesh whose counts of columns and rows differ from those needed
abbrev pub mesh_fault : ℕ → ℕ → ℕ → ℕ → Option WarpFault
mesh_fault cols rows need_cols need_rows =
    if cols == need_cols
    && rows == need_rows then None else Some (MeshSize cols rows need_cols need_rows)

-- what is wrong with a warp for an image of these sides
unfoldable pub warp_fault : Warp → Sides → Option WarpFault
warp_fault Identity sides = None
warp_fault (Projective matrix) sides = option_map (λ corner. Denominator corner)
    (bad_corner matrix sides)
warp_fault (Mesh step cols rows nodes) sides = mesh_fault cols rows (nodes_needed step sides.width)
    (nodes_needed step sides.height)

-- a warp by which an image of these sides can be rectified
pub record Suits (warp : Warp) (sides : Sides) : Type 0 where
  pub kept : IsWarp warp
  pub faultless : warp_fault warp sides ≡ None

-- a warp that suits a size which has the pixel (x, y)
pub record SuitsPixel (warp : Warp) (x y : ℕ) : Type 0 where
  pub sides : Sides
  pub width_in_range : IsSide sides.width
  pub height_in_range : IsSide sides.height
  pub suits : Suits warp sides
  pub column : x < sides.width
  pub row : y < sides.height
