-- Warps whose numbers are in range.
use Rattle.std.specs.Prelude.{◌≡◌, ℕ, ◌*◌, ◌≤◌, ℤ, ◌≤ℤ◌, List, length, All}
use Rattle.sgm_rectify.specs.declared.limits.TheConstants.{MIN_ENTRY, MAX_ENTRY, MIN_STEP, MAX_STEP}
use Rattle.sgm_rectify.specs.declared.limits.TheConstants.{MIN_NODE_COUNT, MAX_NODE_COUNT, MIN_NODE}
use Rattle.sgm_rectify.specs.declared.limits.TheConstants.{MAX_NODE}
use Rattle.sgm_rectify.specs.declared.warp.Warp.{Warp}
use Rattle.sgm_rectify.specs.declared.warp.Warp.TheVariants.{Identity, Projective, Mesh}

-- an entry of a projective matrix
abbrev pub IsEntry : ℤ → Type 0
IsEntry a = (MIN_ENTRY ≤ℤ a) × (a ≤ℤ MAX_ENTRY)

-- a coordinate of a node
abbrev pub IsCoordinate : ℤ → Type 0
IsCoordinate u = (MIN_NODE ≤ℤ u) × (u ≤ℤ MAX_NODE)

-- a node
abbrev pub IsNode : ℤ × ℤ → Type 0
IsNode node = IsCoordinate node.0 × IsCoordinate node.1

-- a mesh: its step, its columns and rows, and its nodes row by row
pub record IsMesh (step cols rows : ℕ) (nodes : List (ℤ × ℤ)) : Type 0 where
  pub step_in_range : (MIN_STEP ≤ step) × (step ≤ MAX_STEP)
  pub cols_in_range : (MIN_NODE_COUNT ≤ cols) × (cols ≤ MAX_NODE_COUNT)
  pub rows_in_range : (MIN_NODE_COUNT ≤ rows) × (rows ≤ MAX_NODE_COUNT)
  pub full : length nodes ≡ cols * rows
  pub nodes_in_range : All IsNode nodes

-- a warp whose numbers are in range, and whose mesh has all its nodes
abbrev pub IsWarp : Warp → Type 0
IsWarp Identity = Unit {0}
IsWarp (Projective matrix) = All IsEntry matrix
IsWarp (Mesh step cols rows nodes) = IsMesh step cols rows nodes
