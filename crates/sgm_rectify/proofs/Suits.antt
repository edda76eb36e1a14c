-- What a warp that suits an image has at each pixel.
use Rattle.std.proofs.Common.{◌≡◌, ℕ, ◌+◌, ◌-◌, ◌*◌, ◌/◌, ◌<◌, ◌≤◌, Bool, true, false, cond, ◌&&◌, eqb, List, length, Option, Some, None, option_map, ℤ, pos, ◌<ℤ◌, refl, arith}
use Rattle.std.proofs.lemmas.Bool.{eqb-true}
use Rattle.std.proofs.lemmas.Nat.{row_fits, le-div}
use Rattle.std.proofs.Math.Nat.{div-mul-le_self, mul_comm}
use Rattle.sgm_base.specs.Sides.{Sides}
use Rattle.sgm_rectify.specs.declared.warp.Warp.TheVariants.{Projective, Mesh}
use Rattle.sgm_rectify.specs.declared.warp.WarpFault.{WarpFault}
use Rattle.sgm_rectify.specs.declared.warp.WarpFault.TheVariants.{Denominator, MeshSize}
use Rattle.sgm_rectify.specs.Warps.{IsMesh}
use Rattle.sgm_rectify.specs.Places.{denominator}
use Rattle.sgm_rectify.specs.Faults.{bad_corner, nodes_needed, warp_fault, SuitsPixel}
use Rattle.sgm_rectify.proofs.Corners.{positive_inside}

unmapped : (o : Option ℕ) → option_map (λ corner. Denominator corner) o ≡ None → o ≡ None
unmapped None e = refl
unmapped (Some n) e = absurd (cc)

-- the denominator is positive
pub positive_at : (matrix : List ℤ) (x y : ℕ) → SuitsPixel (Projective matrix) x y → pos 0 <ℤ denominator matrix x y
unfolding warp_fault
positive_at matrix x y s = positive_inside matrix s.sides x y (unmapped (bad_corner matrix s.sides) s.suits.faultless) s.column s.row

same_or_fault : (p q : Bool) (fault : WarpFault) → cond (p && q) None (Some fault) ≡ None → (p ≡ true) × (q ≡ true)
same_or_fault true true fault e = (refl, refl)
same_or_fault true false fault e = absurd (cc)
same_or_fault false q fault e = absurd (cc)

pub counts_needed : (step cols rows : ℕ) (nodes : List (ℤ × ℤ)) (sides : Sides) → warp_fault (Mesh step cols rows nodes) sides ≡ None
    → (cols ≡ nodes_needed step sides.width) × (rows ≡ nodes_needed step sides.height)
unfolding warp_fault
counts_needed step cols rows nodes sides e =
    let need_cols = nodes_needed step sides.width in
    let need_rows = nodes_needed step sides.height in
    let same = same_or_fault (eqb cols need_cols) (eqb rows need_rows) (MeshSize cols rows need_cols need_rows) e in
    (eqb-true cols need_cols same.0, eqb-true rows need_rows same.1)

-- a pixel's cell is not behind that of the last pixel
cell-le : (step x side : ℕ) → 0 < step → x < side → x / step ≤ (side - 1) / step
cell-le step x side p h = le-div (x / step) (side - 1) step p (omega (arith, div-mul-le_self x step))

pub positive_step : (step cols rows : ℕ) (nodes : List (ℤ × ℤ)) → IsMesh step cols rows nodes → 0 < step
positive_step step cols rows nodes m = omega (arith, m.step_in_range.0)

-- the four nodes round the pixel are there
pub column_there : (step cols rows : ℕ) (nodes : List (ℤ × ℤ)) (x y : ℕ) → SuitsPixel (Mesh step cols rows nodes) x y → x / step + 1 < cols
column_there step cols rows nodes x y s =
    omega (arith, (counts_needed step cols rows nodes s.sides s.suits.faultless).0, cell-le step x s.sides.width (positive_step step cols rows nodes s.suits.kept) s.column)

pub row_there : (step cols rows : ℕ) (nodes : List (ℤ × ℤ)) (x y : ℕ) → SuitsPixel (Mesh step cols rows nodes) x y → y / step + 1 < rows
row_there step cols rows nodes x y s =
    omega (arith, (counts_needed step cols rows nodes s.sides s.suits.faultless).1, cell-le step y s.sides.height (positive_step step cols rows nodes s.suits.kept) s.row)

pub nodes_there : (step cols rows : ℕ) (nodes : List (ℤ × ℤ)) (x y : ℕ) → SuitsPixel (Mesh step cols rows nodes) x y → (y / step + 1) * cols + cols ≤ length nodes
nodes_there step cols rows nodes x y s =
    omega (arith, row_fits (y / step + 1) cols rows cols (row_there step cols rows nodes x y s) (omega arith), mul_comm cols rows, s.suits.kept.full)
