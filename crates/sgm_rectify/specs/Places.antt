-- Where a pixel of the rectified image comes from: a place (u, v) in the source, in 1/256 of a
-- pixel.
use Rattle.std.specs.Prelude.{ℕ, ◌+◌, ◌-◌, ◌*◌, ◌/◌, ◌%◌, ℤ, pos, ◌+ℤ◌, ◌*ℤ◌, List, map}
use Rattle.std.specs.Prelude.{slice_index_or}
use Rattle.std.specs.Int.{int_div_euclid}
use Rattle.sgm_rectify.specs.declared.warp.Warp.{Warp}
use Rattle.sgm_rectify.specs.declared.warp.Warp.TheVariants.{Identity, Projective, Mesh}

-- the entry k of a matrix
abbrev pub entry : List ℤ → ℕ → ℤ
entry matrix k = slice_index_or matrix k (pos 0)

-- a x + b y + c, where a, b and c stand in the matrix from the entry k on
abbrev pub affine : List ℤ → ℕ → ℕ → ℕ → ℤ
affine matrix k x y = ((entry matrix k *ℤ pos x) +ℤ (entry matrix (k + 1) *ℤ pos y)) +ℤ entry matrix
    (k + 2)

-- the denominator of a projective map
abbrev pub denominator : List ℤ → ℕ → ℕ → ℤ
denominator matrix x y = affine matrix 6 x y

-- floor(256 (a x + b y + c) / denominator)
abbrev pub quotient : List ℤ → ℕ → ℕ → ℕ → ℤ
quotient matrix k x y = int_div_euclid (pos 256 *ℤ affine matrix k x y) (denominator matrix x y)

-- The coordinate that lies a and b steps of s from the left and the upper nodes of a cell: u00 is
-- that of the upper left node, u10 of the upper right, u01 of the lower left and u11 of the lower
-- right.
abbrev pub blended : ℕ → ℕ → ℕ → ℤ → ℤ → ℤ → ℤ → ℤ
blended s a b u00 u10 u01 u11 =
    int_div_euclid
    ((((pos ((s - a) * (s - b)) *ℤ u00) +ℤ (pos (a * (s - b)) *ℤ u10)) +ℤ
    (pos ((s - a) * b) *ℤ u01)) +ℤ (pos (a * b) *ℤ u11))
    (pos (s * s))

-- the same with the coordinates of a mesh of cols columns, in the cell round the pixel (x, y)
abbrev pub in_cell : ℕ → ℕ → List ℤ → ℕ → ℕ → ℤ
in_cell step cols coordinates x y =
    let at : ℕ → ℕ → ℤ = λ i j. slice_index_or coordinates (j * cols + i) (pos 0) in
    let i = x / step in
    let j = y / step in
    blended step (x % step) (y % step) (at i j) (at (i + 1) j) (at i (j + 1)) (at (i + 1) (j + 1))

-- the source place of the pixel (x, y)
unfoldable pub place_of : Warp → ℕ → ℕ → ℤ × ℤ
place_of Identity x y = (pos (256 * x), pos (256 * y))
place_of (Projective matrix) x y = (quotient matrix 0 x y, quotient matrix 3 x y)
place_of (Mesh step cols rows nodes) x y =
    (in_cell step cols (map (λ n. n.0) nodes) x y, in_cell step cols (map (λ n. n.1) nodes) x y)
