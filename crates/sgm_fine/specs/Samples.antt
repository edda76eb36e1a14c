-- The samples of a window that lies along the surface: on the left, and at three offsets on the
-- right.
use Rattle.std.specs.Prelude.{◌≡◌, ℕ, ◌<◌, ◌≤◌, ◌^◌, All, ◌+◌, ◌-◌, ◌*◌, ◌/◌, ◌%◌, ◌==◌, ◌&&◌, Bool}
use Rattle.std.specs.Prelude.{if◌then◌else◌, List, map, min, Option, Some, is_some, option_and_then}
use Rattle.std.specs.Prelude.{option_map, unwrap_or, unsigned_abs, ℤ, pos, neg_ℤ, ◌+ℤ◌, ◌-ℤ◌, ◌*ℤ◌}
use Rattle.std.specs.Int.{int_div_euclid, int_rem_euclid}
use Rattle.std.specs.List.{list_all, range_with_len}
use Rattle.sgm_base.specs.Columns.{column_within}
use Rattle.sgm_base.specs.Ranges.{IsFromTo, Within}
use Rattle.sgm_base.specs.Values.{Values, value_at}
use Rattle.sgm_fine.specs.Slopes.{rise, step_at}
use Rattle.sgm_fine.specs.Windows.{column_of, number, row_of_place, value_around}
use Rattle.sgm_fine.specs.declared.samples.Lie.{Lie}
use Rattle.sgm_fine.specs.declared.samples.Place.{Place}
use Rattle.sgm_fine.specs.declared.samples.Rights.{Rights}
use Rattle.sgm_fine.specs.declared.samples.Three.{Three}
use Rattle.sgm_fine.specs.declared.samples.Window.{Window}
use Rattle.sgm_fine.specs.declared.sums.TheConstants.{PLACES, SIDE}

-- the sample of the column q of a row, none where it is void or outside
abbrev pub sample : Values → ℕ → ℤ → Option ℕ
sample plane y q = option_and_then (λ x. value_at plane x y) (column_within plane.width q)

-- The sample of a row at so many sixteenths of a pixel, sixteen times as great; none where a pixel
-- that is needed is void or outside. The next pixel isn't needed at a whole one.
abbrev pub between : (ℤ → Option ℕ) → ℤ → Option ℕ
between row u =
    let q = int_div_euclid u (pos 16) in
    let f = unsigned_abs (int_rem_euclid u (pos 16)) in
    if f == 0 then option_map (λ here. 16 * here) (row q)
    else option_and_then
    (λ here. option_map (λ next. (16 - f) * here + f * next) (row (q +ℤ pos 1))) (row q)

-- a pixel that is made finer: the planes and the map, the first disparity, its place and its value
pub record Centre : Type 0 where
  pub left : Values
  pub right : Values
  pub map : Values
  pub first : ℤ
  pub x : ℕ
  pub y : ℕ
  pub value : ℕ

abbrev pub centre : Values → Values → Values → ℤ → ℕ → ℕ → ℕ → Centre
centre left right map first x y value =
    record { left = left; right = right; map = map; first = first; x = x; y = y; value = value }

-- the place in the right row, in sixteenths, of the place k of the window, laid along the surface
abbrev pub place_of : Centre → ℕ → ℤ
place_of c k =
    let steps = step_at c.map c.x c.y c.value in
    (((pos 16 *ℤ ((pos c.x +ℤ column_of k) -ℤ c.first)) -ℤ pos c.value)
    -ℤ rise column_of steps (column_of k)) -ℤ rise row_of_place steps (row_of_place k)

-- the left sample of the place k, and the right one at an offset in sixteenths
abbrev pub left_at : Centre → ℕ → Option ℕ
left_at c k = value_around c.left 2 c.x c.y (k % 5) (k / 5)

abbrev pub right_at : Centre → ℤ → ℕ → Option ℕ
right_at c offset k = between (sample c.right (c.y + k / 5 - 2)) (place_of c k +ℤ offset)

-- half a pixel, in sixteenths
abbrev pub half : ℤ
half = pos 8

-- whether the samples of the place k are there, and whether all are
abbrev pub has : Centre → ℕ → Bool
has c k = is_some (left_at c k) && is_some (right_at c half k) && is_some (right_at c (pos 0) k)
    && is_some (right_at c (neg_ℤ half) k)

abbrev pub has_all : Centre → Bool
has_all c = list_all (λ k. has c k) (range_with_len 0 25)

-- all samples, row by row
abbrev pub lefts : Centre → List ℕ
lefts c = map (λ k. unwrap_or (left_at c k) 0) (range_with_len 0 25)

abbrev pub rights : Centre → ℤ → List ℕ
rights c offset = map (λ k. unwrap_or (right_at c offset k) 0) (range_with_len 0 25)

-- whether the three samples around a place of a row are there
abbrev pub has_rights : (ℤ → Option ℕ) → ℤ → Bool
has_rights row u =
    is_some (between row (u +ℤ half)) && is_some (between row (u +ℤ pos 0))
    && is_some (between row (u +ℤ neg_ℤ half))

-- the pixel before the place half a pixel before u, and how many sixteenths lie between
unfoldable pub quotient : ℤ → ℤ
quotient u = int_div_euclid (u -ℤ pos 8) (pos 16)

unfoldable pub rest : ℤ → ℕ
rest u = unsigned_abs (int_rem_euclid (u -ℤ pos 8) (pos 16))

-- what the code holds of the pixels of a row around u: the third one is the second one where that
-- place is a pixel's own
pub record HoldsThree (three : Three) (row : ℤ → Option ℕ) (u : ℤ) : Type 0 where
  pub part : three.part ≡ rest u
  pub first : three.first ≡ row (quotient u)
  pub second : three.second ≡ row (quotient u +ℤ pos 1)
  pub third : three.third ≡ row ((quotient u +ℤ pos 1) +ℤ pos (min three.part 1))

-- and of the samples at a place of that row, beside a left one
pub record HoldsSides (place : Place) (one : Option ℕ) (row : ℤ → Option ℕ) (u : ℤ) : Type 0 where
  pub left : one ≡ Some place.left
  pub after : between row (u +ℤ half) ≡ Some place.after
  pub here : between row (u +ℤ pos 0) ≡ Some place.here
  pub before : between row (u +ℤ neg_ℤ half) ≡ Some place.before

-- what the samples on the right keep
pub record AreRights (rights : Rights) : Type 0 where
  pub after : rights.after < 2 ^ 20
  pub here : rights.here < 2 ^ 20
  pub before : rights.before < 2 ^ 20

-- what the code holds of where a window lies, and what that keeps
abbrev pub HoldsLie : Lie → Centre → Type 0
HoldsLie lie p =
    (k : ℕ) → k < PLACES → number lie.columns (k % SIDE) -ℤ number lie.rows (k / SIDE)
    ≡ place_of p k

pub record IsLie (lie : Lie) : Type 0 where
  pub columns : (i : ℕ) → i < SIDE → Within (2 ^ 22) (number lie.columns i)
  pub rows : (j : ℕ) → j < SIDE → Within 6600 (number lie.rows j)

-- what the code holds of the samples of the place k
pub record HoldsPlace (place : Place) (p : Centre) (k : ℕ) : Type 0 where
  pub left : left_at p k ≡ Some place.left
  pub after : right_at p half k ≡ Some place.after
  pub here : right_at p (pos 0) k ≡ Some place.here
  pub before : right_at p (neg_ℤ half) k ≡ Some place.before

-- and of all
pub record HoldsSamples (window : Window) (p : Centre) : Type 0 where
  pub left : window.left ≡ lefts p
  pub after : window.after ≡ rights p half
  pub here : window.here ≡ rights p (pos 0)
  pub before : window.before ≡ rights p (neg_ℤ half)

-- what a place and a window keep: the left samples have 16 bits, and those on the right 20
pub record IsPlace (place : Place) : Type 0 where
  pub left : place.left < 2 ^ 16
  pub after : place.after < 2 ^ 20
  pub here : place.here < 2 ^ 20
  pub before : place.before < 2 ^ 20

pub record IsWindow (window : Window) : Type 0 where
  pub left : All (λ v. v < 2 ^ 16) window.left
  pub after : All (λ v. v < 2 ^ 20) window.after
  pub here : All (λ v. v < 2 ^ 20) window.here
  pub before : All (λ v. v < 2 ^ 20) window.before

-- where the window of a pixel has all its pixels on the left and all its rows on the right
pub record IsInside (left right : Values) (x y : ℕ) : Type 0 where
  pub columns : (2 ≤ x) × (x + 2 < left.width)
  pub rows : (2 ≤ y) × (y + 2 < left.height)
  pub right_rows : y + 2 < right.height

-- and where all its places have the three columns that are needed
abbrev pub LiesInside : Lie → ℕ → Type 0
LiesInside lie width =
    (i j : ℕ) → i < SIDE → j < SIDE → IsFromTo (pos 8) (pos (16 * width) -ℤ pos 25)
    (number lie.columns i -ℤ number lie.rows j)
