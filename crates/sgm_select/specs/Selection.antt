-- Which index is chosen for a pixel, which of them stand the check from left to right, and the
-- disparities that they give, which lie between whole indices.
use Rattle.std.specs.Prelude.{ℕ, ◌+◌, ◌-◌, ◌*◌, Bool, true, ◌&&◌, ◌||◌, ◌==◌, nat_le, if◌then◌else◌}
use Rattle.std.specs.Prelude.{map, filter, find, unwrap_or, unsigned_abs, Option, Some, None}
use Rattle.std.specs.Prelude.{is_some, option_and_then, option_map, ℤ, pos, ◌+ℤ◌, ◌-ℤ◌, ◌*ℤ◌}
use Rattle.sgm_base.specs.Rounding.{rounded}
use Rattle.sgm_base.specs.Values.{Values, row_by_row, value_at, values_of}
use Rattle.sgm_base.specs.Columns.{left_column, right_column}
use Rattle.sgm_energy.specs.Rays.{Pixel, pixel_at, Problem}
use Rattle.sgm_energy.specs.Energies.{least, below, path_sum}

-- the least index below n that counts and at which f is the least of its values at those that count
unfoldable pub least_index : (ℕ → Bool) → (ℕ → ℕ) → ℕ → Option ℕ
least_index counts f n =
    let among = filter counts (below n) in find (λ d. f d == least (map f among)) among

-- the least index below n at which f is least. There is one, as n is never 0
abbrev pub least_of : (ℕ → ℕ) → ℕ → ℕ
least_of f n = unwrap_or (least_index (λ _. true) f n) 0

-- whether the index d gives the column q of the right image a column of the left one
abbrev pub lies : ℕ → ℤ → ℕ → ℕ → Bool
lies width first q d = is_some (left_column width first q d)

-- the index of the pixel p: the least one at which its sum is least
unfoldable pub base : Problem → Pixel → ℕ
base g p = least_of (path_sum g p) g.count

-- The index of the pixel (q, y) of the right image: the least one at which the sum of the pixel
-- that it gives is least, over those whose pixel lies in the row. None where there is none.
unfoldable pub matched : Problem → ℤ → ℕ → ℕ → Option ℕ
matched g first q y =
    least_index (lies g.width first q)
    (λ d. path_sum g (pixel_at (unwrap_or (left_column g.width first q d) 0) y) d) g.count

-- whether two indices differ by at most 1
abbrev pub agree : ℕ → ℕ → Bool
agree a b = nat_le a (b + 1) && nat_le b (a + 1)

-- The index b, where neither pixel is void and the index of the right one agrees; else none
abbrev pub checked : ℕ → Option ℕ → Option ℕ → Option ℕ → Option ℕ
checked b (Some left) (Some right) (Some m) = if agree b m then Some b else None
checked b _ _ _ = None

-- How far from the middle one of three sums, in sixteenths of an index, the parabola through them
-- has its least value. With a and c the first and the last sum less the middle one this is
-- 8 * (a - c) / (a + c), rounded: floor((16 * (a - c) + (a + c)) / (2 * (a + c))).
unfoldable pub vertex : ℕ → ℕ → ℕ → ℤ
vertex before at after =
    let a = pos before -ℤ pos at in
    let c = pos after -ℤ pos at in
    rounded (pos 8 *ℤ (a -ℤ c)) (a +ℤ c)

-- the offset of the index b from the sums beside its own: none at the first and the last index
abbrev pub offset : (ℕ → ℕ) → ℕ → ℕ → ℤ
offset sums count b =
    if (b == 0) || (b + 1 == count) then pos 0 else vertex (sums (b - 1)) (sums b) (sums (b + 1))

-- the index b and its offset, in sixteenths. This is never negative where the sum at b is least
unfoldable pub in_sixteenths : (ℕ → ℕ) → ℕ → ℕ → ℕ
in_sixteenths sums count b = unsigned_abs (pos (16 * b) +ℤ offset sums count b)

-- The disparity of the pixel p, in sixteenths: with b its index and q = x - first - b the column of
-- the right image, 16 * b and the offset of b, where q lies in the row, the planes are void neither
-- at p on the left nor at q on the right, and b and the index of q differ by at most 1. Otherwise
-- none.
unfoldable pub disparity : Problem → Values → Values → ℤ → Pixel → Option ℕ
disparity g left right first p =
    let b = base g p in
    option_map (in_sixteenths (path_sum g p) g.count)
    (option_and_then
    (λ q. checked b (value_at left p.x p.y) (value_at right q p.y) (matched g first q p.y))
    (right_column g.width first p.x b))

-- the disparity of each pixel, row by row
abbrev pub disparities_of : Problem → Values → Values → ℤ → Values
disparities_of g left right first =
    values_of g.width g.height
    (row_by_row g.width g.height (λ x y. disparity g left right first (pixel_at x y)))

-- the match of each pixel of the right image, in sixteenths, row by row: 16 times its index, or
-- none
abbrev pub matches_of : Problem → ℤ → Values
matches_of g first =
    values_of g.width g.height
    (row_by_row g.width g.height (λ q y. option_map (λ d. 16 * d) (matched g first q y)))
