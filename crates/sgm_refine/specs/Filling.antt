-- How the pixels without a disparity are filled from those around them.
use Rattle.std.specs.Prelude.{◌≡◌, ℕ, ◌-◌, ◌*◌, ◌/◌, ◌<◌, min, All, IfSome, Bool, false, ◌&&◌}
use Rattle.std.specs.Prelude.{nat_eq, nat_le, nat_lt, if◌then◌else◌, List, [], ◌∷◌, map, length}
use Rattle.std.specs.Prelude.{Option, Some, None, option_and_then, ℤ}
use Rattle.std.specs.List.{count_by, find, flat_map, list_any}
use Rattle.std.specs.Option.{option_eq, option_map_or, option_or, option_to_list}
use Rattle.sgm_base.specs.Columns.{right_column}
use Rattle.sgm_base.specs.Values.{Values, value_at, values_of, row_by_row}
use Rattle.sgm_energy.specs.declared.dir.Dir.{Dir}
use Rattle.sgm_energy.specs.Dirs.{directions}
use Rattle.sgm_energy.specs.Energies.{below}
use Rattle.sgm_energy.specs.Rays.{Pixel, pixel_at, Problem, before}

-- the pixels of a map, for the rays through them, on which costs have no bearing
abbrev pub pixels_of : Values → Problem
pixels_of disparities =
    record {
      width = disparities.width;
      height = disparities.height;
      count = 0;
      cost = λ _ _. 0;
      p1 = 0;
      far = λ _ _. 0;
    }

-- the value at the last of these pixels that has one
unfoldable pub last_value : Values → List Pixel → Option ℕ
last_value disparities [] = None
last_value disparities (p ∷ ps) = option_or (last_value disparities ps)
    (value_at disparities p.x p.y)

-- The value at the first of the pixels p less one offset, two, three and so on that lies in the
-- image and has one: on the ray that comes to p, the last before p.
unfoldable pub met_from : Values → Pixel → Dir → Option ℕ
met_from disparities p dir = last_value disparities (before (pixels_of disparities) dir p)

-- the values that are met from p in the eight directions
unfoldable pub met : Values → Pixel → List ℕ
met disparities p = flat_map option_to_list (map (met_from disparities p) directions)

-- whether v has the number n of some numbers, the least first: at most n of them are below v, and
-- more than n at most v
abbrev pub is_ranked : List ℕ → ℕ → ℕ → Bool
is_ranked xs n v = nat_le (count_by (λ x. nat_lt x v) xs) n
    && nat_lt n (count_by (λ x. nat_le x v) xs)

-- the one of some numbers that has the number n, the least first, where n is below how many there
-- are
unfoldable pub ranked : List ℕ → ℕ → Option ℕ
ranked xs n = find (is_ranked xs n) xs

-- whether the index d gives p a pixel of the right image whose match is d. The matches are in
-- sixteenths.
abbrev pub is_matched : Values → ℤ → Pixel → ℕ → Bool
is_matched matches first p d =
    option_map_or (λ q. option_eq nat_eq (value_at matches q p.y) (Some (16 * d)))
    (right_column matches.width first p.x d) false

-- whether p is mismatched: some index gives it a pixel of the right image whose match is that
-- index. Otherwise it is occluded.
unfoldable pub is_mismatched : Values → ℤ → ℕ → Pixel → Bool
is_mismatched matches first count p = list_any (is_matched matches first p) (below count)

-- of n values the number of the one that is taken, the least first and counted from 0: that in the
-- middle, the lower one of two, where p is mismatched; the second, or the only one, where it is
-- occluded
abbrev pub entry_taken : Bool → ℕ → ℕ
entry_taken mismatched n = if mismatched then (n - 1) / 2 else min 1 (n - 1)

-- the one that is taken of the values met from p, where any is met
abbrev pub filling : Values → Bool → Pixel → Option ℕ
filling disparities mismatched p =
    ranked (met disparities p) (entry_taken mismatched (length (met disparities p)))

-- the value of p; where it has none, that with which it is filled, but none where p is void on the
-- left
unfoldable pub filled_value : Values → Values → Bool → Pixel → Option ℕ
filled_value disparities left mismatched p =
    option_or (value_at disparities p.x p.y)
    (option_and_then (λ _. filling disparities mismatched p) (value_at left p.x p.y))

-- the map of these values: the disparities filled, with the matches of the right image and the left
-- plane
abbrev pub filled : Values → Values → Values → ℤ → ℕ → Values
filled disparities matches left first count =
    values_of disparities.width disparities.height
    (row_by_row disparities.width disparities.height
    (λ x y. filled_value disparities left (is_mismatched matches first count (pixel_at x y))
    (pixel_at x y)))

-- each value is 16 times an index below count
abbrev pub AreIndices : ℕ → List (Option ℕ) → Type 0
AreIndices count entries =
    All (λ entry. IfSome entry (λ value. (d : ℕ) × (d < count) × (value ≡ 16 * d))) entries
