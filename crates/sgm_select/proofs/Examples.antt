-- What the definitions give for small rows.
use Rattle.std.proofs.Common.{◌≡◌, ℕ, [], ◌∷◌, map, Option, Some, None, pos, negsuc, refl, List}
use Rattle.sgm_energy.specs.Energies.{least}
use Rattle.sgm_select.specs.Selection.{in_sixteenths, least_index, vertex}
use Rattle.sgm_select.specs.Rows.{base_in, matched_in, checked_in}

-- of two least sums the first
first_of_two : base_in (7 ∷ 3 ∷ 3 ∷ 9 ∷ []) 4 0 ≡ 1
unfolding base_in least_index least
first_of_two = refl

-- five columns, two indices each
abbrev sums : List ℕ
sums = 64 ∷ 65 ∷ 49 ∷ 64 ∷ 49 ∷ 1 ∷ 49 ∷ 0 ∷ 65 ∷ 64 ∷ []

matches_of_five : map (matched_in sums 5 (pos 0) 2) (0 ∷ 1 ∷ 2 ∷ 3 ∷ 4 ∷ []) ≡ Some 0 ∷ Some 1 ∷ Some 1 ∷ Some 0 ∷ Some 0 ∷ []
unfolding matched_in least_index least
matches_of_five = refl

-- one column to the left, and beyond the row
matches_to_the_left : map (matched_in sums 5 (negsuc 0) 2) (0 ∷ 1 ∷ 2 ∷ 3 ∷ 4 ∷ []) ≡ Some 1 ∷ Some 0 ∷ Some 1 ∷ Some 1 ∷ Some 0 ∷ []
unfolding matched_in least_index least
matches_to_the_left = refl

matches_beyond : map (matched_in sums 5 (pos 5) 2) (0 ∷ 4 ∷ []) ≡ None ∷ None ∷ []
unfolding matched_in least_index least
matches_beyond = refl

-- of sums as far from the middle one on both sides, and of others
vertices : (vertex 7 3 3 ≡ pos 8) × (vertex 9 3 5 ≡ pos 4) × (vertex 4 3 9 ≡ negsuc 5) × (vertex 20 3 18 ≡ pos 1) × (vertex 18 3 20 ≡ pos 0)
unfolding vertex
vertices = (refl, refl, refl, refl, refl)

-- the base index 3 at the column 5, with these sums, against the index of the column 2
checked_with : List ℕ → Option ℕ → Option ℕ
checked_with pixel m = checked_in (0 ∷ 0 ∷ 0 ∷ 0 ∷ 0 ∷ 0 ∷ 0 ∷ 0 ∷ 0 ∷ 0 ∷ 0 ∷ 0 ∷ 0 ∷ 0 ∷ 0 ∷ 0 ∷ 0 ∷ 0 ∷ 0 ∷ 0 ∷ 0 ∷ 0 ∷ 0 ∷ 0 ∷ 0 ∷ pixel) 5
    (0 ∷ 0 ∷ 0 ∷ 0 ∷ 0 ∷ 3 ∷ []) (None ∷ None ∷ m ∷ []) (None ∷ None ∷ None ∷ None ∷ None ∷ Some 7 ∷ []) (None ∷ None ∷ Some 7 ∷ []) (pos 0) 5

differences : map (checked_with (9 ∷ 9 ∷ 9 ∷ 3 ∷ 5 ∷ [])) (Some 1 ∷ Some 2 ∷ Some 3 ∷ Some 4 ∷ Some 5 ∷ None ∷ []) ≡ None ∷ Some 52 ∷ Some 52 ∷ Some 52 ∷ None ∷ None ∷ []
unfolding checked_with checked_in in_sixteenths vertex
differences = refl
