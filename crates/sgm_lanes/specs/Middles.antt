-- The middle of five values, by which version 3 codes a pixel, and costs smoothed along a row.
use Rattle.std.specs.Prelude.{ℕ, ◌+◌, ◌*◌, ◌/◌, Bool, ◌&&◌, nat_lt, nat_le, List, [], ◌∷◌}
use Rattle.std.specs.Prelude.{unwrap_or}
use Rattle.std.specs.List.{count_by, find}

-- whether v is the third smallest of five values: fewer than three are less than it, and three or
-- more are not above it
abbrev pub is_third : List ℕ → ℕ → Bool
is_third values v = nat_lt (count_by (λ w. nat_lt w v) values) 3
    && nat_le 3 (count_by (λ w. nat_le w v) values)

-- the third smallest of five values
unfoldable pub middle_of : ℕ → ℕ → ℕ → ℕ → ℕ → ℕ
middle_of a b c d e =
    let values : List ℕ = a ∷ b ∷ c ∷ d ∷ e ∷ [] in
    unwrap_or (find (is_third values) values) 0

-- a cost with half of its weight left to the costs before and after it, rounded down
abbrev pub smoothed : ℕ → ℕ → ℕ → ℕ
smoothed before here after = (before + 2 * here + after) / 4
