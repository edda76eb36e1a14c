-- One step of the recurrence of path values, from the values of one pixel of a ray to those of the
-- next.
use Rattle.std.specs.Prelude.{◌≡◌, ℕ, ◌+◌, ◌-◌, min, Bool, nat_lt, if◌then◌else◌}

-- the lesser of v and w, where v counts; else w
abbrev pub min_if : Bool → ℕ → ℕ → ℕ
min_if counts v w = if counts then min v w else w

-- What is carried to the index d from the values of the pixel before, of which low is the least:
-- the least of the value at d, the values at d - 1 and d + 1 with the penalty p1, and low with the
-- penalty far. An index that isn't below count is left out.
unfoldable pub carried : (ℕ → ℕ) → ℕ → ℕ → ℕ → ℕ → ℕ → ℕ
carried prev count p1 far low d =
    min_if (nat_lt 0 d) (prev (d - 1) + p1)
    (min_if (nat_lt (d + 1) count) (prev (d + 1) + p1) (min (prev d) (low + far)))

-- value is what a step gives at the index d: its cost and what is carried to it, less low
abbrev pub IsStepped : (ℕ → ℕ) → ℕ → ℕ → ℕ → ℕ → ℕ → ℕ → ℕ → Type 0
IsStepped prev count p1 far low cost d value = value + low ≡ cost + carried prev count p1 far low d
