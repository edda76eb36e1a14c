-- Ranges of whole numbers.
use Rattle.std.specs.Prelude.{ℕ, ℤ, pos, ◌≤ℤ◌, neg_ℤ}

-- from the one to the other, both among them
abbrev pub IsFromTo : ℤ → ℤ → ℤ → Type 0
IsFromTo low high z = (low ≤ℤ z) × (z ≤ℤ high)

-- no further from 0 than that
abbrev pub Within : ℕ → ℤ → Type 0
Within most z = IsFromTo (neg_ℤ (pos most)) (pos most) z
