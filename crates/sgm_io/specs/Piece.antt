-- How much of a piece a call that writes takes.
use Rattle.std.specs.Prelude.{◌≡◌, ◌⊎◌, ⊤, ℕ, ◌+◌, ◌≤◌, ◌<◌, Bool, true, false, List, length}
use Rattle.std.specs.Prelude.{Result, Ok, Err}

-- at most the piece, and at least one byte of a piece that isn't empty
abbrev pub TakesSome : {E : Type 0} → List ℕ → Result ℕ E → Type 0
TakesSome piece (Ok count) = (count ≤ length piece) × (0 < length piece → 0 < count)
TakesSome piece (Err error) = ⊤

-- how many of `most` bytes go in from the length `at` on, before a length at which it stops
pub record FillsUpTo (stops : ℕ → Bool) (at most count : ℕ) : Type 0 where
  pub within : count ≤ most
  pub runs : (k : ℕ) → k < count → stops (at + k) ≡ false
  pub ends : (count ≡ most) ⊎ (stops (at + count) ≡ true)
