-- What is added at the end of a text.
use Rattle.std.specs.Prelude.{◌≡◌, ℕ, List, [], ◌∷◌, ◌++◌, take, length}

-- a line: its bytes and a line feed
abbrev pub line : List ℕ → List ℕ
line bytes = bytes ++ (10 ∷ [])

-- what was there before still stands in front
abbrev pub StartsAs : List ℕ → List ℕ → Type 0
StartsAs before now = take (length before) now ≡ before
