-- Words of the reader's own functions over the heights of a text. No public clause cites them.
use Rattle.std.specs.Prelude.{ℕ, zero, suc, List, [], ◌∷◌, ℤ, Option, Some, None}
use Rattle.sgm_grid.specs.Asc.{cell_in}

abbrev pub prepend : Option (Option ℤ) → List (Option ℤ) → List (Option ℤ)
prepend None cells = []
prepend (Some cell) cells = cell ∷ cells

-- the heights that words tell before one that tells none, n at most
abbrev pub leading : ℕ → List (List ℕ) → List (Option ℤ)
leading zero words = []
leading (suc n) [] = []
leading (suc n) (word ∷ words) = prepend (cell_in word) (leading n words)
