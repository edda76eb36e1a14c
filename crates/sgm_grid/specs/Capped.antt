-- Words of the reader's own functions. No public clause cites them.
use Rattle.std.specs.Prelude.{ℕ, min, ℤ, pos, neg_ℤ}
use Rattle.std.specs.Int.{int_max, int_min}
use Rattle.sgm_grid.specs.declared.numbers.TheConstants.{TOO_GREAT}

-- all that are greater as one
abbrev pub capped_size : ℕ → ℕ
capped_size n = min n TOO_GREAT

-- and all that are less
abbrev pub capped : ℤ → ℤ
capped z = int_max (neg_ℤ (pos TOO_GREAT)) (int_min (pos TOO_GREAT) z)
