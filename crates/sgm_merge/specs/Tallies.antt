-- What is held of some heights.
use Rattle.std.specs.Prelude.{ℕ, ◌+◌, ◌*◌, ◌==◌, ℤ, pos, ◌+ℤ◌, Option, Some, None, if◌then◌else◌}
use Rattle.std.specs.Int.{int_max}
use Rattle.sgm_base.specs.Ranges.{Within}
use Rattle.sgm_base.specs.Rounding.{rounded}
use Rattle.sgm_grid.specs.declared.keep.Keep.{Keep}
use Rattle.sgm_grid.specs.declared.keep.Keep.TheVariants.{Highest, Mean}
use Rattle.sgm_grid.specs.Cells.{IsHeight}

-- their sum, their number, and the greatest of them, 0 where there are none
pub record Heights : Type 0 where
  pub total : ℤ
  pub count : ℕ
  pub highest : ℤ

abbrev pub no_heights : Heights
no_heights = record { total = pos 0; count = 0; highest = pos 0 }

-- with a height more
abbrev pub with_height : Heights → ℤ → Heights
with_height held h = record {
  total = held.total +ℤ h;
  count = held.count + 1;
  highest = if held.count == 0 then h else int_max held.highest h;
}

-- with the height of a cell more, if it has one
abbrev pub with_cell : Heights → Option ℤ → Heights
with_cell held None = held
with_cell held (Some h) = with_height held h

-- what is kept of them, where there are some
abbrev pub told : Keep → Heights → ℤ
told Highest held = held.highest
told Mean held = rounded held.total (pos held.count)

-- what is kept of them, or none of no heights
abbrev pub kept_of : Keep → Heights → Option ℤ
kept_of keep held = if held.count == 0 then None else Some (told keep held)

-- the ranges of what is held
pub record IsHeights (held : Heights) : Type 0 where
  pub total_in_range : Within (held.count * 2000000000) held.total
  pub highest_in_range : IsHeight held.highest
