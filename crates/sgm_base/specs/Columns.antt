-- Which columns of the two images stand for each other. The index d stands for the disparity
-- first + d.
use Rattle.std.specs.Prelude.{ℕ, Option, Some, None, nat_lt, if◌then◌else◌, ℤ, pos, negsuc, ◌+ℤ◌}
use Rattle.std.specs.Prelude.{◌-ℤ◌}

-- z, where that is a column of an image so wide
abbrev pub column_within : ℕ → ℤ → Option ℕ
column_within width (pos n) = if nat_lt n width then Some n else None
column_within width (negsuc n) = None

-- the column of the right image that the index d gives to the column x of the left image
abbrev pub right_column : ℕ → ℤ → ℕ → ℕ → Option ℕ
right_column width first x d = column_within width ((pos x -ℤ first) -ℤ pos d)

-- the column of the left image that the index d gives to the column q of the right image
abbrev pub left_column : ℕ → ℤ → ℕ → ℕ → Option ℕ
left_column width first q d = column_within width ((pos q +ℤ first) +ℤ pos d)
