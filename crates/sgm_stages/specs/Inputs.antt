-- The inputs as contracts see them.
use Rattle.std.specs.Prelude.{ℕ, List, Option}

-- of a match or a trace: the bytes of both images, and of the calibration where it isn't the plain
-- one
pub record InputBytes : Type 0 where
  pub left : List ℕ
  pub right : List ℕ
  pub calib : Option (List ℕ)

-- of a merge: the bytes of the list, and of the calibration where it isn't the plain one
pub record MergeBytes : Type 0 where
  pub list : List ℕ
  pub calib : Option (List ℕ)
