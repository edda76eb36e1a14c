-- The five rows of a plane that the windows of a row of pixels lie in, packed, and what a window's
-- samples are worked out from.
use Rattle.std.specs.Prelude.{◌≡◌, ℕ, ◌<◌, ◌≤◌, ◌+◌, ◌-◌, ◌*◌, ◌/◌, ◌%◌, nat_lt, if◌then◌else◌}
use Rattle.std.specs.Prelude.{List, length, slice_index_or, Option, None, Some, true, unsigned_abs}
use Rattle.std.specs.Prelude.{ℤ, pos, negsuc, ◌-ℤ◌}
use Rattle.sgm_base.specs.Ranges.{IsFromTo}
use Rattle.sgm_base.specs.Values.{Values, value_at}
use Rattle.sgm_fine.specs.Windows.{IsPadded, number}
use Rattle.sgm_fine.specs.declared.band.Bands.{Bands}
use Rattle.sgm_fine.specs.declared.band.TheConstants.{ROOM}
use Rattle.sgm_fine.specs.declared.samples.Lie.{Lie}
use Rattle.sgm_fine.specs.declared.sums.TheConstants.{LANES, SIDE}
use Rattle.sgm_fine.specs.declared.whole.Gathered.{Gathered}

-- a sample below 256 as it is, and a number below 0 for every other one and where there is none
abbrev pub packed : Option ℕ → ℤ
packed (Some v) = if nat_lt v 256 then pos v else negsuc 0
packed None = negsuc 0

-- samples that are packed one after the other from a place of a list of numbers on, before which
-- nothing is written
pub record IsPackedFrom (from : ℕ) (samples : List (Option ℕ)) (old new : List ℤ) : Type 0 where
  pub written : (q : ℕ) → q < length samples
      → number new (from + q) ≡ packed (slice_index_or samples q None)
  pub kept : (k : ℕ) → k < from → number new k ≡ number old k

-- what the code holds of the first so many of the five rows around the row y
abbrev pub HoldsRows : ℕ → List ℤ → Values → ℕ → Type 0
HoldsRows rows band plane y =
    (j q : ℕ) → j < rows → q < plane.width
    → number band (ROOM * j + q) ≡ packed (value_at plane q (y + j - 2))

-- and of these rows of both planes
pub record ArePacked (bands : Bands) (one other : Values) (y : ℕ) : Type 0 where
  pub above : 2 ≤ y
  pub left_rows : y + 2 < one.height
  pub right_rows : y + 2 < other.height
  pub left : HoldsRows SIDE bands.left one y
  pub right : HoldsRows SIDE bands.right other y

abbrev pub HoldsBands : Bands → Values → Values → ℕ → Type 0
HoldsBands bands one other y = bands.are_packed ≡ true → ArePacked bands one other y

-- how many sixteenths right of the first column the place half a pixel before the place k lies
unfoldable pub start : Lie → ℕ → ℕ
start lie k =
    unsigned_abs ((number lie.columns (k % SIDE) -ℤ number lie.rows (k / SIDE)) -ℤ pos 8)

-- what the code gathers from the packed rows of the right plane for the place k of a window
pub record HoldsGathered (gathered : Gathered) (band : List ℤ) (lie : Lie) (k : ℕ) : Type 0 where
  pub first : number gathered.first k ≡ number band (ROOM * (k / SIDE) + start lie k / 16)
  pub second : number gathered.second k ≡ number band (ROOM * (k / SIDE) + start lie k / 16 + 1)
  pub third : number gathered.third k ≡ number band (ROOM * (k / SIDE) + start lie k / 16 + 2)
  pub part : number gathered.part k ≡ pos (start lie k % 16)

-- a number for each lane, 0 behind the places of a window
abbrev pub AreLanes : List ℤ → Type 0
AreLanes numbers = (length numbers ≡ LANES) × IsPadded numbers

pub record IsGathered (gathered : Gathered) : Type 0 where
  pub left : AreLanes gathered.left
  pub first : AreLanes gathered.first
  pub second : AreLanes gathered.second
  pub third : AreLanes gathered.third
  pub part : AreLanes gathered.part

-- samples that are all there and small
pub record IsWhole (gathered : Gathered) (k : ℕ) : Type 0 where
  pub left : IsFromTo (pos 0) (pos 255) (number gathered.left k)
  pub first : IsFromTo (pos 0) (pos 255) (number gathered.first k)
  pub second : IsFromTo (pos 0) (pos 255) (number gathered.second k)
  pub third : IsFromTo (pos 0) (pos 255) (number gathered.third k)
  pub part : IsFromTo (pos 0) (pos 15) (number gathered.part k)

-- the samples on the right of a place between three others, f sixteenths after the middle of the
-- first two
pub record AreBetween (next own last : ℤ) (a b c f : ℕ) : Type 0 where
  pub after : next ≡ pos ((16 - f) * b + f * c)
  pub sooner : f < 8 → own ≡ pos ((8 - f) * a + (8 + f) * b)
  pub later : 8 ≤ f → own ≡ pos ((24 - f) * b + (f - 8) * c)
  pub before : last ≡ pos ((16 - f) * a + f * b)
