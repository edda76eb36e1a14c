-- What rows of costs and of path values say of a problem.
use Rattle.std.specs.Prelude.{◌≡◌, ℕ, ◌+◌, ◌-◌, ◌*◌, ◌/◌, ◌%◌, ◌^◌, ◌<◌, ◌≤◌, ◌⊎◌, Bool, true}
use Rattle.std.specs.Prelude.{false, List, length, map, slice_index, slice_index_or, All, EachIndex}
use Rattle.std.specs.Prelude.{◌++◌, Option, Some, None, MatchOption, if◌then◌else◌}
use Rattle.sgm_base.specs.declared.limits.TheConstants.{MAX_COST, MAX_COUNT, MAX_PATH_VALUE}
use Rattle.sgm_base.specs.declared.limits.TheConstants.{MAX_PENALTY}
use Rattle.sgm_energy.specs.Step.{IsStepped}
use Rattle.sgm_energy.specs.declared.dir.Dir.{Dir}
use Rattle.sgm_energy.specs.declared.dir.Dir.TheVariants.{Right, Left, Down, DownRight, Up}
use Rattle.sgm_energy.specs.declared.dir.Dir.TheVariants.{UpRight}
use Rattle.sgm_energy.specs.Dirs.{is_level}
use Rattle.sgm_energy.specs.Pens.{Penalties, far_of, penalties_of}
use Rattle.sgm_energy.specs.Rays.{pixel_at, Problem, column_before, row_before}
use Rattle.sgm_energy.specs.Energies.{least, below, path_value}
use Rattle.sgm_energy.specs.Rows.{HoldsRow}
use Rattle.sgm_path.specs.declared.row_pass.RowPass.{RowPass}

-- value is what the recurrence gives at the index d, from the values prev of the pixel before and
-- d's cost
abbrev pub Follows : (ℕ → ℕ) → ℕ → ℕ → ℕ → ℕ → ℕ → ℕ → Type 0
Follows prev count p1 far cost d value =
    IsStepped prev count p1 far (least (map prev (below count))) cost d value

-- value is that of the column x and the index d in a row that comes after the row before in this
-- direction: the cost alone, where the direction comes from beyond the side of the image. far
-- z x is the penalty of a change by more than one from the column z of the row before to the column
-- x
abbrev pub StepsAt : Dir → ℕ → ℕ → ℕ → (ℕ → ℕ → ℕ) → List ℕ → List ℕ → ℕ → ℕ → ℕ → Type 0
StepsAt dir width count p1 far before costs x d value =
    MatchOption (column_before dir width x) (value ≡ slice_index costs (x * count + d))
    (λ z. Follows (λ a. slice_index before (z * count + a)) count p1 (far z x)
    (slice_index costs (x * count + d)) d value)

-- each entry of a row is what the recurrence gives from the row before and the costs
abbrev pub RowFollows : Dir → ℕ → ℕ → (ℕ → ℕ → ℕ) → List ℕ → List ℕ → List ℕ → Type 0
RowFollows dir count p1 far before costs row =
    let width = length row / count in
    (x d : ℕ) → x < width → d < count
    → StepsAt dir width count p1 far before costs x d (slice_index row (x * count + d))

-- a call with this p1 penalty, this count and these costs is about the row y of the problem
pub record Suits (g : Problem) (y p1 count : ℕ) (costs : List ℕ) : Type 0 where
  pub same_count : g.count ≡ count
  pub same_p1 : g.p1 ≡ p1
  pub inside : y < g.height
  pub holds : HoldsRow g y g.cost costs

-- costs is a row of costs: count for each of the pixels that have these grey values
abbrev pub AreCosts : ℕ → List (Option ℕ) → List ℕ → Type 0
AreCosts count guide costs = (1 ≤ count) × (count ≤ MAX_COUNT) × (length costs % count ≡ 0)
    × (length guide ≡ length costs / count) × All (λ c. c ≤ MAX_COST) costs

-- before can be the row of path values that a direction comes from to a row of this size: it has
-- count of them for each of the pixels that have these grey values, and none is too great
abbrev pub CanComeBefore : ℕ → List (Option ℕ) → List ℕ → ℕ → Type 0
CanComeBefore count guide_before before size = (length before ≡ size)
    × (length guide_before ≡ size / count) × All (λ v. v ≤ MAX_PATH_VALUE) before

-- the penalty of a change by more than one from the column z to the column x of a row, where the
-- row has this guide and the row that the direction comes from has guide_before
abbrev pub far_between : Penalties → List (Option ℕ) → List (Option ℕ) → ℕ → ℕ → ℕ
far_between penalties guide guide_before z x = far_of penalties (slice_index_or guide x None)
    (slice_index_or guide_before z None)

-- far z x is the problem's penalty from the column z of the row before to the column x of the row y
pub record HasFar (g : Problem) (before y : ℕ) (far : ℕ → ℕ → ℕ) : Type 0 where
  pub each : (z x : ℕ) → z < g.width → x < g.width
      → g.far (pixel_at z before) (pixel_at x y) ≡ far z x

-- before holds the path values of the row from which the direction comes to the row y, and far is
-- the problem's penalty between the two
pub record HoldsRowBefore (g : Problem) (dir : Dir) (y : ℕ) (far : ℕ → ℕ
    → ℕ) (before : List ℕ) : Type 0 where
  pub row : ℕ
  pub comes_from : row_before dir g.height y ≡ Some row
  pub has_far : HasFar g row y far
  pub holds : HoldsRow g row (path_value g dir) before

-- what contracts see of one direction's pass over a row
pub record RowTerms : Type 0 where
  pub dir : Dir
  pub penalties : Penalties
  pub costs : List ℕ
  pub guide : List (Option ℕ)
  pub guide_before : List (Option ℕ)
  pub count : ℕ

abbrev pub terms_of : RowPass → RowTerms
terms_of row = record {
  dir = row.dir;
  penalties = penalties_of row.pen;
  costs = row.costs.now;
  guide = row.guide.now;
  guide_before = row.guide_before.now;
  count = row.count;
}

-- the penalty of a change by more than one from the column z of the row before to the column x of
-- the row
abbrev pub far_in : RowTerms → ℕ → ℕ → ℕ
far_in t = far_between t.penalties t.guide t.guide_before

-- value is that of the column x and the index d of the row that comes after the row before
abbrev pub EntryFollows : RowTerms → List ℕ → ℕ → ℕ → ℕ → Type 0
EntryFollows t before x d value =
    StepsAt t.dir (length t.guide) t.count t.penalties.p1 (far_in t) before t.costs x d value

-- Whether a row is gone through from its right end, so that it can take the place of the row that
-- it comes from: each value is written once no other needs the one that it replaces.
abbrev pub starts_right : Dir → Bool
starts_right Left = true
starts_right DownRight = true
starts_right UpRight = true
starts_right _ = false

-- the column that is the i-th to be gone through
abbrev pub column_at : Dir → ℕ → ℕ → ℕ
column_at dir width i = if starts_right dir then width - 1 - i else i

-- by how many columns the second of two rows stays behind the first where both are gone through at
-- once: its values come from those that the first was given last
abbrev pub lag_of : Dir → ℕ
lag_of Down = 0
lag_of Up = 0
lag_of _ = 1

-- the row that each entry comes from: in a level direction the row itself
abbrev pub row_from : Dir → List ℕ → List ℕ → List ℕ
row_from dir old new = if is_level dir then new else old

-- all entries stay but those of the pixel whose entries begin at this place
abbrev pub OthersStay : ℕ → ℕ → List ℕ → List ℕ → Type 0
OthersStay at count old new =
    (k : ℕ) → (k < at) ⊎ (at + count ≤ k) → slice_index new k ≡ slice_index old k

-- the pixel whose entries begin at this place has path values, none of which is too great
abbrev pub IsLowAt : ℕ → ℕ → List ℕ → Type 0
IsLowAt at count values = (d : ℕ) → d < count → slice_index values (at + d) ≤ MAX_PATH_VALUE

-- far is a penalty of a change by more than one
abbrev pub IsFarIn : RowTerms → ℕ → Type 0
IsFarIn t far = (t.penalties.p1 ≤ far) × (far ≤ MAX_PENALTY)

-- values is as long as the row, and spare has room for a pixel unless the direction is level
abbrev pub AreRows : RowTerms → List ℕ → List ℕ → Type 0
AreRows t values spare =
    (length values ≡ length t.costs) × (is_level t.dir ≡ false → t.count ≤ length spare)

-- the values of the pixel at this place can be added to its sums
abbrev pub CanAdd : RowTerms → ℕ → List ℕ → Type 0
CanAdd t at sums = (length sums ≡ length t.costs)
    × ((d : ℕ) → d < t.count → slice_index sums (at + d) + MAX_PATH_VALUE < 2 ^ 16)

-- so can those of the whole row
abbrev pub CanAddRow : RowTerms → List ℕ → Type 0
CanAddRow t sums = (length sums ≡ length t.costs)
    × EachIndex sums (λ k. slice_index sums k + MAX_PATH_VALUE < 2 ^ 16)

-- the values of the pixel at this place were added to its sums, and all other sums stay
abbrev pub AddsPixel : ℕ → ℕ → (ℕ → ℕ) → List ℕ → List ℕ → Type 0
AddsPixel at count values old new = OthersStay at count old new
    × ((d : ℕ) → d < count → slice_index new (at + d) ≡ slice_index old (at + d) + values d)

-- the values of the column x follow from the row before, and all others stay
abbrev pub ColumnFollows : RowTerms → ℕ → List ℕ → List ℕ → Type 0
ColumnFollows t x old new = OthersStay (x * t.count) t.count old new
    × ((d : ℕ) → d < t.count → EntryFollows t old x d (slice_index new (x * t.count + d)))

-- the values of the pixel at this place follow from those at another, and all others stay
abbrev pub FollowsAt : RowTerms → ℕ → ℕ → ℕ → List ℕ → List ℕ → Type 0
FollowsAt t far from at old new = OthersStay at t.count old new
    × ((d : ℕ) → d < t.count
    → Follows (λ a. slice_index old (from + a)) t.count t.penalties.p1 far
    (slice_index t.costs (at + d)) d (slice_index new (at + d)))

-- a row of path values came to the end, each of which follows from the row itself and none of which
-- is too great
pub record AppendsValues (t : RowTerms) (old new : List ℕ) : Type 0 where
  pub row : List ℕ
  pub added : new ≡ old ++ row
  pub whole : length row ≡ length t.costs
  pub low : All (λ v. v ≤ MAX_PATH_VALUE) row
  pub follows : RowFollows t.dir t.count t.penalties.p1 (far_in t) row t.costs row

-- the sums of the path values of both level directions of a row came to the end, whatever row of
-- whatever problem these costs belong to
pub record AppendsSums (p1 count : ℕ) (far : ℕ → ℕ → ℕ) (costs old new : List ℕ) : Type 0 where
  pub row : List ℕ
  pub added : new ≡ old ++ row
  pub holds : (g : Problem) (y : ℕ) → Suits g y p1 count costs → HasFar g y y far
      → HoldsRow g y (λ p d. path_value g Right p d + path_value g Left p d) row

-- value is that of the column x and the index d of a row, from the values prev of the pixel that
-- the direction comes from
abbrev pub EntryFrom : RowTerms → List ℕ → ℕ → ℕ → ℕ → Type 0
EntryFrom t prev x d value =
    MatchOption (column_before t.dir (length t.guide) x)
    (value ≡ slice_index t.costs (x * t.count + d))
    (λ z. Follows (slice_index prev) t.count t.penalties.p1 (far_in t z x)
    (slice_index t.costs (x * t.count + d)) d value)

-- two rows are gone through in one direction, with the same penalties
pub record AreAlike (t u : RowTerms) : Type 0 where
  pub dir : u.dir ≡ t.dir
  pub count : u.count ≡ t.count
  pub width : length u.guide ≡ length t.guide

-- Two rows came after one another: there is a row between, which follows from the row before and is
-- added to the first sums, and the row after follows from it and is added to the second.
pub record FollowsTwo (t u : RowTerms) (before after old new more more' : List ℕ) : Type 0 where
  pub between : List ℕ
  pub whole : length between ≡ length t.costs
  pub first : RowFollows t.dir t.count t.penalties.p1 (far_in t) before t.costs between
  pub second : RowFollows u.dir u.count u.penalties.p1 (far_in u) between u.costs after
  pub added : EachIndex new (λ k. slice_index new k ≡ slice_index old k + slice_index between k)
  pub more_added : EachIndex more'
      (λ k. slice_index more' k ≡ slice_index more k + slice_index after k)

-- The same of path values, whatever rows of whatever problem the costs belong to.
pub record PassesTwo (t u : RowTerms) (before after old new more more' : List ℕ) : Type 0 where
  pub between : List ℕ
  pub whole : length between ≡ length t.costs
  pub first : (g : Problem) (y : ℕ) → Suits g y t.penalties.p1 t.count t.costs
      → HoldsRowBefore g t.dir y (far_in t) before → HoldsRow g y (path_value g t.dir) between
  pub second : (g : Problem) (y : ℕ) → Suits g y u.penalties.p1 u.count u.costs
      → HoldsRowBefore g u.dir y (far_in u) between → HoldsRow g y (path_value g u.dir) after
  pub added : EachIndex new (λ k. slice_index new k ≡ slice_index old k + slice_index between k)
  pub more_added : EachIndex more'
      (λ k. slice_index more' k ≡ slice_index more k + slice_index after k)
