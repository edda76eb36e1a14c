-- How a direction goes through the rows of a strip. No public clause speaks of this.
use Rattle.std.specs.Prelude.{◌≡◌, ℕ, ◌+◌, ◌-◌, ◌*◌, ◌<◌, ◌≤◌, ◌⊎◌, Bool, List, ◌++◌, length}
use Rattle.std.specs.Prelude.{slice_index, if◌then◌else◌, MatchBool, Some, None, All}
use Rattle.sgm_base.specs.declared.limits.TheConstants.{MAX_PATH_VALUE}
use Rattle.sgm_base.specs.Values.{Values, value_at}
use Rattle.sgm_energy.specs.declared.dir.Dir.{Dir}
use Rattle.sgm_energy.specs.Dirs.{goes_down}
use Rattle.sgm_energy.specs.Energies.{path_value}
use Rattle.sgm_energy.specs.Pens.{Penalties, far_of}
use Rattle.sgm_energy.specs.Rays.{Pixel, Problem, row_before}
use Rattle.sgm_energy.specs.Rows.{HoldsRow}
use Rattle.sgm_path.specs.Paths.{far_in, HasFar, RowTerms, Suits}
use Rattle.sgm_strip.specs.Volumes.{HoldsRows}

-- which row of a strip is the i-th to which a direction comes: from its top downwards, or from its
-- bottom upwards
abbrev pub visited : Dir → ℕ → ℕ → ℕ
visited dir rows i = if goes_down dir then i else rows - (i + 1)

-- a call with these penalties, this guide, this count, this length of a row and these costs is
-- about so many rows of the problem, from the row top on
pub record SuitsRows (g : Problem) (top rows : ℕ) (penalties : Penalties) (guide : Values)
    (count row : ℕ) (costs : List ℕ) : Type 0 where
  pub same_count : g.count ≡ count
  pub same_row : g.width * g.count ≡ row
  pub same_p1 : g.p1 ≡ penalties.p1
  pub same_far : (q p : Pixel)
      → g.far q p ≡ far_of penalties (value_at guide p.x p.y) (value_at guide q.x q.y)
  pub same_width : g.width ≡ guide.width
  pub same_height : g.height ≡ guide.height
  pub inside : top + rows ≤ g.height
  pub holds : HoldsRows g top rows g.cost costs

-- The same of the row y alone. far z x is the penalty of a change by more than one from the column
-- z of the row from which the direction comes, where the image has one, to the column x.
pub record SuitsRow (g : Problem) (dir : Dir) (y p1 count : ℕ) (far : ℕ → ℕ
    → ℕ) (costs : List ℕ) : Type 0 where
  pub suits : Suits g y p1 count costs
  pub has_far : (before : ℕ) → row_before dir g.height y ≡ Some before → HasFar g before y far

-- before holds the path values of the row from which the direction comes to the row y
pub record HoldsBefore (g : Problem) (dir : Dir) (y : ℕ) (before : List ℕ) : Type 0 where
  pub row : ℕ
  pub comes_from : row_before dir g.height y ≡ Some row
  pub holds : HoldsRow g row (path_value g dir) before

-- where the direction has begun, before holds the path values of the row from which it comes to the
-- row y, and otherwise it begins there
abbrev pub ComesBefore : Problem → Dir → ℕ → Bool → List ℕ → Type 0
ComesBefore g dir y begun before =
    MatchBool begun (HoldsBefore g dir y before) (row_before dir g.height y ≡ None)

-- a row of so many path values, each within its limit
pub record IsPathRow (entries : ℕ) (row : List ℕ) : Type 0 where
  pub whole : length row ≡ entries
  pub low : All (λ v. v ≤ MAX_PATH_VALUE) row

-- the values of a row are added to the sums from a place on, and all other sums stay
pub record AddsAt (at : ℕ) (row old new : List ℕ) : Type 0 where
  pub each : (k : ℕ) → k < length row
      → slice_index new (at + k) ≡ slice_index old (at + k) + slice_index row k
  pub others : (k : ℕ) → (k < at) ⊎ (at + length row ≤ k)
      → slice_index new k ≡ slice_index old k

-- a row that has the value f p d of each pixel p of the row y and each index d came to the end
pub record AddsRow (g : Problem) (y : ℕ) (f : Pixel → ℕ → ℕ) (old new : List ℕ) : Type 0 where
  pub row : List ℕ
  pub added : new ≡ old ++ row
  pub holds : HoldsRow g y f row

-- The values of two rows after one another are added to the sums, each from a place on: there are a
-- row between, which is the first's, and the sums to which it alone was added.
pub record AddsTwo (t u : RowTerms) (at at' : ℕ) (before after old new : List ℕ) : Type 0 where
  pub between : List ℕ
  pub middle : List ℕ
  pub whole : length between ≡ length after
  pub adds : AddsAt at between old middle
  pub adds_more : AddsAt at' after middle new
  pub paths : (g : Problem) (y : ℕ) → SuitsRow g t.dir y t.penalties.p1 t.count (far_in t) t.costs
      → HoldsBefore g t.dir y before → HoldsRow g y (path_value g t.dir) between
  pub paths_more : (g : Problem) (y : ℕ)
      → SuitsRow g u.dir y u.penalties.p1 u.count (far_in u) u.costs
      → HoldsBefore g u.dir y between → HoldsRow g y (path_value g u.dir) after
