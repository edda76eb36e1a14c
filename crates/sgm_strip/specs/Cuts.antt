-- How the rows of an image are cut into strips.
use Rattle.std.specs.Prelude.{ℕ, ◌+◌, ◌-◌, ◌*◌, ◌/◌, ◌≤◌, if◌then◌else◌}
use Rattle.sgm_base.specs.declared.limits.TheConstants.{MAX_SIDE, MAX_STRIPS}
use Rattle.sgm_energy.specs.declared.dir.Dir.{Dir}
use Rattle.sgm_energy.specs.Dirs.{goes_down}

-- what contracts see of a cut: the rows of the image, and the number of strips
pub record CutParts : Type 0 where
  pub height : ℕ
  pub strips : ℕ

-- what every cut keeps: each strip has a row
pub record IsCut (cut : CutParts) : Type 0 where
  pub some : 1 ≤ cut.strips
  pub most : cut.strips ≤ MAX_STRIPS
  pub filled : cut.strips ≤ cut.height
  pub high : cut.height ≤ MAX_SIDE

-- the row at which a strip begins, from the image's top
unfoldable pub first_row : CutParts → ℕ → ℕ
first_row cut strip = strip * cut.height / cut.strips

-- how many rows it has: those up to where the next one begins
abbrev pub rows_of : CutParts → ℕ → ℕ
rows_of cut strip = first_row cut (strip + 1) - first_row cut strip

-- the last of its rows to which a direction comes: the lowest or the highest
abbrev pub last_row : CutParts → Dir → ℕ → ℕ
last_row cut dir strip = if goes_down dir then first_row cut (strip + 1) - 1
    else first_row cut strip
