-- The rows of codes that are asked for.
use Rattle.std.specs.Prelude.{ℕ, ◌+◌, ◌*◌, List, Bool}
use Rattle.sgm_census.specs.Codes.{code_by}
use Rattle.sgm_census.specs.Packed.{AreBlank, HoldsAll}
use Rattle.sgm_census.specs.Windows.{greatest_of}
use Rattle.sgm_census.specs.declared.coding.Coding.{Coding}

-- their words and marks before they are written
abbrev pub AreUncoded : Coding → List ℕ → List Bool → Type 0
AreUncoded c = AreBlank (greatest_of c.window) (c.rows * c.plane.now.width)

-- and afterwards
abbrev pub AreCoded : Coding → List ℕ → List Bool → Type 0
AreCoded c =
    HoldsAll (greatest_of c.window) c.plane.now.width c.rows
    (λ x r. code_by c.rule c.plane.now c.window x (c.first + r))
