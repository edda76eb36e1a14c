use Rattle.std.proofs.Common.{arith}
use Rattle.std.proofs.lemmas.Int.{ints, clamps}
use Rattle.sgm_grid.specs.Cells.{IsHeight}
use Rattle.sgm_grid.proofs.grid.higher.Goals as goal

pub returns-in-Some-clause-value : goal.returns-in-Some-clause-value
returns-in-Some-clause-value c = rw c.in-Some.is (omega (arith, ints, clamps))

pub returns-in-Some-clause-in_range : goal.returns-in-Some-clause-in_range
returns-in-Some-clause-in_range c = λ kept height.
    let held : IsHeight c.in-Some.held = kept c.in-Some.held c.in-Some.is in
    (omega (arith, ints, clamps), omega (arith, ints, clamps))
