use Rattle.std.proofs.Common.{◌+◌}
use Rattle.sgm_census.specs.Codes.{code_by}
use Rattle.sgm_census.proofs.CodeRows.{HoldsRows}
use Rattle.sgm_census.proofs.rows.coded_rows.Given as goal

abbrev pub invariant-loop-r : goal.invariant-loop-r
invariant-loop-r l =
    let coding = l.fn.coding in
    HoldsRows coding.plane.now coding.window (λ x r. code_by coding.rule coding.plane.now coding.window x (coding.first + r)) l.words l.present l.r
