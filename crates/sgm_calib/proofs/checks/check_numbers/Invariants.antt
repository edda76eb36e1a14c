use Rattle.std.proofs.Common.{◌≡◌, map, drop}
use Rattle.serde_json.specs.View.{view}
use Rattle.sgm_calib.specs.Rows.{meant}
use Rattle.sgm_calib.specs.Checks.{wholes_fault}
use Rattle.sgm_calib.proofs.checks.check_numbers.Given as goal

-- no earlier key has a fault
abbrev pub invariant-loop-row : goal.invariant-loop-row
invariant-loop-row l =
    wholes_fault l.place (view l.object) (map meant l.rows) ≡ wholes_fault l.place (view l.object) (map meant (drop l.row-index l.rows))
