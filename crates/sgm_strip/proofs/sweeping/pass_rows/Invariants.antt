use Rattle.std.proofs.Common.{◌≡◌, ◌-◌, ◌≤◌, length}
use Rattle.std.specs.Prelude.{All}
use Rattle.sgm_base.specs.declared.limits.TheConstants.{MAX_PATH_VALUE}
use Rattle.sgm_energy.specs.Pens.{penalties_of}
use Rattle.sgm_strip.proofs.Sweep.{Visited}
use Rattle.sgm_strip.proofs.sweeping.pass_rows.Given as goal

abbrev pub invariant-loop-i : goal.invariant-loop-i
invariant-loop-i l =
    record {
      row : l.row ≡ length l.fn.last;
      within : l.i ≤ l.rows;
      bound : All (λ v. v ≤ MAX_PATH_VALUE) l.last;
      visited : Visited l.dir l.strip.top l.rows (penalties_of l.strip.pen) l.strip.guide.now l.strip.count l.row l.strip.costs.now l.begun l.i l.fn.last l.last l.fn.sums l.sums;
    }

abbrev pub decreases-loop-i : goal.decreases-loop-i
decreases-loop-i l = l.rows - l.i
