use Rattle.std.proofs.Common.{◌≡◌, ◌*◌, ◌≤◌}
use Rattle.sgm_base.specs.Ranges.{Within}
use Rattle.sgm_fine.specs.Windows.{number, sum_below}
use Rattle.sgm_fine.proofs.sums.total_of.Given as goal

abbrev pub invariant-loop-k : goal.invariant-loop-k
invariant-loop-k l = record {
  few : l.k ≤ 32;
  sum : l.sum ≡ sum_below l.k (number l.a);
  small : Within (l.k * 4096) l.sum;
}
