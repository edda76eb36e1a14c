use Rattle.std.proofs.Common.{◌≡◌, ◌*◌, ◌≤◌}
use Rattle.sgm_base.specs.Ranges.{Within}
use Rattle.sgm_fine.proofs.Totals.{products_below}
use Rattle.sgm_fine.proofs.sums.products_of.Given as goal

abbrev pub invariant-loop-k : goal.invariant-loop-k
invariant-loop-k l = record {
  few : l.k ≤ 32;
  sum : l.sum ≡ products_below l.k l.a l.b;
  small : Within (l.k * 16777216) l.sum;
}
