use Rattle.std.proofs.Common.{◌≡◌, ◌*◌, ◌<◌, ◌≤◌}
use Rattle.sgm_fine.proofs.Nearby.{count_near, sum_near}
use Rattle.sgm_fine.proofs.means.tally_near.Given as goal

-- the values of the places before this one are added; the fifth place is the pixel's own
abbrev pub invariant-loop-k : goal.invariant-loop-k
invariant-loop-k g l = record {
  few : l.k ≤ 9;
  sum : l.tally.sum ≡ sum_near l.map l.x l.y l.m l.k;
  number : l.tally.number ≡ count_near l.map l.x l.y l.m l.k;
  most : l.tally.sum ≤ 65535 * l.tally.number;
  fewer : l.tally.number ≤ l.k;
  some : 4 < l.k → 0 < l.tally.number;
}
