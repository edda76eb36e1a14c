use Rattle.std.proofs.Common.{◌≡◌, ◌+◌, length}
use Rattle.sgm_merge.proofs.SharedRows.{AddedTo}
use Rattle.sgm_merge.proofs.merge.add_cells.Given as goal

-- the rows before this one were added
abbrev pub invariant-loop-index : goal.invariant-loop-index
invariant-loop-index l = record {
  len : length l.tallies ≡ length l.fn.tallies;
  cells : AddedTo l.spec l.entry l.fn.tallies l.tallies (l.rows.first + l.index);
}
