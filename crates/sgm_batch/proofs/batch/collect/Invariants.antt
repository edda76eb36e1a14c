use Rattle.std.proofs.Common.{◌≡◌, ◌≤◌, Some, map, vec_capacity, vec_len}
use Rattle.sgm_batch.specs.Batches.{AreAll}
use Rattle.sgm_batch.proofs.batch.collect.Given as goal

-- the pieces so far, and none of the places left is empty
abbrev pub invariant-loop-piece : goal.invariant-loop-piece
invariant-loop-piece l = record {
  room : vec_len l.fn.places ≤ vec_capacity l.pieces;
  so_far : map Some l.pieces.items ≡ l.yielded;
  left : AreAll l.piece-iterator.rest.items;
}
