use Rattle.std.proofs.Common.{◌≡◌, ◌∷◌, length}
use Rattle.std.specs.Vec.Iter.{into_iter_items, into_iter_len}
use Rattle.sgm_batch.specs.Batches.{AreAllOf, IsDone}
use Rattle.sgm_batch.proofs.batch.gather.Given as goal

-- it and the workers that are left are all
abbrev pub invariant-loop-other : goal.invariant-loop-other
invariant-loop-other l = record {
  done : IsDone l.job l.whole;
  all : AreAllOf l.job (l.whole ∷ into_iter_items l.other-iterator);
  left : into_iter_len l.other-iterator ≡ length (into_iter_items l.other-iterator);
}
