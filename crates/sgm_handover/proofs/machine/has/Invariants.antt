use Rattle.std.proofs.Common.{◌≢◌, ℕ, ◌<◌, slice_index_or, Some, None}
use Rattle.sgm_handover.proofs.machine.has.Given as goal

abbrev pub invariant-loop-i : goal.invariant-loop-i
invariant-loop-i l = (k : ℕ) → k < l.i → slice_index_or l.list k None ≢ Some l.worker
