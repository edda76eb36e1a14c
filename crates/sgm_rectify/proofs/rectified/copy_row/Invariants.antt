use Rattle.std.proofs.Common.{◌≡◌, ℕ, ◌+◌, ◌*◌, ◌<◌, None, Some, slice_index, slice_index_or}
use Rattle.sgm_rectify.proofs.rectified.copy_row.Given as goal

abbrev pub invariant-loop-x : goal.invariant-loop-x
invariant-loop-x l = (k : ℕ) → k < l.x → slice_index_or l.into k None ≡ Some (slice_index l.fn.image.samples (l.fn.y * l.fn.image.width + k))
