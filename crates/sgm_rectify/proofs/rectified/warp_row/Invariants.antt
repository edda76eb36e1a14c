use Rattle.std.proofs.Common.{◌≡◌, ℕ, ◌<◌, None, slice_index_or}
use Rattle.sgm_rectify.specs.Rectified.{rectified}
use Rattle.sgm_rectify.proofs.rectified.warp_row.Given as goal

abbrev pub invariant-loop-x : goal.invariant-loop-x
invariant-loop-x l = (k : ℕ) → k < l.x → slice_index_or l.into k None ≡ rectified l.fn.image l.fn.warp k l.fn.y
