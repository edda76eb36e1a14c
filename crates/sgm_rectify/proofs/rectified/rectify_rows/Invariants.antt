use Rattle.std.proofs.Common.{◌≡◌, ℕ, ◌+◌, ◌*◌, ◌/◌, ◌%◌, ◌<◌, None, slice_index_or}
use Rattle.sgm_rectify.specs.Rectified.{rectified}
use Rattle.sgm_rectify.proofs.rectified.rectify_rows.Given as goal

abbrev pub invariant-loop-row : goal.invariant-loop-row
invariant-loop-row l =
    (k : ℕ) → k < l.row * l.fn.image.width → slice_index_or l.into k None
    ≡ rectified l.fn.image l.fn.warp (k % l.fn.image.width) (l.fn.start / l.fn.image.width + k / l.fn.image.width)
