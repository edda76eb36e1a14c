use Rattle.std.proofs.Common.{◌≡◌, ℕ, ◌<◌, false, None, slice_index_or}
use Rattle.sgm_energy.specs.Rays.{pixel_at}
use Rattle.sgm_refine.specs.Filling.{filled_value}
use Rattle.sgm_refine.proofs.filling.fill_row.Given as goal

-- the columns before this one are written
abbrev pub invariant-loop-x : goal.invariant-loop-x
invariant-loop-x l = (k : ℕ) → k < l.x → slice_index_or l.into k None ≡ filled_value l.from.map.now l.from.left.now (slice_index_or l.marks k false) (pixel_at k l.met.y)
