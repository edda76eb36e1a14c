use Rattle.std.proofs.Common.{◌≡◌, ℕ, ◌<◌, slice_index_or, None}
use Rattle.sgm_energy.specs.declared.dir.Dir.TheVariants.{Right}
use Rattle.sgm_energy.specs.Rays.{pixel_at}
use Rattle.sgm_refine.specs.Filling.{met_from}
use Rattle.sgm_refine.proofs.met.meet_right.Given as goal

-- the columns before this one are written, and what is met from this one is at hand
abbrev pub invariant-loop-x : goal.invariant-loop-x
invariant-loop-x l = record {
  done : (k : ℕ) → k < l.x → slice_index_or l.into k None ≡ met_from l.map (pixel_at k l.y) Right;
  next : l.x < l.map.width → l.last ≡ met_from l.map (pixel_at l.x l.y) Right;
}
