use Rattle.std.proofs.Common.{◌≡◌, ℕ, ◌-◌, ◌<◌, ◌≤◌, slice_index_or, None}
use Rattle.sgm_energy.specs.declared.dir.Dir.TheVariants.{Left}
use Rattle.sgm_energy.specs.Rays.{pixel_at}
use Rattle.sgm_refine.specs.Filling.{met_from}
use Rattle.sgm_refine.proofs.met.meet_left.Given as goal

-- the columns behind this one are written, and what is met from this one is at hand
abbrev pub invariant-loop-k : goal.invariant-loop-k
invariant-loop-k l = record {
  done : (x : ℕ) → l.width - l.k ≤ x → x < l.width → slice_index_or l.into x None ≡ met_from l.map (pixel_at x l.y) Left;
  next : l.k < l.width → l.last ≡ met_from l.map (pixel_at (l.width - 1 - l.k) l.y) Left;
}
