use Rattle.std.proofs.Common.{◌≡◌, ℕ, ◌+◌, ◌*◌, ◌<◌, slice_index_or, None}
use Rattle.sgm_energy.specs.declared.dir.Dir.TheVariants.{Right}
use Rattle.sgm_energy.specs.Rays.{pixel_at}
use Rattle.sgm_refine.specs.declared.met.TheConstants.{DOWNWARDS}
use Rattle.sgm_refine.specs.Filling.{met_from}
use Rattle.sgm_refine.proofs.met.carry_down.Given as goal

-- the rows before this one are written
abbrev pub invariant-loop-i : goal.invariant-loop-i
invariant-loop-i l =
    l.y + 1 < l.map.height → (r x : ℕ) → r < l.i → x < l.map.width
    → slice_index_or l.into (r * l.map.width + x) None ≡ met_from l.map (pixel_at x (l.y + 1)) (slice_index_or DOWNWARDS r Right)
