use Rattle.std.proofs.Common.{◌≡◌, ℕ, ◌<◌, length, slice_index_or, None}
use Rattle.sgm_energy.specs.Rays.{column_before}
use Rattle.sgm_refine.specs.Met.{carried_from}
use Rattle.sgm_refine.proofs.met.carry_row.Given as goal

-- the columns before this one are written
abbrev pub invariant-loop-x : goal.invariant-loop-x
invariant-loop-x l = (k : ℕ) → k < l.x → slice_index_or l.into k None ≡ carried_from l.values l.carried (column_before l.dir (length l.values) k)
