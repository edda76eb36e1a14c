use Rattle.std.proofs.Common.{◌≡◌, ℕ, ◌<◌, None, slice_index_or}
use Rattle.std.specs.Prelude.{option_map}
use Rattle.sgm_base.specs.Values.{value_at}
use Rattle.sgm_fine.specs.Means.{mean_value}
use Rattle.sgm_fine.proofs.means.mean_row.Given as goal

-- the columns before this one are written
abbrev pub invariant-loop-x : goal.invariant-loop-x
invariant-loop-x l = (k : ℕ) → k < l.x → slice_index_or l.into k None ≡ option_map (mean_value l.map k l.y) (value_at l.map k l.y)
