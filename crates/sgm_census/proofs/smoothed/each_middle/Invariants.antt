use Rattle.std.proofs.Common.{◌≡◌, ℕ, ◌<◌, slice_index, Some}
use Rattle.sgm_base.specs.Values.{value_at}
use Rattle.sgm_census.specs.Codes.{middle_at}
use Rattle.sgm_census.proofs.smoothed.each_middle.Given as goal

abbrev pub invariant-loop-x : goal.invariant-loop-x
invariant-loop-x l = (z own : ℕ) → z < l.x → value_at l.plane z l.fn.y ≡ Some own → slice_index l.into z ≡ middle_at l.plane z l.fn.y own
