use Rattle.std.proofs.Common.{◌≡◌, ℕ, ◌<◌, slice_index}
use Rattle.sgm_select.specs.Rows.{base_in}
use Rattle.sgm_select.proofs.indices.base_each.Given as goal

abbrev pub invariant-loop-x : goal.invariant-loop-x
invariant-loop-x l =
    record {
      each : (x : ℕ) → x < l.x → slice_index l.into x ≡ base_in l.sums l.count x;
      below : (x : ℕ) → x < l.x → slice_index l.into x < l.count;
    }
