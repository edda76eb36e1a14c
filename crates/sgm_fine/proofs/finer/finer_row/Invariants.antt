use Rattle.std.proofs.Common.{◌≡◌, ℕ, ◌<◌, ◌≤◌, ◌-◌, ◌*◌, None, IfSome, slice_index_or}
use Rattle.std.specs.Prelude.{option_map}
use Rattle.sgm_base.specs.Values.{AtMost, value_at}
use Rattle.sgm_fine.specs.Finer.{finer_value}
use Rattle.sgm_fine.specs.Samples.{centre}
use Rattle.sgm_fine.proofs.finer.finer_row.Given as goal

-- the columns before this one are written
abbrev pub invariant-loop-x : goal.invariant-loop-x
invariant-loop-x l = record {
  value : (k : ℕ) → k < l.x → slice_index_or l.into k None
      ≡ option_map (λ value. finer_value l.fn.span.count (centre l.left l.right l.map l.fn.span.first k l.y value)) (value_at l.map k l.y);
  bound : AtMost (16 * (l.fn.span.count - 1)) l.map.entries → (k : ℕ) → k < l.x → IfSome (slice_index_or l.into k None) (λ m. m ≤ 16 * (l.fn.span.count - 1));
}
