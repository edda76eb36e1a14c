use Rattle.std.proofs.Common.{◌≡◌, ℕ, ◌<◌, ◌≤◌, ◌%◌, ◌/◌, None, length, slice_index_or}
use Rattle.sgm_fine.specs.Windows.{value_around}
use Rattle.sgm_fine.proofs.around.Field.gather_across.Given as goal

-- the values before this one are gathered
abbrev pub invariant-loop-k : goal.invariant-loop-k
invariant-loop-k l = record {
  len : length l.window ≡ 25;
  few : l.k ≤ 25;
  each : (j : ℕ) → j < l.k → slice_index_or l.window j None ≡ value_around l.self 2 l.x l.y (j % 5) (j / 5);
}
