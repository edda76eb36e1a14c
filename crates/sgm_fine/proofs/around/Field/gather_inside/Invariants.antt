use Rattle.std.proofs.Common.{◌≡◌, ℕ, ◌*◌, ◌<◌, ◌≤◌, ◌%◌, ◌/◌, None, length, slice_index_or}
use Rattle.sgm_fine.specs.Windows.{value_around}
use Rattle.sgm_fine.proofs.around.Field.gather_inside.Given as goal

-- the values of the rows before this one are gathered
abbrev pub invariant-loop-j : goal.invariant-loop-j
invariant-loop-j l = record {
  len : length l.window ≡ 25;
  few : l.j ≤ 5;
  each : (k : ℕ) → k < 5 * l.j → slice_index_or l.window k None ≡ value_around l.self 2 l.x l.y (k % 5) (k / 5);
}
