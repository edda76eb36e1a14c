use Rattle.std.proofs.Common.{◌≡◌, ℕ, ◌+◌, ◌*◌, ◌<◌, ◌≤◌}
use Rattle.sgm_fine.specs.Bands.{HoldsGathered, IsGathered}
use Rattle.sgm_fine.proofs.whole.gather_right.Given as goal

-- the rows before this one are gathered
abbrev pub invariant-loop-j : goal.invariant-loop-j
invariant-loop-j l = record {
  few : l.j ≤ 5;
  each : (k : ℕ) → k < 5 * l.j → HoldsGathered l.gathered l.right l.lie k;
  left : l.gathered.left ≡ l.initial.gathered.left;
  rest : IsGathered l.gathered;
}

-- and of this one the columns before
abbrev pub invariant-loop-i : goal.invariant-loop-i
invariant-loop-i l = record {
  row : l.j < 5;
  few : l.i ≤ 5;
  each : (k : ℕ) → k < 5 * l.j + l.i → HoldsGathered l.gathered l.right l.lie k;
  left : l.gathered.left ≡ l.initial.gathered.left;
  rest : IsGathered l.gathered;
}
