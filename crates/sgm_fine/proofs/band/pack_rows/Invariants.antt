use Rattle.std.proofs.Common.{◌≤◌}
use Rattle.sgm_fine.specs.Bands.{HoldsRows}
use Rattle.sgm_fine.proofs.band.pack_rows.Given as goal

-- the rows before this one are packed
abbrev pub invariant-loop-j : goal.invariant-loop-j
invariant-loop-j l = record {
  few : l.j ≤ 5;
  held : HoldsRows l.j l.band l.plane l.y;
}
