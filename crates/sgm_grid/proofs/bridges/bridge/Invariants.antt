use Rattle.std.proofs.Common.{◌≡◌}
use Rattle.std.specs.Prelude.{All}
use Rattle.std.specs.Option.{ForSome}
use Rattle.sgm_base.specs.Values.{row_by_row}
use Rattle.sgm_grid.specs.Bridges.{bridged_at}
use Rattle.sgm_grid.specs.Cells.{IsHeight}
use Rattle.sgm_grid.proofs.bridges.bridge.Given as goal

-- the rows so far are there
abbrev pub invariant-loop-row : goal.invariant-loop-row
invariant-loop-row l = record {
  value : l.heights.items ≡ row_by_row l.grid.spec.cols l.row (bridged_at l.most l.grid);
  in_range : All (λ height. ForSome height IsHeight) l.heights.items;
}
