use Rattle.std.proofs.Common.{◌≡◌, ◌++◌, map}
use Rattle.std.specs.Prelude.{All}
use Rattle.std.specs.List.{range_with_len}
use Rattle.std.specs.Option.{ForSome}
use Rattle.sgm_grid.specs.Bridges.{bridged_at}
use Rattle.sgm_grid.specs.Cells.{IsHeight}
use Rattle.sgm_grid.proofs.bridges.append_row.Given as goal

-- the cells so far are there
abbrev pub invariant-loop-col : goal.invariant-loop-col
invariant-loop-col l = record {
  value : l.into.items ≡ l.fn.into.items ++ map (λ col. bridged_at l.most l.grid col l.row) (range_with_len 0 l.col);
  in_range : All (λ height. ForSome height IsHeight) l.into.items;
}
