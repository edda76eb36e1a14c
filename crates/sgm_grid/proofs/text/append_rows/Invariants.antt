use Rattle.std.proofs.Common.{◌≡◌, ◌++◌, flat_map}
use Rattle.sgm_text.specs.Texts.{StartsAs}
use Rattle.sgm_grid.specs.Text.{first_rows, row_text}
use Rattle.sgm_grid.proofs.text.append_rows.Given as goal

abbrev pub invariant-loop-row : goal.invariant-loop-row
invariant-loop-row l = record {
  so_far : l.into.items ≡ l.initial.into.items ++ flat_map row_text (first_rows l.grid l.row);
  starts : StartsAs l.initial.into.items l.into.items;
}
