use Rattle.std.proofs.Common.{◌≡◌, ◌++◌}
use Rattle.sgm_text.specs.Texts.{StartsAs}
use Rattle.sgm_change.specs.Texts.{rows_text}
use Rattle.sgm_change.proofs.difference.append_rows.Given as goal

abbrev pub invariant-loop-row : goal.invariant-loop-row
invariant-loop-row l = record {
  so_far : l.into.items ≡ l.initial.into.items ++ rows_text l.earlier l.later l.row;
  starts : StartsAs l.initial.into.items l.into.items;
}
