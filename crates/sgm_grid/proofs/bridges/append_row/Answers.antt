use Rattle.std.proofs.Common.{ap, ◌∙◌, ◌++◌, ◌≡◌, ℕ, map, arith}
use Rattle.std.specs.List.{range_with_len}
use Rattle.sgm_grid.specs.declared.grid_spec.GridSpec.{GridSpec}
use Rattle.sgm_grid.specs.Bridges.{bridged_at}
use Rattle.sgm_grid.specs.Cells.{IsHeight}
use Rattle.sgm_grid.proofs.CellRows.{all_more, all_same, cells_more, none_yet}
use Rattle.sgm_grid.proofs.bridges.append_row.Goals as goal

pub loop-col-init : goal.loop-col-init
loop-col-init c = record { value = none_yet c.args.into.now.items; in_range = c.requires.in_range }

pub returns-in_err-push-clause-in_range : goal.returns-in_err-push-clause-in_range
returns-in_err-push-clause-in_range c = all_same IsHeight c.loop-col.into.items c.push.new.self.items c.loop-col.invariant.in_range c.in_err-push.ensures.items

pub loop-col-preserved : goal.loop-col-preserved
loop-col-preserved c =
    let new = c.push.new.self.items in
    record {
      value = cells_more (λ col. bridged_at c.args.most c.args.grid.now col c.args.row) c.args.into.now.items c.loop-col.into.items new c.loop-col.col c.bridged_at.result
          c.loop-col.invariant.value c.in_ok-push.ensures.items c.bridged_at.ensures.value;
      in_range = all_more IsHeight c.loop-col.into.items new c.bridged_at.result c.loop-col.invariant.in_range c.in_ok-push.ensures.items c.bridged_at.ensures.in_range;
    }

pub returns-clause-value : goal.returns-clause-value
returns-clause-value c =
    let last : c.loop-col.col ≡ c.args.grid.now.spec.cols = omega (arith, ap (λ (s : GridSpec). s.cols) c.spec-col-end.ensures.spec) in
    c.loop-col.invariant.value ∙ ap (λ (n : ℕ). c.args.into.now.items ++ map (λ col. bridged_at c.args.most c.args.grid.now col c.args.row) (range_with_len 0 n)) last

pub returns-clause-in_range : goal.returns-clause-in_range
returns-clause-in_range c = c.loop-col.invariant.in_range
