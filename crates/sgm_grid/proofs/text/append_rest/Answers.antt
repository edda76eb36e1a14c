use Rattle.std.proofs.Common.{◌∙◌, take}
use Rattle.sgm_grid.specs.Text.{after_spaces}
use Rattle.sgm_text.proofs.Beginnings.{on_err, starts_more, starts_with}
use Rattle.sgm_grid.proofs.Rows.{heights_more}
use Rattle.sgm_grid.proofs.text.append_rest.Goals as goal

pub loop-height-preserved : goal.loop-height-preserved
loop-height-preserved c =
    heights_more c.args.heights.now c.loop-height.height-index c.args.into.now.items c.loop-height.into.items c.extend_from_slice.new.self.items c.append_height.new.into.items
    c.loop-height-test.true c.loop-height.invariant c.in_ok-extend_from_slice.ensures.items c.in_ok-append_height.ensures.ok

pub returns-in_err-extend_from_slice-clause-err : goal.returns-in_err-extend_from_slice-clause-err
returns-in_err-extend_from_slice-clause-err c =
    let added = after_spaces (take c.loop-height.height-index c.args.heights.now) in
    on_err c.from_residual.result (starts_with c.args.into.now.items c.extend_from_slice.new.self.items added (c.in_err-extend_from_slice.ensures.items ∙ c.loop-height.invariant))

pub returns-in_err-append_height-clause-err : goal.returns-in_err-append_height-clause-err
returns-in_err-append_height-clause-err c =
    let first = c.args.into.now.items in
    let added = after_spaces (take c.loop-height.height-index c.args.heights.now) in
    on_err c.from_residual-in_err-append_height.result
    (starts_more first c.loop-height.into.items c.append_height.new.into.items _ (starts_with first c.loop-height.into.items added c.loop-height.invariant)
    (c.in_err-append_height.ensures.err ∙ c.in_ok-extend_from_slice.ensures.items))
