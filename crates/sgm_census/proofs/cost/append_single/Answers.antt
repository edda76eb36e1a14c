use Rattle.std.proofs.Common.{◌≡◌, ◌<◌, length, ap, ap₂, ◌∙◌, arith}
use Rattle.sgm_census.specs.Windows.{WindowSides, greatest_of}
use Rattle.sgm_census.specs.Costs.{missing_cost, single_cost}
use Rattle.sgm_census.proofs.CostRows.{single_cost-read, single_cost-le_row}
use Rattle.sgm_census.proofs.Appended.{appends_more}
use Rattle.sgm_census.proofs.cost.append_single.Goals as goal

pub loop-x-preserved : goal.loop-x-preserved
loop-x-preserved c =
    let left = c.args.left.now in
    let right = c.args.right.now in
    let x = c.loop-x.x in
    let y = c.args.y in
    let bits : c.scale_of-scale.result.bits ≡ greatest_of left.window = c.scale_of-scale.ensures.bits ∙ ap (λ (w : WindowSides). greatest_of w) c.window.ensures in
    let missing : c.scale_of-scale.result.missing ≡ missing_cost left.rule left.window = c.scale_of-scale.ensures.missing ∙ ap₂ missing_cost c.rule.ensures c.window.ensures in
    let inside : x < left.width = omega (arith, c.row-left.ensures.words_full) in
    let long : length c.cost_pixel.new.into ≡ c.args.span.count = omega (arith, c.cost_pixel.auto.into, c.loop-x.invariant.cells_length) in
    record {
      cells_length = long;
      appends = appends_more x c.args.span.count (λ z d. single_cost left right c.args.span.first z y d) c.args.into.now.items c.loop-x.into.items c.extend_from_slice.new.self.items c.cost_pixel.new.into
          c.loop-x.invariant.appends c.in_ok-extend_from_slice.ensures.items long
          (λ d k. c.cost_pixel.ensures d k
          ∙ single_cost-read left right c.args.span.first x y d c.scale_of-scale.result.bits c.scale_of-scale.result.missing (length c.row-left.result.words.now) c.row-left.result.words.now c.row-right.result.words.now c.row-left.result.present.now c.row-right.result.present.now
          bits missing c.row-left.ensures.words_full c.row-left.ensures c.row-right.ensures c.requires.same_width c.requires.same_window inside)
          (λ d k. omega (arith, bits, c.scale_of-scale.ensures.most.0, single_cost-le_row left right c.args.span.first x y d c.row-left.result.words.now c.row-left.result.present.now c.row-left.ensures inside));
    }
