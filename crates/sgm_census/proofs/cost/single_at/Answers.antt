use Rattle.std.proofs.Common.{◌≡◌, arith, length, ap, ap₂, ◌∙◌}
use Rattle.sgm_census.specs.Windows.{WindowSides, greatest_of}
use Rattle.sgm_census.specs.Costs.{missing_cost}
use Rattle.sgm_census.proofs.CostRows.{single_cost-read, single_cost-le_row}
use Rattle.sgm_census.proofs.cost.single_at.Goals as goal

pub returns-clause-cost : goal.returns-clause-cost
returns-clause-cost c =
    let left = c.args.left.now in
    let bits : c.scale_of-scale.result.bits ≡ greatest_of left.window = c.scale_of-scale.ensures.bits ∙ ap (λ (w : WindowSides). greatest_of w) c.window.ensures in
    let missing : c.scale_of-scale.result.missing ≡ missing_cost left.rule left.window = c.scale_of-scale.ensures.missing ∙ ap₂ missing_cost c.rule.ensures c.window.ensures in
    c.cost_index.ensures
    ∙ single_cost-read left c.args.right.now c.args.span.first c.args.x c.args.y c.args.d c.scale_of-scale.result.bits c.scale_of-scale.result.missing (length c.row-left.result.words.now) c.row-left.result.words.now c.row-right.result.words.now c.row-left.result.present.now c.row-right.result.present.now
    bits missing c.row-left.ensures.words_full c.row-left.ensures c.row-right.ensures c.requires.same_width c.requires.same_window c.requires.column

pub returns-clause-most : goal.returns-clause-most
returns-clause-most c =
    let left = c.args.left.now in
    let bits : c.scale_of-scale.result.bits ≡ greatest_of left.window = c.scale_of-scale.ensures.bits ∙ ap (λ (w : WindowSides). greatest_of w) c.window.ensures in
    omega (
      arith,
      returns-clause-cost c,
      bits,
      c.scale_of-scale.ensures.most.0,
      single_cost-le_row left c.args.right.now c.args.span.first c.args.x c.args.y c.args.d c.row-left.result.words.now c.row-left.result.present.now c.row-left.ensures c.requires.column,
    )
