use Rattle.std.proofs.lemmas.Nat.{mul-le}
use Rattle.sgm_census.specs.Packed.{HoldsSmall}
use Rattle.std.proofs.Common.{◌≡◌, ◌*◌, ◌<◌, ◌≤◌, length, take, ap, ap₂, ◌∙◌, arith, sym, subst}
use Rattle.std.proofs.lemmas.List.Elements.{All-from_get_or}
use Rattle.sgm_base.specs.Disparities.{Disparities}
use Rattle.sgm_census.specs.Windows.{WindowSides, greatest_of}
use Rattle.sgm_census.specs.Costs.{missing_cost, single_cost}
use Rattle.sgm_census.proofs.CostRows.{single_cost-read, single_cost-le_row, costs_more, each_entry}
use Rattle.sgm_census.proofs.cost.single_row.Goals as goal

pub loop-x-preserved : goal.loop-x-preserved
loop-x-preserved c =
    let left = c.args.left.now in
    let right = c.args.right.now in
    let count = c.args.span.count in
    let x = c.loop-x.x in
    let y = c.args.y in
    let counted : c.span.inside.count ≡ count = ap (λ (s : Disparities). s.count) c.span.view_is in
    let times : x * c.span.inside.count ≡ x * count = ap (λ n. x * n) counted in
    let bits : c.scale_of-scale.result.bits ≡ greatest_of left.window = c.scale_of-scale.ensures.bits ∙ ap (λ (w : WindowSides). greatest_of w) c.window.ensures in
    let missing : c.scale_of-scale.result.missing ≡ missing_cost left.rule left.window = c.scale_of-scale.ensures.missing ∙ ap₂ missing_cost c.rule.ensures c.window.ensures in
    let inside : x < left.width = omega (arith, c.row-left.ensures.words_full) in
    record {
      each = costs_more count x c.loop-x.into c.split_at_mut-rest.result.0.now c.cost_pixel.new.into c.split_at_mut-cells.result.1.now (λ z d. single_cost left right c.args.span.first z y d)
          (c.split_at_mut-rest.ensures.front ∙ ap (λ n. take n c.loop-x.into) times) (c.split_at_mut-rest.ensures.front_len ∙ times) (omega arith) c.loop-x.invariant.each
          (λ d k. c.cost_pixel.ensures d k
          ∙ single_cost-read left right c.args.span.first x y d c.scale_of-scale.result.bits c.scale_of-scale.result.missing (length c.row-left.result.words.now) c.row-left.result.words.now c.row-right.result.words.now c.row-left.result.present.now c.row-right.result.present.now
          bits missing c.row-left.ensures.words_full c.row-left.ensures c.row-right.ensures c.requires.same_width c.requires.same_window inside);
    }

pub returns-clause-most : goal.returns-clause-most
returns-clause-most c =
    let left = c.args.left.now in
    let right = c.args.right.now in
    let count = c.args.span.count in
    let y = c.args.y in
    let counted : c.span.inside.count ≡ count = ap (λ (s : Disparities). s.count) c.span.view_is in
    let bits : c.scale_of-scale.result.bits ≡ greatest_of left.window = c.scale_of-scale.ensures.bits ∙ ap (λ (w : WindowSides). greatest_of w) c.window.ensures in
    All-from_get_or (λ v. v ≤ 62) c.loop-x.into 0
    (each_entry (λ v. v ≤ 62) left.width count c.loop-x.into (omega arith) (omega (arith, c.span.invariant))
    (λ x d h k. omega (
      arith,
      c.loop-x.invariant.each x d (omega (arith, c.row-left.ensures.words_full)) k,
      bits,
      c.scale_of-scale.ensures.most.0,
      single_cost-le_row left right c.args.span.first x y d c.row-left.result.words.now c.row-left.result.present.now c.row-left.ensures h,
    )))

pub cost_pixel-requires-clause-right_words : goal.cost_pixel-requires-clause-right_words
cost_pixel-requires-clause-right_words c = omega arith

pub cost_pixel-requires-clause-right_present : goal.cost_pixel-requires-clause-right_present
cost_pixel-requires-clause-right_present c = omega arith

pub cost_pixel-requires-clause-left_small : goal.cost_pixel-requires-clause-left_small
cost_pixel-requires-clause-left_small c =
    let bits : c.scale_of-scale.result.bits ≡ greatest_of c.args.left.now.window = c.scale_of-scale.ensures.bits ∙ ap (λ (w : WindowSides). greatest_of w) c.window.ensures in
    subst (λ n. HoldsSmall n c.row-left.result.words.now) (sym bits) (record { within = c.row-left.ensures.within })

pub cost_pixel-requires-clause-right_small : goal.cost_pixel-requires-clause-right_small
cost_pixel-requires-clause-right_small c =
    let bits : c.scale_of-scale.result.bits ≡ greatest_of c.args.right.now.window = c.scale_of-scale.ensures.bits ∙ ap (λ (w : WindowSides). greatest_of w) (c.window.ensures ∙ c.requires.same_window) in
    subst (λ n. HoldsSmall n c.row-right.result.words.now) (sym bits) (record { within = c.row-right.ensures.within })

pub cost_pixel-requires-clause-whole : goal.cost_pixel-requires-clause-whole
cost_pixel-requires-clause-whole c = c.split_at_mut-cells.ensures.front_len ∙ ap (λ (s : Disparities). s.count) c.span.view_is

pub overflow_mul-x : goal.overflow_mul-x
overflow_mul-x c =
    let width = c.args.left.now.width in
    let count = c.span.inside.count in
    let whole : width * count ≡ width * c.args.span.count = ap (λ (s : Disparities). width * s.count) c.span.view_is in
    omega (arith, c.requires.whole, whole, mul-le c.loop-x.x count width count (omega (arith, c.row-left.ensures.words_full)) (omega arith))
