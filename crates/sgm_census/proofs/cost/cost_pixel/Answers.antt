use Rattle.std.proofs.Common.{◌+◌, ◌-◌, cond, length, get_or, Some, None, option_and_then, refl, ap, sym, ◌∙◌, arith}
use Rattle.sgm_base.specs.Columns.{left_column}
use Rattle.sgm_census.specs.Costs.{cost_between}
use Rattle.sgm_census.specs.Packed.{bits_of, unpacked}
use Rattle.sgm_census.proofs.CostWords.{unpacked-part, small-part, in_parts}
use Rattle.sgm_census.proofs.cost.cost_pixel.Goals as goal

pub cost_each-requires-clause-words : goal.cost_each-requires-clause-words
cost_each-requires-clause-words c =
    let there = c.of-there.result in
    small-part c.args.scale.bits c.args.right.words.now there.start (there.start + there.len - there.start) c.requires.right_small

pub returns : goal.returns
returns c = λ d h.
    let there = c.of-there.result in
    let code = bits_of c.args.scale.bits (get_or c.args.left.words.now c.args.place 0) in
    in_parts c.args.scale.bits c.args.scale.missing there.skipped there.len there.start d code c.args.right.words.now c.args.right.present.now c.fill-2.new.self c.cost_each.new.into c.fill-3.new.self _
    record {
      before_length = omega arith;
      inside_length = omega arith;
      before_each = λ k l. c.fill-2.ensures.clones k 0 (omega arith) refl;
      inside_each = λ k l. c.cost_each.ensures k l ∙ ap (λ o. cost_between c.args.scale.missing (Some code) o) (unpacked-part c.args.scale.bits c.args.right.words.now c.args.right.present.now there.start (there.start + there.len - there.start) k (omega arith));
      after_each = λ k l. c.fill-3.ensures.clones k 0 (omega arith) refl;
    } (omega arith) (c.of-there.ensures.each d h)
    ∙ ap (λ b. cost_between c.args.scale.missing (cond b (Some code) None) (option_and_then (unpacked c.args.scale.bits c.args.right.words.now c.args.right.present.now) (left_column (length c.args.left.words.now) c.args.span.first c.args.place d)))
    (sym c.if-not-left-place.false)
