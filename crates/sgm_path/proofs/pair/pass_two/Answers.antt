use Rattle.std.proofs.Common.{◌*◌, ap, length, arith}
use Rattle.sgm_path.specs.Paths.{terms_of}
use Rattle.sgm_path.proofs.Pairs.{passes_two}
use Rattle.sgm_path.proofs.pair.pass_two.Goals as goal

pub returns-in-DownRight-clause-passes : goal.returns-in-DownRight-clause-passes
returns-in-DownRight-clause-passes c =
    let one = c.args.first.now in
    let two = c.args.second.now in
    passes_two (terms_of one) (terms_of two) c.args.values.now c.sweep_by_count.new.values c.args.sums.now c.sweep_by_count.new.sums c.args.more.now c.sweep_by_count.new.more
    one.pen.ordered two.pen.ordered one.positive two.positive
    (omega (
      arith,
      c.sweep_by_count.auto.values,
      c.requires.same_length,
      one.whole,
      two.whole,
      ap (λ w. w * two.count) c.requires.alike.width,
      ap (λ n. length one.guide.now * n) c.requires.alike.count,
    ))
    c.sweep_by_count.ensures.follows

pub returns-in_default : goal.returns-in_default
returns-in_default c =
    let one = c.args.first.now in
    let two = c.args.second.now in
    record {
      bound = c.sweep_by_count-in_default.ensures.bound;
      passes = passes_two (terms_of one) (terms_of two) c.args.values.now c.sweep_by_count-in_default.new.values c.args.sums.now c.sweep_by_count-in_default.new.sums c.args.more.now c.sweep_by_count-in_default.new.more
          one.pen.ordered two.pen.ordered one.positive two.positive
          (omega (
            arith,
            c.sweep_by_count-in_default.auto.values,
            c.requires.same_length,
            one.whole,
            two.whole,
            ap (λ w. w * two.count) c.requires.alike.width,
            ap (λ n. length one.guide.now * n) c.requires.alike.count,
          ))
          c.sweep_by_count-in_default.ensures.follows;
    }
