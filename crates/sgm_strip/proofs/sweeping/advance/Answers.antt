use Rattle.std.proofs.Common.{length, subst, arith}
use Rattle.sgm_strip.specs.Passing.{ComesBefore, HoldsBefore}
use Rattle.sgm_strip.proofs.Sweep.{adds_at}
use Rattle.sgm_strip.proofs.sweeping.advance.Goals as goal

pub returns-then-begun-clause-added : goal.returns-then-begun-clause-added
returns-then-begun-clause-added c =
    adds_at c.args.at (length c.args.last.now) c.pass_row.new.values c.args.sums.now
    c.split_at_mut-rest.result.0.now c.split_at_mut-here.result.0.now
    c.split_at_mut-rest.result.1.now c.split_at_mut-here.result.1.now c.pass_row.new.sums
    c.pass_row.auto.values
    c.split_at_mut-rest.ensures.front
    c.split_at_mut-rest.ensures.front_len
    c.split_at_mut-rest.ensures.back
    c.split_at_mut-here.ensures.front
    c.split_at_mut-here.ensures.back
    (omega (arith, c.pass_row.auto.sums, c.split_at_mut-here.ensures.front_len))
    c.pass_row.ensures.added

pub returns-then-begun-clause-paths : goal.returns-then-begun-clause-paths
returns-then-begun-clause-paths c g y s b =
    let dir = c.args.row.now.dir in
    let before : HoldsBefore g dir y c.args.last.now = subst (λ t. ComesBefore g dir y t c.args.last.now) c.if-begun.true b in
    c.pass_row.ensures.paths g y s.suits record {
      row = before.row;
      comes_from = before.comes_from;
      has_far = s.has_far before.row before.comes_from;
      holds = before.holds;
    }

pub returns-else-begun-clause-added : goal.returns-else-begun-clause-added
returns-else-begun-clause-added c =
    adds_at c.args.at (length c.args.last.now) c.begin_row.new.values c.args.sums.now
    c.split_at_mut-rest.result.0.now c.split_at_mut-here.result.0.now
    c.split_at_mut-rest.result.1.now c.split_at_mut-here.result.1.now c.begin_row.new.sums
    c.begin_row.auto.values
    c.split_at_mut-rest.ensures.front
    c.split_at_mut-rest.ensures.front_len
    c.split_at_mut-rest.ensures.back
    c.split_at_mut-here.ensures.front
    c.split_at_mut-here.ensures.back
    (omega (arith, c.begin_row.auto.sums, c.split_at_mut-here.ensures.front_len))
    c.begin_row.ensures.added

pub returns-else-begun-clause-paths : goal.returns-else-begun-clause-paths
returns-else-begun-clause-paths c g y s b =
    c.begin_row.ensures.paths g y s.suits (subst (λ t. ComesBefore g c.args.row.now.dir y t c.args.last.now) c.if-begun.false b)
