use Rattle.std.proofs.Common.{◌≡◌, arith, ap, sym, ◌∙◌}
use Rattle.std.proofs.lemmas.Int.{ints}
use Rattle.sgm_fine.specs.Windows.{number, sum_below}
use Rattle.sgm_fine.proofs.Numbers.{within_all}
use Rattle.sgm_fine.proofs.Totals.{over_padded, sum_more, sum_none}
use Rattle.sgm_fine.proofs.sums.total_of.Goals as goal

pub loop-k-init : goal.loop-k-init
loop-k-init c = record {
  few = omega arith;
  sum = sym (sum_none (number c.args.a.now));
  small = (omega (arith, ints), omega (arith, ints));
}

pub loop-k-preserved : goal.loop-k-preserved
loop-k-preserved c =
    let more = sum_more c.loop-k.k (number c.args.a.now) in
    let s = c.loop-k.invariant.sum in
    let low = c.loop-k.invariant.small.0 in
    let high = c.loop-k.invariant.small.1 in
    let t = within_all 4096 c.args.a.now c.requires.small c.requires.padded c.loop-k.k in
    record {
      few = omega arith;
      sum = omega (arith, ints, more, s, low, high, t.0, t.1, c.from-sum.ensures);
      small = (omega (arith, ints, low, t.0, t.1), omega (arith, ints, high, t.0, t.1));
    }

pub returns : goal.returns
returns c =
    let all : c.loop-k.k ≡ 32 = omega (arith, c.loop-k.invariant.few, c.loop-k-test.false) in
    c.loop-k.invariant.sum ∙ ap (λ n. sum_below n (number c.args.a.now)) all ∙ over_padded c.args.a.now c.requires.padded
