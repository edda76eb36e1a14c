use Rattle.std.proofs.Common.{◌<◌, ◌≢◌, length, ℤ, arith, get_or-set_other, get_or-set_same, below_more}
use Rattle.std.proofs.lemmas.Int.{ints}
use Rattle.std.proofs.Math.ListN.{length-set}
use Rattle.sgm_fine.proofs.Numbers.{padded_more}
use Rattle.sgm_fine.proofs.small.made_small.Goals as goal

pub loop-k-preserved : goal.loop-k-preserved
loop-k-preserved c =
    let k = c.loop-k.k in
    let small = c.requires.small k c.loop-k-test.true in
    let inside : k < length c.loop-k.numbers = omega (arith, c.loop-k-test.true, c.loop-k.invariant.len) in
    record {
      len = omega (arith, c.loop-k.invariant.len, length-set {A = ℤ});
      few = omega arith;
      made = below_more _ _ (λ j lt. let other : j ≢ k = omega (arith, lt) in rw get_or-set_other (c.loop-k.invariant.made j lt)) (rw get_or-set_same (omega (arith, ints, small)));
      rest = padded_more c.loop-k.numbers k _ c.loop-k.invariant.rest;
    }
