use Rattle.std.proofs.Common.{◌*◌, ◌∙◌, refl, arith, inr}
use Rattle.sgm_lanes.proofs.Lanes.{chunk_added}
use Rattle.sgm_lanes.proofs.sums.add_chunks.Goals as goal

pub loop-number-preserved : goal.loop-number-preserved
loop-number-preserved c =
    let before = c.loop-number.invariant in
    let v = c.args.v.now in
    record {
      done = chunk_added c.args.sums.now c.loop-number.sums c.increase.new.sums v v c.load.result (16 * c.loop-number.number) _ (omega arith) before.done before.left
          (λ i lt. omega (arith, c.load.ensures.each i lt)) (λ k _. refl) c.increase.ensures.inside c.increase.ensures.outside;
      left = λ k le. c.increase.ensures.outside k (inr (omega arith)) ∙ before.left k (omega arith);
    }
