use Rattle.std.proofs.Common.{◌≡◌, ◌+◌, ◌*◌, ◌%◌, ◌<◌, ◌≤◌, Contains, slice_index, sym, ap, subst, arith, ⊎_elim}
use Rattle.std.proofs.lemmas.Bool.{cases_lt}
use Rattle.std.proofs.lemmas.List.Elements.{Contains-get_or}
use Rattle.sgm_lanes.proofs.Lanes.{Contains-min}
use Rattle.sgm_lanes.proofs.minimum.least_by_lane.Goals as goal

pub loop-number-init : goal.loop-number-init
loop-number-init c =
    let v = c.args.v.now in
    record {
      len = c.load-low.ensures.len;
      contained = λ i lt. subst (Contains v) (sym (c.load-low.ensures.each i lt)) (Contains-get_or v (0 + i) 0 (omega (arith, c.requires)));
      least = λ k lt. let e : 0 + k % 16 ≡ k = omega arith in omega (arith, c.load-low.ensures.each (k % 16) (omega arith), ap (slice_index v) e);
    }

pub loop-number-preserved : goal.loop-number-preserved
loop-number-preserved c =
    let v = c.args.v.now in
    let number = c.loop-number.number in
    record {
      len = c.lesser-low.ensures.len;
      contained = λ i lt. subst (Contains v) (sym (c.lesser-low.ensures.each i lt))
          (Contains-min v _ _ (c.loop-number.invariant.contained i lt) (subst (Contains v) (sym (c.load.ensures.each i lt)) (Contains-get_or v (16 * number + i) 0 (omega arith))));
      least = λ k lt. let few : k % 16 < 16 = omega arith in
          ⊎_elim (λ (x : k < 16 * number). omega (arith, c.lesser-low.ensures.each (k % 16) few, c.loop-number.invariant.least k x))
          (λ (x : 16 * number ≤ k). let e : 16 * number + k % 16 ≡ k = omega arith in
          omega (arith, c.lesser-low.ensures.each (k % 16) few, c.load.ensures.each (k % 16) few, ap (slice_index v) e))
          (cases_lt k (16 * number));
    }
