use Rattle.std.proofs.Common.{◌<◌, ◌≢◌, length, arith, sym, below_more, get_or, get_or-set_other, get_or-set_same, ap, ◌∙◌, None}
use Rattle.std.specs.Option.{option_or}
use Rattle.sgm_refine.proofs.MetLemmas.{right_first, right_next}
use Rattle.sgm_refine.proofs.met.meet_right.Goals as goal

pub loop-x-init : goal.loop-x-init
loop-x-init c = record {
  done = λ k h. absurd (omega arith);
  next = λ h. sym (right_first c.args.map.now 0 c.args.y (omega arith));
}

pub loop-x-preserved : goal.loop-x-preserved
loop-x-preserved c =
    let x = c.loop-x.x in
    let inside : x < length c.loop-x.into = omega arith in
    record {
      done = below_more _ _
          (λ k h. let other : k ≢ x = omega arith in rw get_or-set_other (c.loop-x.invariant.done k h))
          (rw get_or-set_same (c.loop-x.invariant.next (omega arith)));
      next = λ h. c.or-last.ensures
          ∙ ap (option_or (get_or c.row-values.result.now x None)) (c.loop-x.invariant.next (omega arith))
          ∙ right_next c.args.map.now x c.args.y c.row-values.result.now h c.requires.row c.row-values.ensures.value;
    }
