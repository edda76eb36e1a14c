use Rattle.std.proofs.Common.{◌-◌, length, arith, sym, get_or, get_or-set_other, ap, ◌∙◌, None, inl, inr}
use Rattle.std.proofs.lemmas.Bool.{cases_eq}
use Rattle.std.proofs.lemmas.Grind.{get_or-set_at}
use Rattle.std.specs.Option.{option_or}
use Rattle.sgm_energy.specs.declared.dir.Dir.TheVariants.{Left}
use Rattle.sgm_energy.specs.Rays.{pixel_at}
use Rattle.sgm_refine.specs.Filling.{met_from}
use Rattle.sgm_refine.proofs.MetLemmas.{left_first, left_next}
use Rattle.sgm_refine.proofs.met.meet_left.Goals as goal

pub loop-k-init : goal.loop-k-init
loop-k-init c = record {
  done = λ x h k. absurd (omega arith);
  next = λ h. sym (left_first c.args.map.now _ c.args.y (omega arith));
}

pub loop-k-preserved : goal.loop-k-preserved
loop-k-preserved c =
    let m = c.args.map.now in
    let z = length c.args.into.now - 1 - c.loop-k.k in
    record {
      done = λ x low high. elim (cases_eq x z) [
        | inl same ↦ get_or-set_at c.loop-k.into z x c.loop-k.last None same (omega arith) ∙ c.loop-k.invariant.next (omega arith)
            ∙ ap (λ n. met_from m (pixel_at n c.args.y) Left) (sym same)
        | inr other ↦ get_or-set_other c.loop-k.into z x c.loop-k.last None other ∙ c.loop-k.invariant.done x (omega arith) high
      ];
      next = λ h. c.or-last.ensures
          ∙ ap (option_or (get_or c.row-values.result.now z None)) (c.loop-k.invariant.next (omega arith))
          ∙ left_next m _ z c.args.y c.row-values.result.now (omega arith) (omega arith) c.requires.row c.row-values.ensures.value;
    }
