use Rattle.std.proofs.Common.{◌≡◌, ◌∙◌, arith, false, None, get_or, inl, inr, subst, sym}
use Rattle.std.proofs.Math.ListN.{set}
use Rattle.std.proofs.lemmas.Bool.{cases_eq}
use Rattle.std.proofs.lemmas.List.{get_or-set_same, get_or-set_other}
use Rattle.sgm_energy.specs.Rays.{pixel_at}
use Rattle.sgm_refine.specs.Filling.{filled_value}
use Rattle.sgm_refine.proofs.filling.fill_row.Goals as goal

pub loop-x-preserved : goal.loop-x-preserved
loop-x-preserved c k h =
    let into = c.loop-x.into in
    let x = c.loop-x.x in
    let v = c.value_at.result in
    elim (cases_eq k x) [
      | inl e ↦ subst (λ z. get_or (set into x v) z None ≡ filled_value c.args.from.now.map.now c.args.from.now.left.now (get_or c.args.marks.now z false) (pixel_at z c.args.met.now.y)) (sym e)
          (get_or-set_same into x v None (omega (arith, c.loop-x.auto.into, c.loop-x-test.true)) ∙ c.value_at.ensures)
      | inr ne ↦ get_or-set_other into x k v None ne ∙ c.loop-x.invariant k (omega (arith, h, ne))
    ]
