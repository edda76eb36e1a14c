use Rattle.std.proofs.Common.{◌∙◌, replicate, sym, ap, subst, arith}
use Rattle.sgm_strip.specs.Cuts.{CutParts, IsCut}
use Rattle.sgm_strip.specs.Fronts.{IsFront, front_parts}
use Rattle.sgm_strip.specs.Scenes.{SceneParts}
use Rattle.sgm_strip.proofs.Passed.{new_front}
use Rattle.sgm_strip.proofs.front.Front.make.Goals as goal

pub returns-clause-kept : goal.returns-clause-kept
returns-clause-kept c =
    let row = c.in_ok-row.row.items in
    let visits = c.in_ok-visits.visits.items in
    subst (λ (s : SceneParts). IsFront (front_parts s c.args.cut c.args.dir row visits)) (sym c.of.ensures)
    (new_front c.args.scene.now c.args.cut c.args.dir row visits c.row_length.ensures.kept (subst IsCut c.cut.view_is c.cut.invariant) c.requires.cut c.requires.across
    (c.in_ok-row.ensures.items_if_clones_equal (λ y e. e) ∙ ap (λ n. replicate n 0) c.row_length.ensures.value) c.in_ok-visits.ensures.items)

pub invariant_of-result : goal.invariant_of-result
invariant_of-result c = (returns-clause-kept c, omega (arith, c.in_ok-visits.ensures.capacity, ap (λ (s : CutParts). s.strips) c.cut.view_is))
