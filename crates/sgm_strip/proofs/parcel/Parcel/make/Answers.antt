use Rattle.std.proofs.Common.{◌∙◌, sym, ap, subst}
use Rattle.sgm_energy.specs.Pens.{penalties_of}
use Rattle.sgm_strip.specs.Scenes.{SceneParts}
use Rattle.sgm_strip.specs.Parcels.{IsParcel, RunsOn, level_done, parcel_of}
use Rattle.sgm_strip.proofs.Passed.{new_parcel}
use Rattle.sgm_strip.proofs.parcel.Parcel.make.Goals as goal

pub invariant_of-result : goal.invariant_of-result
invariant_of-result c =
    let scene = c.args.scene.now in
    let costs = c.in_ok-costs.costs.items in
    let sums = c.in_ok-costs.sums.items in
    subst (λ (s : SceneParts). IsParcel (parcel_of s c.args.cut c.args.strip level_done costs sums) × RunsOn s c.size.result c.span.result (penalties_of c.pen.result) c.in_ok-guide.guide) (sym c.of.ensures) (
      new_parcel scene c.args.cut c.args.strip c.first.result c.rows.result costs sums c.size.ensures.kept c.first.ensures.kept c.requires.cut c.requires.strip c.first.ensures.row c.rows.ensures.rows
          c.in_ok-costs.ensures.low c.in_ok-costs.ensures.costs c.in_ok-costs.ensures.sums,
      record { same_width = c.size.ensures.width; same_height = c.size.ensures.height; same_span = c.span.ensures; same_penalties = c.pen.ensures; same_guide = c.in_ok-guide.ensures ∙ ap (λ (s : SceneParts). s.guide) c.scene.view_is },
    )

pub returns-clause-kept : goal.returns-clause-kept
returns-clause-kept c =
    let scene = c.args.scene.now in
    let costs = c.in_ok-costs.costs.items in
    let sums = c.in_ok-costs.sums.items in
    subst (λ (s : SceneParts). IsParcel (parcel_of s c.args.cut c.args.strip level_done costs sums)) (sym c.of.ensures)
    (new_parcel scene c.args.cut c.args.strip c.first.result c.rows.result costs sums c.size.ensures.kept c.first.ensures.kept c.requires.cut c.requires.strip c.first.ensures.row c.rows.ensures.rows
    c.in_ok-costs.ensures.low c.in_ok-costs.ensures.costs c.in_ok-costs.ensures.sums)
