use Rattle.std.proofs.Common.{◌≡◌, ◌∙◌, ap, rules, subst}
use Rattle.sgm_strip.specs.Cuts.{CutParts, IsCut}
use Rattle.sgm_work.specs.Made.{IsNewParcel}
use Rattle.sgm_work.proofs.Making.{are_level, are_strips}
use Rattle.sgm_threads.proofs.Pieces.{each_at, if_ok_two}
use Rattle.sgm_work.proofs.parcels.parcels.Goals as goal

pub returns-clause-strips : goal.returns-clause-strips
returns-clause-strips g c =
    let scene = c.args.scene.now in
    let cut = c.args.cut in
    let strips : c.cut.inside.strips ≡ cut.strips = ap (λ (k : CutParts). k.strips) c.cut.view_is in
    if_ok_two c.side_by_side.result
    (λ v count made. are_strips scene cut v.items (subst IsCut c.cut.view_is c.cut.invariant) c.requires.height (count ∙ strips)
    (each_at (IsNewParcel scene cut) v.items (λ k d h. let given = made k d h in search rules)))
    c.side_by_side.ensures.count c.side_by_side.ensures.made

pub returns-clause-level : goal.returns-clause-level
returns-clause-level g c =
    let scene = c.args.scene.now in
    let cut = c.args.cut in
    if_ok_two c.side_by_side.result
    (λ v count made. are_level scene cut v.items (each_at (IsNewParcel scene cut) v.items (λ k d h. let given = made k d h in search rules)))
    c.side_by_side.ensures.count c.side_by_side.ensures.made
