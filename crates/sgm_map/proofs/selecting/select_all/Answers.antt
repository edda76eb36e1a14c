use Rattle.std.proofs.Common.{◌∙◌, map, subst, sym}
use Rattle.sgm_select.specs.Strips.{AreRowsOf}
use Rattle.sgm_map.proofs.StripRows.{map_of}
use Rattle.sgm_map.proofs.selecting.select_all.Goals as goal

pub returns : goal.returns
returns g c =
    let planes = c.args.planes.now in
    let all = c.requires.complete in
    let whole = map_of planes.scene planes.left planes.right in
    c.join_strips.ensures.exact whole all.cut
    (subst (λ vs. AreRowsOf whole all.cut (map (λ v. v.items) vs)) (sym c.deref.ensures.value) (c.in_ok-strips.ensures all.cut all.strips))
    (c.size.ensures.width ∙ planes.left_width) (c.size.ensures.height ∙ planes.left_height)
