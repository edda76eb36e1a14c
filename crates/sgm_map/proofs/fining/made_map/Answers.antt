use Rattle.std.proofs.Common.{◌∙◌, ap, map, subst, sym}
use Rattle.sgm_base.specs.Disparities.{Disparities}
use Rattle.sgm_select.specs.Strips.{AreRowsOf}
use Rattle.sgm_map.specs.Fining.{made}
use Rattle.sgm_threads.proofs.Pieces.{if_ok}
use Rattle.sgm_map.proofs.fining.made_map.Goals as goal

pub returns : goal.returns
returns g c =
    let planes = c.args.planes.now in
    let cut = c.even-cut.result in
    let made_with = λ (span : Disparities). made c.args.step planes.left planes.right c.args.map span in
    let whole = made_with c.span.result in
    if_ok c.join_strips.result (λ m e. e ∙ ap made_with c.span.ensures)
    (c.join_strips.ensures.exact whole cut (subst (λ vs. AreRowsOf whole cut (map (λ v. v.items) vs)) (sym c.deref.ensures.value) c.in_ok-strips.ensures)
    c.size-size.ensures.width c.size-size.ensures.height)
