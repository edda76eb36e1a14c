use Rattle.std.proofs.Common.{◌≡◌, ◌+◌, ◌*◌, ◌<◌, ◌∙◌, ◌++◌, sym, ap, arith, drop, get_or, length, None}
use Rattle.sgm_base.specs.Sides.{Sides}
use Rattle.sgm_energy.specs.Rays.{pixel_at}
use Rattle.sgm_select.specs.Selection.{disparity}
use Rattle.sgm_select.specs.Strips.{SuitsPlane}
use Rattle.sgm_select.proofs.Selected.{entries_more}
use Rattle.sgm_select.proofs.maps.select_at.Goals as goal

pub returns-clause-exact : goal.returns-clause-exact
returns-clause-exact c g top ec sp ey h before x r hx hr =
    let place = c.args.place in
    let w = c.width.inside.width in
    let wide : w ≡ c.args.planes.now.left.now.width = ap (λ (s : Sides). s.width) c.width.view_is ∙ c.size.ensures.width in
    let same : g.width ≡ w = sp.same_width ∙ sym wide in
    let hy : c.args.y < g.height = omega (arith, sp.same_height, c.requires.row) in
    let so : SuitsPlane g c.args.planes.now.right.now = record { same_width = sp.same_width ∙ c.args.planes.now.same_width; same_height = sp.same_height ∙ c.args.planes.now.same_height } in
    let here : length c.select_row.new.into ≡ w = omega (arith, c.select_row.auto.into, c.split_at_mut-here.ensures.front_len) in
    let done = c.select_row.ensures.exact g c.args.y c.args.planes.now.left.now c.args.planes.now.right.now ec (same ∙ sym c.split_at_mut-here.ensures.front_len) hy
    h sp so c.row-left.ensures.value c.row-right.ensures.value in
    ap (λ n. get_or (c.split_at_mut-rest.result.0.now ++ (c.select_row.new.into ++ c.split_at_mut-here.result.1.now)) (r * n + x) None) same
    ∙ entries_more (λ x r. disparity g c.args.planes.now.left.now c.args.planes.now.right.now c.args.planes.now.span.first (pixel_at x (top + r))) w place c.args.into.now c.split_at_mut-rest.result.0.now c.select_row.new.into c.split_at_mut-here.result.1.now
    c.split_at_mut-rest.ensures.front (c.split_at_mut-here.ensures.back ∙ ap (drop w) c.split_at_mut-rest.ensures.back) c.split_at_mut-rest.ensures.front_len here
    (λ z hz. done z hz ∙ ap (λ y. disparity g c.args.planes.now.left.now c.args.planes.now.right.now c.args.planes.now.span.first (pixel_at z y)) ey)
    (λ z q hz hq. ap (λ n. get_or c.args.into.now (q * n + z) None) (sym same) ∙ before z q (omega (arith, same)) hq)
    x r (omega (arith, same)) hr
