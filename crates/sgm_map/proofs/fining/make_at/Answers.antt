use Rattle.std.proofs.Common.{◌≡◌, ◌+◌, ◌*◌, ◌∙◌, ◌++◌, sym, ap, arith, drop, get_or, length, None}
use Rattle.sgm_base.specs.Sides.{Sides}
use Rattle.sgm_select.proofs.Selected.{entries_more}
use Rattle.sgm_map.specs.Fining.{made_at}
use Rattle.sgm_map.proofs.fining.make_at.Goals as goal

pub returns : goal.returns
returns c before x r hx hr =
    let place = c.args.place in
    let w = c.width.inside.width in
    let wide : w ≡ c.args.making.now.map.now.width = ap (λ (s : Sides). s.width) c.width.view_is ∙ c.size.ensures.width in
    let here : length c.make_row.new.into ≡ w = omega (arith, c.make_row.auto.into, c.split_at_mut-here.ensures.front_len) in
    ap (λ n. get_or (c.split_at_mut-rest.result.0.now ++ (c.make_row.new.into ++ c.split_at_mut-here.result.1.now)) (r * n + x) None) (sym wide)
    ∙ entries_more (λ x r. made_at c.args.making.now.step c.args.making.now.left.now c.args.making.now.right.now c.args.making.now.map.now c.args.making.now.span x (c.args.first + r)) w place c.args.into.now
    c.split_at_mut-rest.result.0.now c.make_row.new.into c.split_at_mut-here.result.1.now
    c.split_at_mut-rest.ensures.front (c.split_at_mut-here.ensures.back ∙ ap (drop w) c.split_at_mut-rest.ensures.back) c.split_at_mut-rest.ensures.front_len here
    (λ z hz. c.make_row.ensures z hz)
    (λ z q hz hq. ap (λ n. get_or c.args.into.now (q * n + z) None) wide ∙ before z q (omega (arith, wide, hz)) hq)
    x r (omega (arith, wide, hx)) hr
