use Rattle.std.proofs.Common.{◌≡◌, ℕ, ◌+◌, ◌*◌, ◌<◌, ◌++◌, ◌∙◌, sym, ap, arith, drop, get_or, length, None}
use Rattle.sgm_base.specs.Sides.{Sides}
use Rattle.sgm_energy.specs.Rays.{pixel_at}
use Rattle.sgm_refine.specs.Filling.{filled_value}
use Rattle.sgm_refine.specs.Met.{filled_at}
use Rattle.sgm_refine.proofs.MetRows.{row_more}
use Rattle.sgm_refine.proofs.filling.fill_row_at.Goals as goal

pub returns : goal.returns
returns c before r x hr hx =
    let m = c.args.from.now.map.now in
    let y = c.args.met.now.y in
    let w = c.width.inside.width in
    let wide : w ≡ m.width = ap (λ (s : Sides). s.width) c.width.view_is ∙ c.size.ensures.width in
    let s = c.args.into.now in
    let a = c.split_at_mut-rest.result.0.now in
    let v = c.fill_row.new.into in
    let b = c.split_at_mut-here.result.1.now in
    let wider : length v ≡ w = omega (arith, c.fill_row.auto.into, c.split_at_mut-here.ensures.front_len) in
    let f = filled_at m c.args.from.now.matched.now c.args.from.now.left.now c.args.from.now.span.first c.args.from.now.span.count in
    let here : (z : ℕ) → z < w → get_or v z None ≡ f z y = λ z hz.
    c.fill_row.ensures z (omega (arith, wider))
    ∙ ap (λ t. filled_value m c.args.from.now.left.now t (pixel_at z y)) (c.mark_row.ensures z (omega (arith, wide, c.args.from.now.matched_width))) in
    ap (λ n. get_or (a ++ (v ++ b)) (r * n + x) None) (sym wide)
    ∙ row_more f w y s a v b c.split_at_mut-rest.ensures.front (c.split_at_mut-here.ensures.back ∙ ap (drop w) c.split_at_mut-rest.ensures.back) c.split_at_mut-rest.ensures.front_len wider here
    (λ q z hq hz. ap (λ n. get_or s (q * n + z) None) wide ∙ before q z hq (omega (arith, wide)))
    r x hr (omega (arith, wide))
