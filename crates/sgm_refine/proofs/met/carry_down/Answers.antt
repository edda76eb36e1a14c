use Rattle.std.proofs.Common.{◌≡◌, ℕ, ◌+◌, ◌*◌, ◌<◌, ◌-◌, ◌++◌, ◌∙◌, sym, ap, arith, take, drop, length, get_or, None}
use Rattle.sgm_energy.specs.declared.dir.Dir.TheVariants.{Right}
use Rattle.sgm_energy.specs.Rays.{pixel_at, column_before}
use Rattle.sgm_refine.specs.declared.met.TheConstants.{DOWNWARDS}
use Rattle.sgm_refine.specs.Filling.{met_from}
use Rattle.sgm_refine.specs.Met.{carried_from, HoldsMet}
use Rattle.sgm_refine.proofs.MetLemmas.{carried_met}
use Rattle.sgm_refine.proofs.MetRows.{row_more, part_at, row_above}
use Rattle.sgm_refine.proofs.met.carry_down.Goals as goal

pub loop-i-preserved : goal.loop-i-preserved
loop-i-preserved c hy r x hr hx =
    let m = c.args.map.now in
    let y = c.args.y in
    let i = c.loop-i.i in
    let values = c.row-values.result.now in
    let w = length values in
    let wide : w ≡ m.width = c.row-values.ensures.whole in
    let s = c.loop-i.into in
    let a = c.split_at_mut-rest.result.0.now in
    let v = c.carry_row.new.into in
    let b = c.split_at_mut-here.result.1.now in
    let dir = get_or DOWNWARDS i Right in
    let part = take (i * w + w - i * w) (drop (i * w) c.args.carried.now) in
    let same : i * w + w - i * w ≡ w = omega arith in
    let wider : length v ≡ w = omega (arith, c.carry_row.auto.into, c.split_at_mut-here.ensures.front_len) in
    let held : HoldsMet m dir y part = λ z hz. part_at c.args.carried.now (i * w) (i * w + w - i * w) z (omega (arith, same, wide))
    ∙ ap (λ n. get_or c.args.carried.now (i * n + z) None) wide ∙ c.requires.carried i z c.loop-i-test.true hz in
    let here : (z : ℕ) → z < w → get_or v z None ≡ met_from m (pixel_at z (y + 1)) dir = λ z hz.
    c.carry_row.ensures z (omega (arith, wider)) ∙ ap (λ n. carried_from values part (column_before dir n z)) wide
    ∙ carried_met m dir z (y + 1) y values part (row_above m.height y i c.loop-i-test.true hy) c.requires.row c.row-values.ensures.value held (omega (arith, wide)) in
    ap (λ n. get_or (a ++ (v ++ b)) (r * n + x) None) (sym wide)
    ∙ row_more (λ z j. met_from m (pixel_at z (y + 1)) (get_or DOWNWARDS j Right)) w i s a v b
    c.split_at_mut-rest.ensures.front (c.split_at_mut-here.ensures.back ∙ ap (drop w) c.split_at_mut-rest.ensures.back) c.split_at_mut-rest.ensures.front_len wider
    here
    (λ j z hj hz. ap (λ n. get_or s (j * n + z) None) wide ∙ c.loop-i.invariant hy j z hj (omega (arith, wide)))
    r x hr (omega (arith, wide))
