use Rattle.std.proofs.Common.{◌≡◌, ◌+◌, ◌-◌, ◌*◌, ◌/◌, ◌∙◌, ap, arith, drop, length}
use Rattle.std.proofs.lemmas.Nat.{mul-le}
use Rattle.sgm_base.specs.Sides.{Sides}
use Rattle.sgm_base.specs.Values.{row_of}
use Rattle.sgm_refine.proofs.MetRows.{up_more}
use Rattle.sgm_refine.proofs.met.carry_up.Goals as goal

pub split_at_mut-done-requires : goal.split_at_mut-done-requires
split_at_mut-done-requires c =
    let m = c.args.map.now in
    let w = length c.row-values.result.now in
    omega (arith, c.requires.whole, mul-le c.args.k w (3 * m.height) m.width (omega (arith, c.requires.row)) (omega (arith, c.row-values.ensures.whole)))

pub split_at_mut-here-requires : goal.split_at_mut-here-requires
split_at_mut-here-requires c =
    let m = c.args.map.now in
    let w = length c.row-values.result.now in
    omega (
      arith,
      c.requires.whole,
      c.split_at_mut-done.ensures.back_len,
      mul-le (c.args.k + 1) w (3 * m.height) m.width (omega (arith, c.requires.row)) (omega (arith, c.row-values.ensures.whole)),
    )

pub returns : goal.returns
returns c =
    let m = c.args.map.now in
    let k = c.args.k in
    let w = length c.row-values.result.now in
    let tall : c.row.inside.height ≡ m.height = ap (λ (z : Sides). z.height) c.row.view_is ∙ c.size.ensures.height in
    up_more m k c.row-values.result.now c.args.into.now c.split_at_mut-done.result.0.now c.carry_row.new.into c.split_at_mut-here.result.1.now
    c.requires.later c.requires.row c.row-values.ensures.whole (c.row-values.ensures.value ∙ ap (λ n. row_of m (n - k / 3)) tall)
    c.split_at_mut-done.ensures.front (c.split_at_mut-here.ensures.back ∙ ap (drop w) c.split_at_mut-done.ensures.back) c.split_at_mut-done.ensures.front_len
    (c.carry_row.auto.into ∙ c.split_at_mut-here.ensures.front_len)
    (λ z hz. c.carry_row.ensures z (omega (arith, c.carry_row.auto.into, c.split_at_mut-here.ensures.front_len)))
