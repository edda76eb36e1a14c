use Rattle.std.proofs.Common.{◌+◌, ◌-◌, ◌*◌, ◌/◌, ◌%◌, ◌<◌, ◌≤◌, ◌∙◌, sym, arith, length}
use Rattle.std.proofs.lemmas.Nat.{mul-add-lt}
use Rattle.sgm_refine.proofs.MetRows.{met_first_up}
use Rattle.sgm_refine.proofs.met.meet_upwards.Goals as goal

pub loop-k-init : goal.loop-k-init
loop-k-init c k x hk hx =
    let m = c.args.map.now in
    let some : 1 ≤ m.height = omega (arith, c.size.ensures.kept.height_in_range) in
    let inside : k * m.width + x < length c.args.into.now = omega (arith, c.requires.whole, mul-add-lt k m.width x (3 * m.height) (omega arith) hx) in
    c.requires.none (k * m.width + x) inside
    ∙ sym (met_first_up m x (m.height - 1 - k / 3) (k % 3) (omega arith) (omega (arith, some)))
