use Rattle.std.proofs.Common.{◌≡◌, ℤ, ◌-ℤ◌, ◌*ℤ◌, w64, to_z, of_z, ap₂, ◌∙◌, arith}
use Rattle.std.proofs.lemmas.Int.{ints}
use Rattle.sgm_rectify.proofs.Quotients.{is_floor}
use Rattle.sgm_rectify.proofs.place.floor_near.Goals as goal

pub returns-then-left-b : goal.returns-then-left-b
returns-then-left-b c =
    let a = c.args.a in
    let b = c.args.b in
    let floor = c.beside-floor.result in
    let left = c.in-Some-left_of.left in
    let a_kept : to_z w64 (of_z w64 a) ≡ a = omega (arith, ints, c.ranges.a) in
    let b_kept : to_z w64 (of_z w64 b) ≡ b = omega (arith, ints, c.ranges.b) in
    let kept : to_z w64 (of_z w64 floor) ≡ floor = omega (arith, ints, c.beside-floor.type_inv) in
    let same : left ≡ a -ℤ (floor *ℤ b) = c.in-Some-left_of.ensures ∙ ap₂ (λ (y z : ℤ). y -ℤ z) a_kept (ap₂ (λ (y z : ℤ). y *ℤ z) kept b_kept) in
    kept ∙ is_floor a b floor left c.requires same (omega (arith, ints, c.if-left-ge0.true)) (omega (arith, ints, c.if-left-b.true))
