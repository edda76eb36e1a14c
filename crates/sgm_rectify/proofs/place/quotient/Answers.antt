use Rattle.std.proofs.Common.{◌≡◌, ℤ, pos, ◌*ℤ◌, w64, to_z, of_z, ap, ap₂, ◌∙◌, arith}
use Rattle.std.specs.Int.{int_div_euclid}
use Rattle.std.proofs.lemmas.Int.{ints}
use Rattle.sgm_rectify.proofs.place.quotient.Goals as goal

pub returns : goal.returns
returns c =
    let numerator : to_z w64 (of_z w64 (pos 256 *ℤ to_z w64 (of_z w64 c.affine-numerator.result))) ≡ pos 256 *ℤ c.affine-numerator.result =
    omega (arith, ints, c.affine-numerator.ensures.low, c.affine-numerator.ensures.high) in
    let divisor : to_z w64 (of_z w64 c.affine.result) ≡ c.affine.result = omega (arith, ints, c.affine.type_inv) in
    let kept : to_z w64 (of_z w64 c.floor_near.result) ≡ c.floor_near.result = omega (arith, ints, c.floor_near.type_inv) in
    kept ∙ c.floor_near.ensures
    ∙ ap₂ int_div_euclid
    (numerator ∙ ap (λ (z : ℤ). pos 256 *ℤ z) c.affine-numerator.ensures.value) (divisor ∙ c.affine.ensures.value)
