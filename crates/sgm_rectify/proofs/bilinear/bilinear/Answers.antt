use Rattle.std.proofs.Common.{◌≡◌, ℕ, ℤ, w64, to_z, of_z, ap, ◌∙◌, arith}
use Rattle.std.proofs.lemmas.Int.{ints}
use Rattle.sgm_rectify.specs.Bilinear.{whole, fraction, mean_at, bilinear}
use Rattle.sgm_rectify.proofs.bilinear.bilinear.Goals as goal

pub returns : goal.returns
unfolding bilinear
returns c =
    let image = c.args.image.now in
    let u : to_z w64 (of_z w64 c.args.u) ≡ c.args.u = omega (arith, ints, c.ranges.u) in
    let v : to_z w64 (of_z w64 c.args.v) ≡ c.args.v = omega (arith, ints, c.ranges.v) in
    let first : to_z w64 (of_z w64 c.whole.result) ≡ c.whole.result = omega (arith, ints, c.whole.type_inv) in
    let second : to_z w64 (of_z w64 c.whole-2.result) ≡ c.whole-2.result = omega (arith, ints, c.whole-2.type_inv) in
    let i = first ∙ c.whole.ensures.value ∙ ap (λ (z : ℤ). whole z) u in
    let j = second ∙ c.whole-2.ensures.value ∙ ap (λ (z : ℤ). whole z) v in
    let right = c.fraction.ensures.value ∙ ap (λ (z : ℤ). fraction z) u in
    let down = c.fraction-2.ensures.value ∙ ap (λ (z : ℤ). fraction z) v in
    c.mean_at.ensures
    ∙ ap (λ (z : ℤ). mean_at image z (to_z w64 (of_z w64 c.whole-2.result)) c.fraction.result c.fraction-2.result) i
    ∙ ap (λ (z : ℤ). mean_at image (whole c.args.u) z c.fraction.result c.fraction-2.result) j
    ∙ ap (λ (n : ℕ). mean_at image (whole c.args.u) (whole c.args.v) n c.fraction-2.result) right
    ∙ ap (λ (n : ℕ). mean_at image (whole c.args.u) (whole c.args.v) (fraction c.args.u) n) down
