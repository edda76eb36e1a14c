use Rattle.std.proofs.Common.{◌≡◌, ◌-◌, ◌*◌, ℤ, pos, ◌+ℤ◌, ◌*ℤ◌, w64, to_z, of_z, ap, ◌∙◌, arith}
use Rattle.std.specs.Int.{int_div_euclid}
use Rattle.std.proofs.lemmas.Int.{ints}
use Rattle.sgm_rectify.proofs.Sums.{kept32, ap4, sum4, sum3-fits, sum4-fits}
use Rattle.sgm_rectify.proofs.place.blended.Goals as goal

pub overflow_add-sum : goal.overflow_add-sum
overflow_add-sum c =
    sum3-fits 17592186044416 17592186044416 17592186044416 c.share.result c.share-2.result c.share-3.result (omega arith)
    (record { low = c.share.ensures.low; high = c.share.ensures.high })
    (record { low = c.share-2.ensures.low; high = c.share-2.ensures.high })
    (record { low = c.share-3.ensures.low; high = c.share-3.ensures.high })

pub overflow_add-sum-2 : goal.overflow_add-sum-2
overflow_add-sum-2 c =
    sum4-fits 17592186044416 c.share.result c.share-2.result c.share-3.result c.share-4.result (omega arith)
    (record { low = c.share.ensures.low; high = c.share.ensures.high })
    (record { low = c.share-2.ensures.low; high = c.share-2.ensures.high })
    (record { low = c.share-3.ensures.low; high = c.share-3.ensures.high })
    (record { low = c.share-4.ensures.low; high = c.share-4.ensures.high })

pub returns : goal.returns
returns c =
    let sum =
    sum4 17592186044416 c.share.result c.share-2.result c.share-3.result c.share-4.result (omega arith)
    (record { low = c.share.ensures.low; high = c.share.ensures.high })
    (record { low = c.share-2.ensures.low; high = c.share-2.ensures.high })
    (record { low = c.share-3.ensures.low; high = c.share-3.ensures.high })
    (record { low = c.share-4.ensures.low; high = c.share-4.ensures.high })
    in
    let s = c.args.step in
    let a = c.args.a in
    let b = c.args.b in
    let first = c.share.ensures.value ∙ ap (λ (z : ℤ). pos ((s - a) * (s - b)) *ℤ z) (kept32 c.args.upper.0 c.requires.upper.0) in
    let second = c.share-2.ensures.value ∙ ap (λ (z : ℤ). pos (a * (s - b)) *ℤ z) (kept32 c.args.upper.1 c.requires.upper.1) in
    let third = c.share-3.ensures.value ∙ ap (λ (z : ℤ). pos ((s - a) * b) *ℤ z) (kept32 c.args.lower.0 c.requires.lower.0) in
    let fourth = c.share-4.ensures.value ∙ ap (λ (z : ℤ). pos (a * b) *ℤ z) (kept32 c.args.lower.1 c.requires.lower.1) in
    let weight_kept : to_z w64 (of_z w64 c.weight.result) ≡ c.weight.result = omega (arith, ints, c.weight.type_inv) in
    let result_kept : to_z w64 (of_z w64 c.floor_near.result) ≡ c.floor_near.result = omega (arith, ints, c.floor_near.type_inv) in
    let area = weight_kept ∙ c.weight.ensures.value in
    let sum_of : ℤ → ℤ → ℤ → ℤ → ℤ = λ p q r t. ((p +ℤ q) +ℤ r) +ℤ t in
    let is_sum = sum ∙ ap4 sum_of first second third fourth in
    result_kept ∙ c.floor_near.ensures
    ∙ ap (λ (d : ℤ). int_div_euclid (to_z w64 (of_z w64 (to_z w64 (of_z w64 (to_z w64 (of_z w64 (to_z w64 (of_z w64 c.share.result) +ℤ to_z w64 (of_z w64 c.share-2.result))) +ℤ to_z w64 (of_z w64 c.share-3.result))) +ℤ to_z w64 (of_z w64 c.share-4.result)))) d) area
    ∙ ap (λ (n : ℤ). int_div_euclid n (pos (s * s))) is_sum

pub overflow_sub-step : goal.overflow_sub-step
overflow_sub-step c = omega arith
