use Rattle.std.proofs.Common.{◌≡◌, ◌*◌, ℤ, pos, w32, w64, to_z, of_z, ap, ◌∙◌, arith}
use Rattle.std.proofs.lemmas.Int.{ints}
use Rattle.sgm_rectify.proofs.Sums.{Within, kept, kept32, product, product-fits, product-within}
use Rattle.sgm_rectify.proofs.place.share.Goals as goal

pub overflow_mul-result : goal.overflow_mul-result
overflow_mul-result c =
    let u = c.args.coordinate in
    let in_p : Within 1048576 (pos (c.args.p * c.args.q)) = record { low = omega (arith, ints); high = omega (arith, ints, c.weight.ensures.high) } in
    let in_u : Within 16777216 u = record { low = c.requires.coordinate.0; high = c.requires.coordinate.1 } in
    let weight_kept : to_z w64 (of_z w64 c.weight.result) ≡ c.weight.result = omega (arith, ints, c.weight.type_inv) in
    let u_kept : to_z w64 (of_z w64 (to_z w32 (of_z w32 u))) ≡ u = ap (λ (z : ℤ). to_z w64 (of_z w64 z)) (kept32 u c.requires.coordinate) ∙ kept 16777216 u (omega arith) in_u in
    product-fits 1048576 16777216 (pos (c.args.p * c.args.q)) u _ _ (weight_kept ∙ c.weight.ensures.value) u_kept (omega arith) in_p in_u

pub returns : goal.returns
returns c =
    let u = c.args.coordinate in
    let in_p : Within 1048576 (pos (c.args.p * c.args.q)) = record { low = omega (arith, ints); high = omega (arith, ints, c.weight.ensures.high) } in
    let in_u : Within 16777216 u = record { low = c.requires.coordinate.0; high = c.requires.coordinate.1 } in
    let weight_kept : to_z w64 (of_z w64 c.weight.result) ≡ c.weight.result = omega (arith, ints, c.weight.type_inv) in
    let u_kept : to_z w64 (of_z w64 (to_z w32 (of_z w32 u))) ≡ u = ap (λ (z : ℤ). to_z w64 (of_z w64 z)) (kept32 u c.requires.coordinate) ∙ kept 16777216 u (omega arith) in_u in
    let within = product-within 1048576 16777216 (pos (c.args.p * c.args.q)) u _ _ (weight_kept ∙ c.weight.ensures.value) u_kept (omega arith) in_p in_u in
    record {
      value = product 1048576 16777216 (pos (c.args.p * c.args.q)) u _ _ (weight_kept ∙ c.weight.ensures.value) u_kept (omega arith) in_p in_u;
      low = within.low;
      high = within.high;
    }
