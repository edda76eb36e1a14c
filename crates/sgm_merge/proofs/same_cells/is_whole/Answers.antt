use Rattle.std.proofs.Common.{◌≡◌, pos, ◌-ℤ◌, ◌≤ℤ◌, to_z, of_z, w64, ap, ap₂, ◌∙◌, arith}
use Rattle.std.specs.Int.{int_rem_euclid}
use Rattle.std.specs.Ordering.{int_eq}
use Rattle.std.proofs.lemmas.Int.{ints}
use Rattle.sgm_merge.proofs.Numbers.{same_bits}
use Rattle.sgm_merge.proofs.same_cells.is_whole.Goals as goal

pub returns : goal.returns
returns c =
    let far : to_z w64 (of_z w64 (to_z w64 (of_z w64 c.args.side) -ℤ to_z w64 (of_z w64 c.args.from))) ≡ c.args.side -ℤ c.args.from = omega (arith, ints) in
    let cell : to_z w64 (of_z w64 c.args.cell) ≡ c.args.cell = omega (arith, ints) in
    let zero : pos 0 ≤ℤ pos 0 = omega (arith, ints) in
    let from_0 : pos 0 ≤ℤ c.rem_euclid.result = omega (arith, ints) in
    same_bits c.rem_euclid.result (pos 0) from_0 zero
    ∙ ap (λ z. int_eq z (pos 0)) (c.rem_euclid.ensures.value ∙ ap₂ int_rem_euclid far cell)
