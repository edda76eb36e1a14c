use Rattle.std.proofs.Common.{◌≡◌, ℤ, pos, ◌+ℤ◌, ◌*ℤ◌, to_z, of_z, w64, arith, ap, ◌∙◌}
use Rattle.std.proofs.lemmas.Int.{ints}
use Rattle.std.specs.Int.{int_div_euclid}
use Rattle.sgm_grid.proofs.bridges.rounded.Goals as goal

pub returns : goal.returns
returns c =
    let a = c.args.a in
    let b = c.args.b in
    let top : to_z w64 (of_z w64 (to_z w64 (of_z w64 (pos 2 *ℤ to_z w64 (of_z w64 a))) +ℤ to_z w64 (of_z w64 b))) ≡ (pos 2 *ℤ a) +ℤ b = omega (arith, ints) in
    let bottom : to_z w64 (of_z w64 (pos 2 *ℤ to_z w64 (of_z w64 b))) ≡ pos 2 *ℤ b = omega (arith, ints) in
    let whole : to_z w64 (of_z w64 c.div_euclid.result) ≡ c.div_euclid.result = omega (arith, ints, c.div_euclid.type_inv) in
    whole ∙ c.div_euclid.ensures
    ∙ ap (λ (t : ℤ). int_div_euclid t (to_z w64 (of_z w64 (pos 2 *ℤ to_z w64 (of_z w64 b))))) top
    ∙ ap (λ (t : ℤ). int_div_euclid ((pos 2 *ℤ a) +ℤ b) t) bottom
