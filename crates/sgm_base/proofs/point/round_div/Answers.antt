use Rattle.std.proofs.Common.{◌≡◌, ℤ, pos, ◌+ℤ◌, ◌*ℤ◌, to_z, of_z, arith, ap, ◌∙◌}
use Rattle.std.proofs.lemmas.Int.{ints, to_z-of_z}
use Rattle.std.specs.Int.{int_div_euclid, w128}
use Rattle.sgm_base.specs.Rounding.{rounded}
use Rattle.sgm_base.proofs.point.round_div.Goals as goal

pub returns : goal.returns
returns c =
    let a = c.args.a in let b = c.args.b in
    let top : to_z w128 (of_z w128 (to_z w128 (of_z w128 (pos 2 *ℤ to_z w128 (of_z w128 a))) +ℤ to_z w128 (of_z w128 b))) ≡ (pos 2 *ℤ a) +ℤ b = omega (arith, ints) in
    let bottom : to_z w128 (of_z w128 (pos 2 *ℤ to_z w128 (of_z w128 b))) ≡ pos 2 *ℤ b = omega (arith, ints) in
    let whole : to_z w128 (of_z w128 c.div_euclid.result) ≡ c.div_euclid.result = omega (arith, ints, c.div_euclid.type_inv) in
    whole ∙ c.div_euclid.ensures ∙ ap (λ (t : ℤ). int_div_euclid t (to_z w128 (of_z w128 (pos 2 *ℤ to_z w128 (of_z w128 b))))) top ∙ ap (λ (t : ℤ). int_div_euclid ((pos 2 *ℤ a) +ℤ b) t) bottom
