use Rattle.std.proofs.Common.{pos, ◌-ℤ◌, ◌≤ℤ◌, to_z, of_z, w64, subst, sym, arith}
use Rattle.std.proofs.lemmas.Int.{ints}
use Rattle.sgm_base.specs.Ranges.{Within}
use Rattle.sgm_merge.proofs.Numbers.{divided_near}
use Rattle.sgm_merge.proofs.shared.cells_between.Goals as goal

pub returns-clause-near : goal.returns-clause-near
returns-clause-near c =
    let far = to_z w64 (of_z w64 (to_z w64 (of_z w64 c.args.side) -ℤ to_z w64 (of_z w64 c.args.from))) in
    let cell = to_z w64 (of_z w64 c.args.cell) in
    let within : Within 4000000000 far = (omega (arith, ints), omega (arith, ints)) in
    let some : pos 1 ≤ℤ cell = omega (arith, ints) in
    let near : Within 4000000000 c.div_euclid.result = subst (Within 4000000000) (sym c.div_euclid.ensures) (divided_near far cell 4000000000 within some) in
    (omega (arith, ints, near.0, near.1), omega (arith, ints, near.0, near.1))
