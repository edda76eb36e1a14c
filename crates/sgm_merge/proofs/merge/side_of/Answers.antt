use Rattle.std.proofs.Common.{◌≡◌, pos, ◌*ℤ◌, to_z, of_z, w64, ap₂, arith}
use Rattle.std.proofs.lemmas.Int.{ints}
use Rattle.sgm_merge.proofs.Numbers.{side_near}
use Rattle.sgm_merge.proofs.merge.side_of.Goals as goal

pub returns-clause-near : goal.returns-clause-near
returns-clause-near c =
    let near = side_near c.args.from c.args.cell c.args.line c.requires.from c.requires.cell c.requires.line in
    let line : to_z w64 c.args.line ≡ pos c.args.line = omega (arith, ints) in
    let cell : to_z w64 (of_z w64 c.args.cell) ≡ c.args.cell = omega (arith, ints) in
    let product : to_z w64 c.args.line *ℤ to_z w64 (of_z w64 c.args.cell) ≡ pos c.args.line *ℤ c.args.cell = ap₂ (λ a b. a *ℤ b) line cell in
    (omega (arith, ints, near.0.0, near.0.1, near.1.0, near.1.1, product), omega (arith, ints, near.0.0, near.0.1, near.1.0, near.1.1, product))
