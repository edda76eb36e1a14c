use Rattle.std.proofs.Common.{◌≡◌, Some, None, pos, neg_ℤ, ◌-ℤ◌, to_z, of_z, w64, arith, ap, ◌∙◌}
use Rattle.std.proofs.lemmas.Int.{ints}
use Rattle.std.proofs.lemmas.Bool.{eq-eqb}
use Rattle.sgm_grid.proofs.NumberLaws.{minus_number}
use Rattle.sgm_grid.proofs.numbers.number.Goals as goal

pub returns : goal.returns
returns c =
    let size = c.in_ok-size-2.field-0 in
    let value : to_z w64 (of_z w64 (pos 0 -ℤ to_z w64 size)) ≡ neg_ℤ (pos size) = omega (arith, ints, c.in_ok-size-2.ensures.within) in
    ap Some value ∙ minus_number c.args.word.now (Some size) (eq-eqb _ _ c.if-word-ne45.false) c.in_ok-size-2.ensures.value

pub returns-in_err-size-2 : goal.returns-in_err-size-2
returns-in_err-size-2 c =
    c.from_residual-in_err-size-2.ensures
    ∙ minus_number c.args.word.now None (eq-eqb _ _ c.if-word-ne45.false) c.in_err-size-2.ensures.value
