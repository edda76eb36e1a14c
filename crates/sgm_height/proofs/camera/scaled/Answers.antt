use Rattle.std.proofs.Common.{◌^◌, ℤ, w64, subst, sym, ◌∙◌, ap₂}
use Rattle.std.specs.Int.{int_div_euclid}
use Rattle.std.proofs.lemmas.Int.{to_z-of_z}
use Rattle.sgm_base.specs.Ranges.{Within}
use Rattle.sgm_height.proofs.Quotients.{dividend_is, divisor_above, divisor_is, quotient_within}
use Rattle.sgm_height.proofs.camera.scaled.Goals as goal

pub div_euclid-requires-clause-no_overflow : goal.div_euclid-requires-clause-no_overflow
div_euclid-requires-clause-no_overflow c e f = divisor_above c.args.shift c.requires.shift e

pub returns-clause-exact : goal.returns-clause-exact
returns-clause-exact c =
    to_z-of_z w64 c.div_euclid.result (record { sfits = c.div_euclid.type_inv })
    ∙ c.div_euclid.ensures
    ∙ ap₂ (λ (t d : ℤ). int_div_euclid t d)
    (dividend_is c.args.offset c.args.baseline c.args.shift c.ranges.offset c.ranges.baseline c.requires.offset c.requires.baseline c.requires.shift)
    (divisor_is c.args.shift c.requires.shift)

pub returns-clause-near : goal.returns-clause-near
returns-clause-near c = subst (Within (2 ^ 57)) (sym (returns-clause-exact c)) (quotient_within _ _ _ c.requires.offset c.requires.baseline c.requires.shift)
