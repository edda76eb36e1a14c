use Rattle.std.proofs.lemmas.Nat.{mod_below}
use Rattle.std.proofs.Common.{◌≡◌, ◌%◌, ℤ, w64, to_z, of_z, ◌∙◌, arith}
use Rattle.std.proofs.lemmas.Int.{ints}
use Rattle.sgm_rectify.specs.Places.{blended}
use Rattle.sgm_rectify.proofs.Sums.{kept32, ap4}
use Rattle.sgm_rectify.proofs.place.meshed.Goals as goal

pub returns-clause-u : goal.returns-clause-u
returns-clause-u c =
    let result_kept : to_z w64 (of_z w64 c.blended-u.result) ≡ c.blended-u.result = omega (arith, ints, c.blended-u.type_inv) in
    let value : ℤ → ℤ → ℤ → ℤ → ℤ = λ p q r t. blended c.args.step (c.args.x % c.args.step) (c.args.y % c.args.step) p q r t in
    result_kept ∙ c.blended-u.ensures
    ∙ ap4 value
    (kept32 c.node-u00.result.0 c.node-u00.ensures.kept.0 ∙ c.node-u00.ensures.u)
    (kept32 c.node-u10.result.0 c.node-u10.ensures.kept.0 ∙ c.node-u10.ensures.u)
    (kept32 c.node-u01.result.0 c.node-u01.ensures.kept.0 ∙ c.node-u01.ensures.u)
    (kept32 c.node-u11.result.0 c.node-u11.ensures.kept.0 ∙ c.node-u11.ensures.u)

pub returns-clause-v : goal.returns-clause-v
returns-clause-v c =
    let result_kept : to_z w64 (of_z w64 c.blended-v.result) ≡ c.blended-v.result = omega (arith, ints, c.blended-v.type_inv) in
    let value : ℤ → ℤ → ℤ → ℤ → ℤ = λ p q r t. blended c.args.step (c.args.x % c.args.step) (c.args.y % c.args.step) p q r t in
    result_kept ∙ c.blended-v.ensures
    ∙ ap4 value
    (kept32 c.node-u00.result.1 c.node-u00.ensures.kept.1 ∙ c.node-u00.ensures.v)
    (kept32 c.node-u10.result.1 c.node-u10.ensures.kept.1 ∙ c.node-u10.ensures.v)
    (kept32 c.node-u01.result.1 c.node-u01.ensures.kept.1 ∙ c.node-u01.ensures.v)
    (kept32 c.node-u11.result.1 c.node-u11.ensures.kept.1 ∙ c.node-u11.ensures.v)

pub blended-v-requires-clause-positive : goal.blended-v-requires-clause-positive
blended-v-requires-clause-positive c = c.requires.step.0

pub blended-v-requires-clause-step : goal.blended-v-requires-clause-step
blended-v-requires-clause-step c = c.requires.step.1

pub blended-u-requires-clause-a : goal.blended-u-requires-clause-a
blended-u-requires-clause-a c = mod_below c.args.x c.args.step c.requires.step.0

pub blended-u-requires-clause-b : goal.blended-u-requires-clause-b
blended-u-requires-clause-b c = mod_below c.args.y c.args.step c.requires.step.0

pub blended-v-requires-clause-a : goal.blended-v-requires-clause-a
blended-v-requires-clause-a c = mod_below c.args.x c.args.step c.requires.step.0

pub blended-v-requires-clause-b : goal.blended-v-requires-clause-b
blended-v-requires-clause-b c = mod_below c.args.y c.args.step c.requires.step.0
