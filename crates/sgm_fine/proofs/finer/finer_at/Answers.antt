use Rattle.std.proofs.Common.{◌≡◌, ℤ, to_z, of_z, w32, arith, refl, ap, subst, ◌∙◌}
use Rattle.std.proofs.lemmas.Int.{ints}
use Rattle.sgm_base.specs.Disparities.{IsFirst}
use Rattle.sgm_fine.specs.Finer.{finer_value}
use Rattle.sgm_fine.specs.Samples.{Centre, centre}
use Rattle.sgm_fine.specs.Small.{HoldsWhole}
use Rattle.sgm_fine.proofs.PixelSums.{is_finer}
use Rattle.sgm_fine.proofs.WholeSamples.{whole_has, whole_parts}
use Rattle.sgm_fine.proofs.finer.finer_at.Goals as goal

-- the first disparity, as the code holds it
first_kept : (z : ℤ) → IsFirst z → to_z w32 (of_z w32 z) ≡ z
first_kept z h = omega (arith, ints, h.0, h.1)

pub returns-in-None-clause-value : goal.returns-in-None-clause-value
returns-in-None-clause-value c = λ count e.
    let ground = c.args.ground.now in
    let at : ℤ → Centre = λ z. centre ground.left ground.right ground.map z c.args.x c.args.y c.args.m in
    let same = first_kept ground.first c.requires.pixel.2 in
    let lies = c.lie_of-lie.ensures.holds (at _) refl refl refl c.slopes_at.ensures.holds in
    c.by_samples.ensures.value count e lies ∙ ap (λ z. finer_value count (at z)) same

pub returns-in-Some-clause-value : goal.returns-in-Some-clause-value
returns-in-Some-clause-value c = λ count e.
    let ground = c.args.ground.now in
    let at : ℤ → Centre = λ z. centre ground.left ground.right ground.map z c.args.x c.args.y c.args.m in
    let same = first_kept ground.first c.requires.pixel.2 in
    let lies = c.lie_of-lie.ensures.holds (at _) refl refl refl c.slopes_at.ensures.holds in
    let whole = subst (λ z. HoldsWhole c.in-Some.window (at z)) same (c.in-Some.ensures.holds ground.map lies) in
    let parts = whole_parts c.parts_of.result c.in-Some.window (at ground.first) whole c.in-Some.ensures.kept (c.parts_of.ensures.holds _ c.window_sums.ensures.holds) in
    c.refined.ensures.value (at ground.first) count parts refl e ∙ is_finer count (at ground.first) (whole_has c.in-Some.window (at ground.first) whole)

pub refined-requires-clause-small : goal.refined-requires-clause-small
refined-requires-clause-small c = record {
  window = c.in-Some.window;
  holds = c.parts_of.ensures.holds c.in-Some.window c.window_sums.ensures.holds;
  small = c.in-Some.ensures.kept;
}
