use Rattle.std.proofs.Common.{is_some, refl, sym, ap, ◌∙◌}
use Rattle.sgm_fine.specs.Samples.{Centre, centre}
use Rattle.sgm_fine.proofs.PixelSums.{is_finer, not_finer, pixel_parts}
use Rattle.sgm_fine.proofs.finer.by_samples.Goals as goal

pub returns-in-None-clause-value : goal.returns-in-None-clause-value
returns-in-None-clause-value c = λ count e lies.
    let ground = c.args.ground.now in
    let p : Centre = centre ground.left ground.right ground.map c.args.at.first c.args.at.x c.args.at.y c.args.at.value in
    not_finer count p (sym (c.samples_at.ensures.none ground.map lies) ∙ ap is_some c.in-None.is)

pub returns-in-Some-clause-value : goal.returns-in-Some-clause-value
returns-in-Some-clause-value c = λ count e lies.
    let ground = c.args.ground.now in
    let p : Centre = centre ground.left ground.right ground.map c.args.at.first c.args.at.x c.args.at.y c.args.at.value in
    let all = sym (c.samples_at.ensures.none ground.map lies) ∙ ap is_some c.in-Some.is in
    let is = c.in-Some.ensures.some ground.map lies in
    let parts = pixel_parts c.parts_of.result c.small_window.result c.in-Some.window p (c.parts_of.ensures.holds _ c.window_sums.ensures.holds) c.small_window.ensures.holds is in
    c.refined.ensures.value p count parts refl e ∙ is_finer count p all

pub refined-requires-clause-small : goal.refined-requires-clause-small
refined-requires-clause-small c = record {
  window = c.small_window.result;
  holds = c.parts_of.ensures.holds c.small_window.result c.window_sums.ensures.holds;
  small = c.small_window.ensures.kept;
}
