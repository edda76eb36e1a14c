use Rattle.std.proofs.Common.{◌∙◌, ap, sym, Some, None, Result, Ok}
use Rattle.sgm_outcome.specs.declared.outcome.Refusal.{Refusal}
use Rattle.sgm_stages.specs.Changing.{GridTexts, ground_refusal}
use Rattle.sgm_stages.proofs.Ground.{on_ground, same_ground}
use Rattle.sgm_stages.proofs.change_pipeline.grid_texts.Goals as goal

pub returns-in-Some : goal.returns-in-Some
returns-in-Some c =
    let a = c.args.earlier.now in let b = c.args.later.now in
    on_ground a b (Some c.in-Some.refusal)
    (ap (λ s. ground_refusal s b.spec) (sym c.spec.ensures.spec) ∙ ap (λ s. ground_refusal c.spec.result s) (sym c.spec-2.ensures.spec) ∙ sym c.in-Some.ensures)

pub of-requires : goal.of-requires
of-requires c =
    let a = c.args.earlier.now in let b = c.args.later.now in
    same_ground a.spec b.spec
    (ap (λ s. ground_refusal s b.spec) (sym c.spec.ensures.spec) ∙ ap (λ s. ground_refusal c.spec.result s) (sym c.spec-2.ensures.spec) ∙ sym c.in_default.ensures)

pub returns : goal.returns
returns c =
    let a = c.args.earlier.now in let b = c.args.later.now in
    on_ground a b None
    (ap (λ s. ground_refusal s b.spec) (sym c.spec.ensures.spec) ∙ ap (λ s. ground_refusal c.spec.result s) (sym c.spec-2.ensures.spec) ∙ sym c.in_default.ensures)
    ∙ ap (λ (t : GridTexts). let r : Result GridTexts Refusal = Ok t in r) (sym c.in_ok-made.ensures)
