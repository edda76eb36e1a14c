use Rattle.std.proofs.Common.{◌≡◌, ◌∙◌, refl, sym, ap, List, ℕ, Result, Ok}
use Rattle.sgm_energy.specs.Rays.{pixel_at}
use Rattle.sgm_strip.specs.Scenes.{problem_of}
use Rattle.sgm_trace.specs.Texts.{trace_text}
use Rattle.sgm_outcome.specs.declared.outcome.Refusal.{Refusal}
use Rattle.sgm_app.proofs.CertificateSteps.{Asked, given_inside, refused_outside}
use Rattle.sgm_app.proofs.certificate.certificate_of.Goals as goal

pub returns-then-not-is_inside : goal.returns-then-not-is_inside
returns-then-not-is_inside c =
    let asked : Asked = record { dir = c.args.at.dir; x = c.args.at.x; y = c.args.at.y; d = c.args.at.d } in
    refused_outside asked (problem_of c.args.scene.now) (sym c.is_inside.ensures ∙ c.if-not-is_inside.true)

pub returns : goal.returns
returns c =
    let asked : Asked = record { dir = c.args.at.dir; x = c.args.at.x; y = c.args.at.y; d = c.args.at.d } in
    let g = problem_of c.args.scene.now in
    let text : c.write_trace.new.into.items ≡ trace_text g c.args.at.dir (pixel_at c.args.at.x c.args.at.y) c.args.at.d =
    c.in_ok-write_trace.ensures.ok ∙ rw (c.new-text.ensures.items, c.in_ok-traced.ensures.energy, c.in_ok-traced.ensures.steps) refl in
    given_inside asked g (sym c.is_inside.ensures ∙ c.if-not-is_inside.false)
    ∙ ap (λ (t : List ℕ). let r : Result (List ℕ) Refusal = Ok t in r) (sym text)
