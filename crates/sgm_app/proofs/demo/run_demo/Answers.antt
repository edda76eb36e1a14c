use Rattle.std.proofs.Common.{◌∙◌, ap, sym, refl, [], List, ℕ, Result}
use Rattle.sgm_outcome.specs.declared.outcome.Refusal.{Refusal}
use Rattle.sgm_stages.specs.Stops.{texts_outcome}
use Rattle.sgm_stages.specs.Verdict.{files, unless_refused}
use Rattle.sgm_app.specs.Verdict.{demo_for}
use Rattle.sgm_stages.proofs.Delivering.{out_along}
use Rattle.sgm_stages.proofs.Early.{early_out, texts_early}
use Rattle.sgm_stages.proofs.Steps.{shown_along, stop_shown}
use Rattle.sgm_app.proofs.demo.run_demo.Goals as goal

pub returns-in-Ok-clause-cause : goal.returns-in-Ok-clause-cause
returns-in-Ok-clause-cause g c =
    shown_along _ (files [] c.as_bytes.result.now) c.deliver_summary.result
    (ap (λ (w : Result (List ℕ) Refusal). unless_refused w (λ s. files [] s)) c.in-Ok.ensures
    ∙ ap (λ (s : List ℕ). files [] s) (sym c.as_bytes.ensures.value))
    c.deliver_summary.ensures.shown

pub returns-in-Ok-clause-out : goal.returns-in-Ok-clause-out
returns-in-Ok-clause-out g c = λ told.
    out_along c.deliver_summary.result _ (files [] c.as_bytes.result.now) _ _
    (ap (λ (s : List ℕ). files [] s) c.as_bytes.ensures.value
    ∙ ap (λ (w : Result (List ℕ) Refusal). unless_refused w (λ s. files [] s)) (sym c.in-Ok.ensures))
    (c.deliver_summary.ensures.out told)

pub returns-in-Err-clause-cause : goal.returns-in-Err-clause-cause
returns-in-Err-clause-cause g c =
    rw c.outcome.ensures (stop_shown (demo_for c.args.number c.args.refine) (λ s. files [] s) c.in-Err.stop c.in-Err.ensures)

pub returns-in-Err-clause-out : goal.returns-in-Err-clause-out
returns-in-Err-clause-out g c = λ told.
    rw c.outcome.ensures (early_out (texts_outcome c.in-Err.stop) _ _ _ (texts_early c.in-Err.stop) refl)
