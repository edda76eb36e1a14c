use Rattle.std.proofs.Common.{◌≡◌, sym, subst, List, ℕ, Result, Ok, MatchResult, string_bytes}
use Rattle.sgm_outcome.specs.declared.outcome.Refusal.{Refusal}
use Rattle.sgm_stages.specs.Judge.{StopsFor}
use Rattle.sgm_app.proofs.TextSteps.{demo_at}
use Rattle.sgm_app.proofs.demo.demo_summary.Goals as goal

pub returns : goal.returns
returns g c =
    let same = demo_at c.args.number c.args.refine c.in_ok-left.left c.in_ok-left.right c.plain.result c.in_ok-left.ensures.left c.in_ok-left.ensures.right c.plain.ensures in
    let P : Result (List ℕ) Refusal → Type 0 = λ w. MatchResult c.judged_summary.result (λ summary. w ≡ Ok (string_bytes summary)) (StopsFor w) in
    subst P (sym same) c.judged_summary.ensures
