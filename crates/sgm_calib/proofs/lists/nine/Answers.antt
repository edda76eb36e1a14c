use Rattle.std.proofs.Common.{◌∙◌, ◌≤ℤ◌, ℤ, arith}
use Rattle.std.proofs.lemmas.Grind.{common_steps}
use Rattle.std.proofs.lemmas.Result.{err_from_is_err_and}
use Rattle.std.proofs.lemmas.List.Elements.{All-same, All-map}
use Rattle.serde_json.specs.View.{view}
use Rattle.sgm_calib.specs.Rows.{meant, least, greatest}
use Rattle.sgm_calib.proofs.ListLemmas.{amount}
use Rattle.sgm_calib.proofs.WarpLemmas.{amounts, same_amounts}
use Rattle.sgm_calib.proofs.lists.nine.Goals as goal

pub returns-clause-value : goal.returns-clause-value
returns-clause-value c =
    same_amounts c.loop-index.entries c.in_ok-items.items.now 9 c.loop-index.invariant.0 c.in_ok-items.ensures.count
    (λ k h. c.loop-index.invariant.1 k (omega (arith, h, c.loop-index-test.false)))
    ∙ c.in_ok-items.ensures.value

pub returns-clause-range : goal.returns-clause-range
returns-clause-range c =
    let form = (meant c.args.row.now).form in
    let d = view c.args.object.now in
    All-same (λ (z : ℤ). (least form d ≤ℤ z) × (z ≤ℤ greatest form c.args.place d)) c.loop-index.entries (amounts c.in_ok-items.items.now)
    (same_amounts c.loop-index.entries c.in_ok-items.items.now 9 c.loop-index.invariant.0 c.in_ok-items.ensures.count
    (λ k h. c.loop-index.invariant.1 k (omega (arith, h, c.loop-index-test.false))))
    (All-map (λ (z : ℤ). (least form d ≤ℤ z) × (z ≤ℤ greatest form c.args.place d)) (λ v. amount (view v)) c.in_ok-items.items.now c.in_ok-items.ensures.range)

pub returns-in_err-items-clause-fault : goal.returns-in_err-items-clause-fault
returns-in_err-items-clause-fault c =
    let p = err_from_is_err_and c.from_residual.result c.from_residual.ensures.1 in
    rw (p.1, p.2) c.in_err-items.ensures.fault

pub returns-clause-ok : goal.returns-clause-ok
returns-clause-ok c = c.in_ok-items.ensures.ok

pub loop-index-preserved : goal.loop-index-preserved
loop-index-preserved c = (grind (arith, common_steps), grind (arith, common_steps))
