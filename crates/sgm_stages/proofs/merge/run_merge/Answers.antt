use Rattle.std.proofs.Common.{◌∙◌, sym, arith, option_map}
use Rattle.sgm_words.specs.Operands.{of_merge}
use Rattle.sgm_stages.specs.Ends.{names_listed, told_by}
use Rattle.sgm_stages.specs.Made.{merge_texts_in, plan_in}
use Rattle.sgm_stages.specs.Moments.{moment}
use Rattle.sgm_stages.specs.Verdict.{calib_named}
use Rattle.sgm_stages.proofs.Counting.{counts_since}
use Rattle.sgm_stages.proofs.Delivering.{delivered}
use Rattle.sgm_stages.proofs.Ending.{ends_delivered, ends_early, ends_textless, ends_unfetched, ends_unnamed}
use Rattle.sgm_stages.proofs.Ending.{keeps_both, unchanged, uncounted}
use Rattle.sgm_stages.proofs.MergeSteps.{calib_at, names_known, plan_same, plan_shown, to_made, to_shown}
use Rattle.sgm_stages.proofs.Steps.{shown_along, stops_along}
use Rattle.sgm_stages.proofs.VerdictLaws.{none_merged}
use Rattle.sgm_stages.proofs.merge.run_merge.Goals as goal

pub returns-in-Err : goal.returns-in-Err
returns-in-Err g c =
    let asked = c.args.operands.now in let held = g.S.Shelf.held c.args.shelf.now in
    let listed = option_map (names_listed asked) (told_by g.S.Shelf.tells held) in
    rw c.outcome.ensures (ends_unfetched (of_merge asked listed) _ c.in-Err.stop _ _
    (unchanged g.S.Shelf g.O.Sink _ _ c.args.out.now c.in-Err.ensures.keeps)
    (λ told v calls. shown_along v _ _ (sym calls.is)
    (c.in-Err.ensures.verdict told _ (none_merged 4 (omega arith) asked.out held _ _)))
    (c.in-Err.ensures.counts listed (g.O.Sink.faults c.args.out.now)))

pub returns-in-Err-plan_merge : goal.returns-in-Err-plan_merge
returns-in-Err-plan_merge g c =
    let asked = c.args.operands.now in let held = g.S.Shelf.held c.args.shelf.now in
    let listed = option_map (names_listed asked) (told_by g.S.Shelf.tells held) in
    let error = c.in-Err-plan_merge.error in
    rw c.outcome-in-Err-plan_merge.ensures (ends_textless (of_merge asked listed) _ error _ _
    (unchanged g.S.Shelf g.O.Sink _ _ c.args.out.now c.in-Ok.ensures.keeps)
    (uncounted g.S.Shelf g.O.Sink _ _ c.args.out.now (c.in-Ok.ensures.counts listed))
    (λ told v calls.
    let at = c.in-Ok.ensures.at_hand told in
    plan_shown asked held v calls error (c.in-Ok.ensures.verdict told)
    (stops_along _ _ error
    (plan_same asked held calls.calib c.list.result.now _ c.out.result.now at.list c.list.ensures c.out.ensures)
    (c.in-Err-plan_merge.ensures.plan (calib_named asked.calib calls.calib)
    (calib_at asked held v _ _ calls at c.calib.ensures)))))

pub returns-in-Err-merge_entries : goal.returns-in-Err-merge_entries
returns-in-Err-merge_entries g c =
    let asked = c.args.operands.now in let held = g.S.Shelf.held c.args.shelf.now in
    let listed = option_map (names_listed asked) (told_by g.S.Shelf.tells held) in
    let known = of_merge asked listed in
    ends_early known _ c.in-Err-merge_entries.outcome _ _ c.in-Err-merge_entries.ensures.end
    (unchanged g.S.Shelf g.O.Sink _ _ c.args.out.now
    (keeps_both g.S.Shelf _ _ _ c.in-Ok.ensures.keeps c.in-Err-merge_entries.ensures.keeps))
    (λ told v calls.
    let at = c.in-Ok.ensures.at_hand told in
    to_shown asked held _ v calls (plan_in c.in-Ok-plan_merge.plan) c.in-Err-merge_entries.outcome
    (c.in-Ok.ensures.verdict told)
    (plan_same asked held calls.calib c.list.result.now _ c.out.result.now at.list c.list.ensures c.out.ensures
    ∙ c.in-Ok-plan_merge.ensures.plan (calib_named asked.calib calls.calib)
    (calib_at asked held v _ _ calls at c.calib.ensures))
    (c.in-Ok.ensures.keeps.held told) (c.in-Err-merge_entries.ensures.texts told asked.out))
    (counts_since known c.in-Err-merge_entries.outcome _ _ (g.O.Sink.faults c.args.out.now) _ _ _
    (c.in-Ok.ensures.counts listed)
    (c.in-Err-merge_entries.ensures.counts known
    (names_known asked g.S.Shelf.tells held _ c.list.result.now _ c.in-Ok-plan_merge.ensures.names
    (λ told. ((c.in-Ok.ensures.at_hand told).list, c.list.ensures))) (g.O.Sink.faults c.args.out.now)))

pub returns-in-Ok-name_merge : goal.returns-in-Ok-name_merge
returns-in-Ok-name_merge g c =
    let asked = c.args.operands.now in let held = g.S.Shelf.held c.args.shelf.now in
    let listed = option_map (names_listed asked) (told_by g.S.Shelf.tells held) in
    let known = of_merge asked listed in
    let first = c.in-Ok.ensures.counts listed in
    let second = c.in-Ok-merge_entries.ensures.counts known
    (names_known asked g.S.Shelf.tells held _ c.list.result.now _ c.in-Ok-plan_merge.ensures.names
    (λ told. ((c.in-Ok.ensures.at_hand told).list, c.list.ensures))) in
    let names = c.in-Ok-name_merge in let ends = c.deliver.ensures in
    ends_delivered known _ c.deliver.result names.delivery.files.items names.delivery.summary.items _
    (moment g.S.Shelf g.O.Sink c.merge_entries.new.shelf c.args.out.now) _
    (unchanged g.S.Shelf g.O.Sink _ _ c.args.out.now
    (keeps_both g.S.Shelf _ _ _ c.in-Ok.ensures.keeps c.in-Ok-merge_entries.ensures.keeps))
    (uncounted g.S.Shelf g.O.Sink _ _ c.args.out.now (second.0 ∙ first.0, second.1 ∙ first.1))
    (λ told v calls.
    let at = c.in-Ok.ensures.at_hand told in
    delivered _ _ _ _ v names.ensures.files names.ensures.summary
    (to_made asked held _ v calls (plan_in c.in-Ok-plan_merge.plan) (merge_texts_in c.in-Ok-merge_entries.texts)
    (c.in-Ok.ensures.verdict told)
    (plan_same asked held calls.calib c.list.result.now _ c.out.result.now at.list c.list.ensures c.out.ensures
    ∙ c.in-Ok-plan_merge.ensures.plan (calib_named asked.calib calls.calib)
    (calib_at asked held v _ _ calls at c.calib.ensures))
    (c.in-Ok.ensures.keeps.held told) (c.in-Ok-merge_entries.ensures.texts told asked.out)))
    (names.ensures.named listed) ends.ends ends.files ends.out ends.writing ends.unfinished ends.finished
    ends.counts

pub returns : goal.returns
returns g c =
    let asked = c.args.operands.now in let held = g.S.Shelf.held c.args.shelf.now in
    let listed = option_map (names_listed asked) (told_by g.S.Shelf.tells held) in
    let known = of_merge asked listed in
    let first = c.in-Ok.ensures.counts listed in
    let second = c.in-Ok-merge_entries.ensures.counts known
    (names_known asked g.S.Shelf.tells held _ c.list.result.now _ c.in-Ok-plan_merge.ensures.names
    (λ told. ((c.in-Ok.ensures.at_hand told).list, c.list.ensures))) in
    ends_unnamed known _ _ _
    (unchanged g.S.Shelf g.O.Sink _ _ c.args.out.now
    (keeps_both g.S.Shelf _ _ _ c.in-Ok.ensures.keeps c.in-Ok-merge_entries.ensures.keeps))
    (uncounted g.S.Shelf g.O.Sink _ _ c.args.out.now (second.0 ∙ first.0, second.1 ∙ first.1))
