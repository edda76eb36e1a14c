use Rattle.std.proofs.Common.{arith, ◌∙◌, sym}
use Rattle.sgm_words.specs.Operands.{of_change}
use Rattle.sgm_stages.specs.Changing.{change_for}
use Rattle.sgm_stages.specs.Made.{change_texts_in}
use Rattle.sgm_stages.specs.Moments.{moment}
use Rattle.sgm_stages.specs.Outputs.{change_files_of}
use Rattle.sgm_stages.specs.Readings.{grid_reading}
use Rattle.sgm_stages.specs.Verdict.{files}
use Rattle.sgm_stages.proofs.Delivering.{settled, delivered}
use Rattle.sgm_stages.proofs.Ending.{ends_delivered, ends_textless, ends_unfetched, ends_unnamed, unchanged, uncounted}
use Rattle.sgm_stages.proofs.Reading.{grids_at}
use Rattle.sgm_stages.proofs.Steps.{shown_along, stop_shown, stops_along}
use Rattle.sgm_stages.proofs.VerdictLaws.{none_changed}
use Rattle.sgm_stages.proofs.change.run_change.Goals as goal

pub returns-in-Err : goal.returns-in-Err
returns-in-Err g c =
    let asked = c.args.operands.now in let held = g.S.Shelf.held c.args.shelf.now in
    rw c.outcome.ensures (ends_unfetched (of_change asked) _ c.in-Err.stop _ _
    (unchanged g.S.Shelf g.O.Sink _ _ c.args.out.now c.in-Err.ensures.keeps)
    (λ told v calls. shown_along v _ _ (sym calls)
    (c.in-Err.ensures.verdict told _ (none_changed 6 (omega arith) asked held)))
    (c.in-Err.ensures.counts (of_change asked) (λ input name is. is) (g.O.Sink.faults c.args.out.now)))

pub returns-in-Err-change_texts : goal.returns-in-Err-change_texts
returns-in-Err-change_texts g c =
    let asked = c.args.operands.now in let held = g.S.Shelf.held c.args.shelf.now in
    let error = c.in-Err-change_texts.error in
    let counted = c.in-Ok.ensures.counts (of_change asked) (λ input name is. is) in
    rw c.outcome-in-Err-change_texts.ensures (ends_textless (of_change asked) _ error _ _
    (unchanged g.S.Shelf g.O.Sink _ _ c.args.out.now c.in-Ok.ensures.keeps)
    (uncounted g.S.Shelf g.O.Sink _ _ c.args.out.now counted)
    (λ told v calls.
    let at = c.in-Ok.ensures.at_hand told in
    let read = grids_at _ _ _ _ _ _ at.earlier at.later c.deref.ensures.value c.deref-2.ensures.value in
    shown_along v _ _ (sym calls ∙ c.in-Ok.ensures.verdict told _ (none_changed 6 (omega arith) asked held))
    (stop_shown (change_for (grid_reading (held asked.earlier)) (grid_reading (held asked.later)))
    (λ t. files (change_files_of asked.out t) t.summary) error
    (stops_along _ _ error read c.in-Err-change_texts.ensures))))

pub returns-in-Ok-name_change : goal.returns-in-Ok-name_change
returns-in-Ok-name_change g c =
    let asked = c.args.operands.now in let held = g.S.Shelf.held c.args.shelf.now in
    let counted = c.in-Ok.ensures.counts (of_change asked) (λ input name is. is) in
    let names = c.in-Ok-name_change in let ends = c.deliver.ensures in
    ends_delivered (of_change asked) _ c.deliver.result names.delivery.files.items names.delivery.summary.items _
    (moment g.S.Shelf g.O.Sink c.gather_grids.new.shelf c.args.out.now) _
    (unchanged g.S.Shelf g.O.Sink _ _ c.args.out.now c.in-Ok.ensures.keeps)
    (uncounted g.S.Shelf g.O.Sink _ _ c.args.out.now counted)
    (λ told v calls.
    let at = c.in-Ok.ensures.at_hand told in
    let read = grids_at _ _ _ _ _ _ at.earlier at.later c.deref.ensures.value c.deref-2.ensures.value in
    delivered _ _ _ _ v names.ensures.files names.ensures.summary
    (settled _ v (change_for (grid_reading (held asked.earlier)) (grid_reading (held asked.later)))
    (λ t. files (change_files_of asked.out t) t.summary) (change_texts_in c.in-Ok-change_texts.texts) calls
    (c.in-Ok.ensures.verdict told _ (none_changed 6 (omega arith) asked held))
    (read ∙ c.in-Ok-change_texts.ensures)))
    names.ensures.named ends.ends ends.files ends.out ends.writing ends.unfinished ends.finished ends.counts

pub returns : goal.returns
returns g c =
    let counted = c.in-Ok.ensures.counts (of_change c.args.operands.now) (λ input name is. is) in
    ends_unnamed (of_change c.args.operands.now) _ _ _
    (unchanged g.S.Shelf g.O.Sink _ _ c.args.out.now c.in-Ok.ensures.keeps)
    (uncounted g.S.Shelf g.O.Sink _ _ c.args.out.now counted)
