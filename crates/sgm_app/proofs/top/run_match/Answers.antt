use Rattle.std.proofs.Common.{Ok, Err, sym}
use Rattle.sgm_words.specs.Operands.{of_match}
use Rattle.sgm_stages.specs.Moments.{moment}
use Rattle.sgm_app.proofs.Answering.{made_of, made_is, fetch_shown, refusal_shown}
use Rattle.sgm_stages.proofs.Delivering.{delivered}
use Rattle.sgm_stages.proofs.Ending.{ends_delivered, ends_textless, ends_unfetched, ends_unnamed, unchanged, uncounted}
use Rattle.sgm_app.proofs.top.run_match.Goals as goal

pub returns-in-Err : goal.returns-in-Err
returns-in-Err g c =
    let asked = c.args.operands.now in
    rw c.outcome.ensures (ends_unfetched (of_match asked) _ c.in-Err.stop _ _
    (unchanged g.S.Shelf g.O.Sink _ _ c.args.out.now c.in-Err.ensures.keeps)
    (λ told v calls. fetch_shown asked c.args.refine _ v _ calls (c.in-Err.ensures.verdict told))
    (c.in-Err.ensures.counts (of_match asked) (λ input name is. is) (g.O.Sink.faults c.args.out.now)))

pub returns-in-Err-texts : goal.returns-in-Err-texts
returns-in-Err-texts g c =
    let asked = c.args.operands.now in
    let stopped = made_of c.args.refine c.in-Ok.inputs _ _ _ (Err c.in-Err-texts.error)
    c.left.ensures c.right.ensures c.calib.ensures c.in-Err-texts.ensures in
    let counted = c.in-Ok.ensures.counts (of_match asked) (λ input name is. is) in
    rw c.outcome-in-Err-texts.ensures (ends_textless (of_match asked) _ c.in-Err-texts.error _ _
    (unchanged g.S.Shelf g.O.Sink _ _ c.args.out.now c.in-Ok.ensures.keeps)
    (uncounted g.S.Shelf g.O.Sink _ _ c.args.out.now counted)
    (λ told v calls. refusal_shown asked v c.in-Err-texts.error
    (made_is asked c.args.refine _ v c.in-Ok.inputs (Err c.in-Err-texts.error) calls
    (c.in-Ok.ensures.verdict told) (c.in-Ok.ensures.at_hand told) stopped)))

pub returns-in-Ok-name_texts : goal.returns-in-Ok-name_texts
returns-in-Ok-name_texts g c =
    let asked = c.args.operands.now in
    let made = made_of c.args.refine c.in-Ok.inputs _ _ _ (Ok c.in-Ok-texts.texts)
    c.left.ensures c.right.ensures c.calib.ensures c.in-Ok-texts.ensures in
    let counted = c.in-Ok.ensures.counts (of_match asked) (λ input name is. is) in
    let names = c.in-Ok-name_texts in let ends = c.deliver.ensures in
    ends_delivered (of_match asked) _ c.deliver.result names.delivery.files.items names.delivery.summary.items _
    (moment g.S.Shelf g.O.Sink c.gather.new.shelf c.args.out.now) _
    (unchanged g.S.Shelf g.O.Sink _ _ c.args.out.now c.in-Ok.ensures.keeps)
    (uncounted g.S.Shelf g.O.Sink _ _ c.args.out.now counted)
    (λ told v calls. delivered _ _ _ _ v names.ensures.files names.ensures.summary
    (sym (made_is asked c.args.refine _ v c.in-Ok.inputs (Ok c.in-Ok-texts.texts) calls
    (c.in-Ok.ensures.verdict told) (c.in-Ok.ensures.at_hand told) made)))
    names.ensures.named ends.ends ends.files ends.out ends.writing ends.unfinished ends.finished ends.counts

pub returns : goal.returns
returns g c =
    let counted = c.in-Ok.ensures.counts (of_match c.args.operands.now) (λ input name is. is) in
    ends_unnamed (of_match c.args.operands.now) _ _ _
    (unchanged g.S.Shelf g.O.Sink _ _ c.args.out.now c.in-Ok.ensures.keeps)
    (uncounted g.S.Shelf g.O.Sink _ _ c.args.out.now counted)
