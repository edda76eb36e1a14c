use Rattle.std.proofs.Common.{List, All, ap, refl, sym, subst, ◌∙◌}
use Rattle.sgm_stages.specs.Outputs.{OutputFile, IsNamed}
use Rattle.sgm_stages.specs.Deliver.{after_finishing}
use Rattle.sgm_stages.proofs.Delivering.{stop_put, stop_out, stop_writing, stop_not_done}
use Rattle.sgm_stages.proofs.Finishing.{all_finished, finished_stands, leaves_along, stop_stands}
use Rattle.sgm_stages.proofs.delivery.deliver.Goals as goal

pub returns-in-Ok-write_whole-clause-unfinished : goal.returns-in-Ok-write_whole-clause-unfinished
returns-in-Ok-write_whole-clause-unfinished g c = λ asked named.
    finished_stands asked _ _ _ _ named (c.in-Ok.ensures.unfinished ∙ ap (λ (fs : List OutputFile). after_finishing fs (g.S.Shelf.unfinished c.args.shelf.now)) c.deref.ensures.value)

pub returns-in-Ok-write_whole-clause-finished : goal.returns-in-Ok-write_whole-clause-finished
returns-in-Ok-write_whole-clause-finished g c = λ done.
    all_finished _ _ _ (c.in-Ok.ensures.unfinished ∙ ap (λ (fs : List OutputFile). after_finishing fs (g.S.Shelf.unfinished c.args.shelf.now)) c.deref.ensures.value)

pub returns-in-Err-write_whole-clause-unfinished : goal.returns-in-Err-write_whole-clause-unfinished
returns-in-Err-write_whole-clause-unfinished g c = λ asked named.
    finished_stands asked _ _ _ _ named (c.in-Ok.ensures.unfinished ∙ ap (λ (fs : List OutputFile). after_finishing fs (g.S.Shelf.unfinished c.args.shelf.now)) c.deref.ensures.value)

pub returns-in-Err-clause-unfinished : goal.returns-in-Err-clause-unfinished
returns-in-Err-clause-unfinished g c = λ asked named.
    rw c.outcome.ensures (stop_stands asked _ c.in-Err.stop _ _ named (leaves_along _ _ c.in-Err.stop _ _ c.deref.ensures.value c.in-Err.ensures.unfinished))

pub returns-in-Err-clause-files : goal.returns-in-Err-clause-files
returns-in-Err-clause-files g c = λ told. rw c.outcome.ensures (stop_put _ _ _ c.in-Err.stop _ _ c.deref.ensures.value (c.in-Err.ensures.held told))

pub returns-in-Err-clause-out : goal.returns-in-Err-clause-out
returns-in-Err-clause-out g c = λ told. rw c.outcome.ensures (stop_out c.in-Err.stop _ _ _ refl)

pub returns-in-Err-clause-writing : goal.returns-in-Err-clause-writing
returns-in-Err-clause-writing g c = rw c.outcome.ensures (stop_writing c.in-Err.stop _ _)

pub returns-in-Err-clause-finished : goal.returns-in-Err-clause-finished
returns-in-Err-clause-finished g c = λ done. absurd (stop_not_done c.in-Err.stop (sym c.outcome.ensures ∙ done))

pub returns-in-Err-clause-counts : goal.returns-in-Err-clause-counts
returns-in-Err-clause-counts g c = λ asked named.
    let P : List OutputFile → Type 0 = λ fs. All (IsNamed asked) fs in
    rw c.outcome.ensures (c.in-Err.ensures.counts (g.O.Sink.faults c.args.out.now) asked (subst P (sym c.deref.ensures.value) named))
