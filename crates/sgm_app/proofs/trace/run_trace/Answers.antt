use Rattle.std.proofs.Common.{arith, ◌∙◌, sym, ap, [], List, ℕ}
use Rattle.sgm_words.specs.Operands.{of_trace}
use Rattle.sgm_app.specs.Certificates.{certificate_for}
use Rattle.sgm_stages.specs.Verdict.{files, calib_of}
use Rattle.sgm_app.proofs.Completing.{out_counts, summary_alone, trace_outputs}
use Rattle.sgm_stages.proofs.Counting.{counts_since}
use Rattle.sgm_stages.proofs.Delivering.{settled, out_along, untouched_by}
use Rattle.sgm_stages.proofs.Ending.{ends_alone, ends_textless, ends_unfetched, unchanged, uncounted}
use Rattle.sgm_stages.proofs.Reading.{image_reads, calib_reads}
use Rattle.sgm_stages.proofs.Steps.{shown_along, stop_shown}
use Rattle.sgm_app.proofs.VerdictLaws.{none_traced}
use Rattle.sgm_app.proofs.trace.run_trace.Goals as goal

pub returns-in-Err-clause-ends : goal.returns-in-Err-clause-ends
returns-in-Err-clause-ends g c =
    let asked = c.args.operands.now in let a = c.args in
    rw c.outcome.ensures (ends_unfetched (of_trace asked) _ c.in-Err.stop _ _
    (unchanged g.S.Shelf g.O.Sink _ _ c.args.out.now c.in-Err.ensures.keeps)
    (λ told v calls. let r = calls.readings in
    shown_along v _ _ (sym calls.is) (c.in-Err.ensures.verdict told _
    (none_traced 4 (omega arith) a.at.dir a.at.x a.at.y a.at.d r.left r.right (calib_of asked r))))
    (c.in-Err.ensures.counts (of_trace asked) (λ input name is. is) (g.O.Sink.faults c.args.out.now)))

pub returns-in-Ok-certificate-clause-ends : goal.returns-in-Ok-certificate-clause-ends
returns-in-Ok-certificate-clause-ends g c =
    let asked = c.args.operands.now in let a = c.args in
    let held = g.S.Shelf.held c.args.shelf.now in
    let kept = c.in-Ok.ensures.keeps in let ends = c.deliver_summary.ensures in
    let given = c.in-Ok.ensures.counts (of_trace asked) (λ input name is. is) in
    let shelf = c.gather.new.shelf in
    let counts = ends.counts (g.S.Shelf.read_faults shelf) (g.S.Shelf.write_faults shelf) in
    ends_alone (of_trace asked) _ c.deliver_summary.result _ _ kept.held kept.writing kept.unfinished
    (λ v calls. trace_outputs asked a.at.dir a.at.x a.at.y a.at.d held v calls)
    (summary_alone c.deliver_summary.result _ _ counts)
    (λ told v calls.
    let r = calls.readings in let are = calls.are_readings in let at = c.in-Ok.ensures.at_hand told in
    shown_along v (files [] c.deref.result.now) c.deliver_summary.result
    (sym (ap (λ (s : List ℕ). files [] s) c.deref.ensures.value
    ∙ settled _ v (certificate_for r.left r.right (calib_of asked r) a.at.dir a.at.x a.at.y a.at.d) (λ t. files [] t)
    c.in-Ok-certificate.text.items calls.is
    (c.in-Ok.ensures.verdict told _
    (none_traced 4 (omega arith) a.at.dir a.at.x a.at.y a.at.d r.left r.right (calib_of asked r)))
    (c.in-Ok-certificate.ensures r.left r.right (calib_of asked r)
    (image_reads _ _ _ r.left at.left c.left.ensures are.left)
    (image_reads _ _ _ r.right at.right c.right.ensures are.right)
    (calib_reads asked _ r c.in-Ok.inputs _ at are c.calib.ensures))))
    ends.shown)
    (λ told told_out v calls.
    let r = calls.readings in let are = calls.are_readings in let at = c.in-Ok.ensures.at_hand told in
    out_along c.deliver_summary.result v (files [] c.deref.result.now) _ _
    (ap (λ (s : List ℕ). files [] s) c.deref.ensures.value
    ∙ settled _ v (certificate_for r.left r.right (calib_of asked r) a.at.dir a.at.x a.at.y a.at.d) (λ t. files [] t)
    c.in-Ok-certificate.text.items calls.is
    (c.in-Ok.ensures.verdict told _
    (none_traced 4 (omega arith) a.at.dir a.at.x a.at.y a.at.d r.left r.right (calib_of asked r)))
    (c.in-Ok-certificate.ensures r.left r.right (calib_of asked r)
    (image_reads _ _ _ r.left at.left c.left.ensures are.left)
    (image_reads _ _ _ r.right at.right c.right.ensures are.right)
    (calib_reads asked _ r c.in-Ok.inputs _ at are c.calib.ensures)))
    (ends.out told_out))
    (λ told. untouched_by c.deliver_summary.result _ _ _ (ends.out told))
    (counts_since (of_trace asked) c.deliver_summary.result _ _ _ _ _ _ given
    (out_counts (of_trace asked) c.deliver_summary.result _ _ counts))

pub returns-clause-ends : goal.returns-clause-ends
returns-clause-ends g c =
    let asked = c.args.operands.now in let a = c.args in
    let given = c.in-Ok.ensures.counts (of_trace asked) (λ input name is. is) in
    rw c.outcome-in-Err-certificate.ensures (ends_textless (of_trace asked) _ c.in-Err-certificate.error _ _
    (unchanged g.S.Shelf g.O.Sink _ _ c.args.out.now c.in-Ok.ensures.keeps)
    (uncounted g.S.Shelf g.O.Sink _ _ c.args.out.now given)
    (λ told v calls.
    let r = calls.readings in let are = calls.are_readings in let at = c.in-Ok.ensures.at_hand told in
    shown_along v _ _ (sym calls.is ∙ c.in-Ok.ensures.verdict told _
    (none_traced 4 (omega arith) a.at.dir a.at.x a.at.y a.at.d r.left r.right (calib_of asked r)))
    (stop_shown (certificate_for r.left r.right (calib_of asked r) a.at.dir a.at.x a.at.y a.at.d) (λ t. files [] t)
    c.in-Err-certificate.error
    (c.in-Err-certificate.ensures r.left r.right (calib_of asked r)
    (image_reads _ _ _ r.left at.left c.left.ensures are.left)
    (image_reads _ _ _ r.right at.right c.right.ensures are.right)
    (calib_reads asked _ r c.in-Ok.inputs _ at are c.calib.ensures)))))
