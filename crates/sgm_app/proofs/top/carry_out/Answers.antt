use Rattle.std.proofs.Common.{◌≡◌, ◌∙◌, refl, sym, subst, option_map}
use Rattle.sgm_words.specs.Operands.{Operands, ChangeOperands, MergeOperands, bytes_of}
use Rattle.sgm_words.specs.Operands.{operands, change_operands, merge_operands}
use Rattle.sgm_words.specs.Operands.{of_none, of_match, of_trace, of_change, of_merge}
use Rattle.sgm_words.specs.declared.options.Options.TheVariants as options
use Rattle.sgm_stages.specs.Calls.{ChangeCallsFor, MergeCallsFor}
use Rattle.sgm_app.specs.Calls.{MatchCallsFor, TraceCallsFor}
use Rattle.sgm_stages.specs.Ends.{names_listed}
use Rattle.sgm_stages.specs.Moments.{moment, told_at}
use Rattle.sgm_stages.specs.RunEnds.{RunEnds}
use Rattle.sgm_app.specs.Verdict.{demoed}
use Rattle.sgm_app.proofs.Completing.{demo_outputs, out_counts, summary_alone}
use Rattle.sgm_stages.proofs.Delivering.{out_along, untouched_by}
use Rattle.sgm_stages.proofs.Ending.{ends_alone}
use Rattle.sgm_stages.proofs.Steps.{shown_along}
use Rattle.sgm_app.proofs.WordsEnding.{read_so, words_end, words_fault}
use Rattle.sgm_app.proofs.top.carry_out.Goals as goal

pub returns-in-Match : goal.returns-in-Match
returns-in-Match g c =
    let before = moment g.S.Shelf g.O.Sink c.args.shelf.now c.args.out.now in
    let now = moment g.S.Shelf g.O.Sink c.run_match.new.shelf c.run_match.new.out in
    let Q : Operands → Type 0 = λ asked.
    RunEnds (of_match asked) (MatchCallsFor asked c.in-Match.refine) c.run_match.result before now in
    words_end _ _ (options.Match c.in-Match.strips c.in-Match.workers c.in-Match.refine)
    (MatchCallsFor (operands (bytes_of c.args.words.now)) c.in-Match.refine) _ before now
    (read_so _ _ _ _ c.read_words.ensures.exact c.in-Ok.is c.in-Match.is) (λ v calls. calls)
    (subst Q c.of.ensures c.run_match.ensures)

pub returns-in-Demo : goal.returns-in-Demo
returns-in-Demo g c =
    let before = moment g.S.Shelf g.O.Sink c.args.shelf.now c.args.out.now in
    let now = moment g.S.Shelf g.O.Sink c.args.shelf.now c.run_demo.new.out in
    let number = c.in-Demo.number in let refine = c.in-Demo.refine in
    let ends = c.run_demo.ensures in
    let counts = ends.counts (g.S.Shelf.read_faults c.args.shelf.now) (g.S.Shelf.write_faults c.args.shelf.now) in
    words_end _ _ (options.Demo number c.in-Demo.strips c.in-Demo.workers refine)
    (λ held v. demoed number refine ≡ v) _ before now
    (read_so _ _ _ _ c.read_words.ensures.exact c.in-Ok.is c.in-Demo.is) (λ v calls. calls)
    (ends_alone of_none (λ held v. demoed number refine ≡ v) c.run_demo.result before now
    (λ told. refl) refl refl (λ v calls. demo_outputs number refine v calls)
    (summary_alone c.run_demo.result _ _ counts)
    (λ told v calls. shown_along v _ c.run_demo.result (sym calls) ends.cause)
    (λ told told_out v calls. out_along c.run_demo.result v _ _ _ calls (ends.out told_out))
    (λ told. untouched_by c.run_demo.result _ _ _ (ends.out told))
    (out_counts of_none c.run_demo.result _ _ counts))

pub returns-in-Trace : goal.returns-in-Trace
returns-in-Trace g c =
    let before = moment g.S.Shelf g.O.Sink c.args.shelf.now c.args.out.now in
    let now = moment g.S.Shelf g.O.Sink c.run_trace.new.shelf c.run_trace.new.out in
    let at = c.in-Trace in
    let Q : Operands → Type 0 = λ asked.
    RunEnds (of_trace asked) (TraceCallsFor asked at.dir at.x at.y at.d) c.run_trace.result before now in
    words_end _ _ (options.Trace at.dir at.x at.y at.d)
    (TraceCallsFor (operands (bytes_of c.args.words.now)) at.dir at.x at.y at.d) _ before now
    (read_so _ _ _ _ c.read_words.ensures.exact c.in-Ok.is at.is) (λ v calls. calls)
    (subst Q c.of-in-Trace.ensures c.run_trace.ensures.ends)

pub returns-in-Change : goal.returns-in-Change
returns-in-Change g c =
    let before = moment g.S.Shelf g.O.Sink c.args.shelf.now c.args.out.now in
    let now = moment g.S.Shelf g.O.Sink c.run_change.new.shelf c.run_change.new.out in
    let Q : ChangeOperands → Type 0 = λ asked.
    RunEnds (of_change asked) (ChangeCallsFor asked) c.run_change.result before now in
    words_end _ _ options.Change (ChangeCallsFor (change_operands (bytes_of c.args.words.now))) _ before now
    (read_so _ _ _ _ c.read_words.ensures.exact c.in-Ok.is c.in-Change.is) (λ v calls. calls)
    (subst Q c.of-in-Change.ensures c.run_change.ensures)

pub returns-in-Merge : goal.returns-in-Merge
returns-in-Merge g c =
    let before = moment g.S.Shelf g.O.Sink c.args.shelf.now c.args.out.now in
    let now = moment g.S.Shelf g.O.Sink c.run_merge.new.shelf c.run_merge.new.out in
    let Q : MergeOperands → Type 0 = λ asked.
    RunEnds (of_merge asked (option_map (names_listed asked) (told_at before))) (MergeCallsFor asked)
    c.run_merge.result before now in
    words_end _ _ options.Merge (MergeCallsFor (merge_operands (bytes_of c.args.words.now))) _ before now
    (read_so _ _ _ _ c.read_words.ensures.exact c.in-Ok.is c.in-Merge.is) (λ v calls. calls)
    (subst Q c.of-in-Merge.ensures c.run_merge.ensures)

pub returns-in-Err : goal.returns-in-Err
returns-in-Err g c =
    words_fault _ _ c.in-Err.fault (moment g.S.Shelf g.O.Sink c.args.shelf.now c.args.out.now)
    (sym c.read_words.ensures.exact ∙ c.in-Err.is)
