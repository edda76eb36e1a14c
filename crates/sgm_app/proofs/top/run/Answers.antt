use Rattle.sgm_app.proofs.Completing.{distinct_verdict, completes_run, is_told, no_file_fault, usage_by}
use Rattle.sgm_stages.proofs.Holding.{stand}
use Rattle.sgm_app.proofs.WordsEnding.{end_called, end_counts, end_unfinished, end_untouched, end_writing}
use Rattle.sgm_app.proofs.top.run.Goals as goal

pub returns-clause-cause : goal.returns-clause-cause
returns-clause-cause g c = λ told v calls. (end_called _ _ _ _ _ c.carry_out-outcome.ensures told v calls).cause

pub returns-clause-files : goal.returns-clause-files
returns-clause-files g c = λ told v calls.
    stand c.carry_out-outcome.result v _ _ (distinct_verdict _ _ _ v calls)
    (end_called _ _ _ _ _ c.carry_out-outcome.ensures told v calls).files

pub returns-clause-writing : goal.returns-clause-writing
returns-clause-writing g c = end_writing _ _ _ _ _ c.carry_out-outcome.ensures

pub returns-clause-unfinished : goal.returns-clause-unfinished
returns-clause-unfinished g c = end_unfinished _ _ _ _ _ c.carry_out-outcome.ensures

pub returns-clause-finished : goal.returns-clause-finished
returns-clause-finished g c = λ told v calls. (end_called _ _ _ _ _ c.carry_out-outcome.ensures told v calls).finished

pub returns-clause-out : goal.returns-clause-out
returns-clause-out g c = λ told told_out v calls.
    (end_called _ _ _ _ _ c.carry_out-outcome.ensures told v calls).out told_out

pub returns-clause-untouched : goal.returns-clause-untouched
returns-clause-untouched g c = end_untouched _ _ _ _ _ c.carry_out-outcome.ensures

pub returns-clause-counts : goal.returns-clause-counts
returns-clause-counts g c = end_counts _ _ _ _ _ c.carry_out-outcome.ensures

pub returns-clause-usage : goal.returns-clause-usage
returns-clause-usage g c =
    usage_by _ _ _ c.carry_out-outcome.result _ _ (end_counts _ _ _ _ _ c.carry_out-outcome.ensures)

pub returns-clause-complete : goal.returns-clause-complete
returns-clause-complete g c = λ told v calls.
    let ends = end_called _ _ _ _ _ c.carry_out-outcome.ensures told v calls in
    completes_run _ _ _ (g.S.Shelf.held c.args.shelf.now) _ v c.carry_out-outcome.result _ _
    (is_told _ _ told) calls ends.cause
    (stand c.carry_out-outcome.result v _ _ (distinct_verdict _ _ _ v calls) ends.files)
    (end_counts _ _ _ _ _ c.carry_out-outcome.ensures)

pub returns-clause-sure : goal.returns-clause-sure
returns-clause-sure g c = λ reads writes.
    no_file_fault _ _ _ c.carry_out-outcome.result _ _ reads writes
    (end_counts _ _ _ _ _ c.carry_out-outcome.ensures)

pub returns-clause-line : goal.returns-clause-line
returns-clause-line g c = c.write_fault.ensures.line

pub returns-clause-err_faults : goal.returns-clause-err_faults
returns-clause-err_faults g c = c.write_fault.ensures.faults
