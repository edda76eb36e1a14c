use Rattle.std.proofs.Common.{arith, take}
use Rattle.sgm_words.specs.Operands.{bytes_of}
use Rattle.sgm_series.specs.Words.{list_of}
use Rattle.sgm_series.specs.Plans.{verdicts_of}
use Rattle.sgm_series.specs.Turns.{lines_for}
use Rattle.sgm_series.proofs.Completing.{complete}
use Rattle.sgm_series.proofs.Standing.{plan_stands, whole_later}
use Rattle.sgm_series.proofs.series.run_series.Goals as goal

pub returns-clause-cause : goal.returns-clause-cause
returns-clause-cause g c = λ told p calls. (c.carry_out-outcome.ensures.called told p calls).cause

pub returns-clause-stands : goal.returns-clause-stands
returns-clause-stands g c = λ told p calls.
    let ends = c.carry_out-outcome.ensures in let had = (ends.called told p calls).had in (
      had.turns,
      had.had,
      plan_stands (bytes_of c.args.words.now) _ p calls c.carry_out-outcome.result had.turns _ had.files,
      had.out,
      (λ err_told. c.tell.ensures.line err_told (lines_for (take had.turns (verdicts_of p))) _ _ ends.streams.whole (had.lines err_told)),
    )

pub returns-clause-untouched : goal.returns-clause-untouched
returns-clause-untouched g c = c.carry_out-outcome.ensures.streams.untouched

pub returns-clause-unfinished : goal.returns-clause-unfinished
returns-clause-unfinished g c = λ told p calls. (c.carry_out-outcome.ensures.called told p calls).unfinished

pub returns-clause-finished : goal.returns-clause-finished
returns-clause-finished g c = λ told p calls. (c.carry_out-outcome.ensures.called told p calls).finished

pub returns-clause-counts : goal.returns-clause-counts
returns-clause-counts g c = c.carry_out-outcome.ensures.counts

pub returns-clause-entry_counts : goal.returns-clause-entry_counts
returns-clause-entry_counts g c = λ told p calls. (c.carry_out-outcome.ensures.called told p calls).counts

pub returns-clause-usage : goal.returns-clause-usage
returns-clause-usage g c = c.carry_out-outcome.ensures.usage

pub returns-clause-complete : goal.returns-clause-complete
returns-clause-complete g c = λ told p calls.
    let ends = c.carry_out-outcome.ensures in let mine = ends.called told p calls in
    complete (list_of (bytes_of c.args.words.now)) (bytes_of c.args.words.now) _ p c.carry_out-outcome.result _ _ calls mine.cause ends.counts mine.counts

pub returns-clause-line : goal.returns-clause-line
returns-clause-line g c = λ told.
    let ends = c.carry_out-outcome.ensures in let some = ends.streams.lines told in
    (some.0, c.tell.ensures.line told some.0 _ _ ends.streams.whole some.1)

pub returns-clause-err_faults : goal.returns-clause-err_faults
returns-clause-err_faults g c =
    let before = whole_later _ _ _ c.carry_out-outcome.ensures.streams.whole in let after = c.tell.ensures.err_faults in
    omega (arith, before, after)
