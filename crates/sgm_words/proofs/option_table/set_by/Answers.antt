use Rattle.std.proofs.Common.{sym, ◌∙◌, arith}
use Rattle.sgm_words.proofs.FirstFaults.{none_but}
use Rattle.sgm_words.proofs.SetBy.{set_first, set_next, set_here, set_end}
use Rattle.sgm_words.proofs.option_table.set_by.Goals as goal

pub loop-place-init : goal.loop-place-init
loop-place-init c = set_first c.args.text.now

pub loop-place-preserved : goal.loop-place-preserved
loop-place-preserved c = set_next c.loop-place.place c.args.text.now _ (omega arith) (sym c.value_for.ensures ∙ none_but _ c.in_default.not-Some) c.loop-place.invariant

pub returns-in-Some-clause-value : goal.returns-in-Some-clause-value
returns-in-Some-clause-value c = set_here c.loop-place.place c.in-Some.value c.args.text.now _ (omega arith) (sym c.value_for.ensures ∙ c.in-Some.is) c.loop-place.invariant

pub returns-clause-value : goal.returns-clause-value
returns-clause-value c = set_end c.loop-place.place c.args.text.now _ (omega arith) c.loop-place.invariant
