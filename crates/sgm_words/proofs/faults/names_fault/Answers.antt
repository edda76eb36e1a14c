use Rattle.std.proofs.Common.{sym, ◌∙◌, arith}
use Rattle.sgm_words.proofs.FirstFaults.{first_begins, first_next, first_here, first_end, none_by}
use Rattle.sgm_words.proofs.faults.names_fault.Goals as goal

pub loop-position-init : goal.loop-position-init
loop-position-init c = first_begins _ _ _ _ (omega arith)

pub loop-position-preserved : goal.loop-position-preserved
loop-position-preserved c =
    first_next _ c.loop-position.position _ _ (omega arith) (sym c.name_fault-fault.ensures ∙ none_by _ (sym c.is_some.ensures ∙ c.if-is_some.false)) c.loop-position.invariant

pub returns-then-is_some : goal.returns-then-is_some
returns-then-is_some c =
    first_here _ c.loop-position.position _ _ _ (omega arith) (sym c.name_fault-fault.ensures) (sym c.is_some.ensures ∙ c.if-is_some.true) c.loop-position.invariant

pub returns : goal.returns
returns c = first_end _ c.loop-position.position _ _ (omega arith) c.loop-position.invariant
