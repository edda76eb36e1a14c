use Rattle.std.proofs.Common.{Bool, ◌++◌, sym, subst}
use Rattle.sgm_outcome.specs.Lines.{line_of, refusal_line}
use Rattle.sgm_series.specs.Received.{Received}
use Rattle.sgm_series.proofs.Receiving.{wrote}
use Rattle.sgm_series.proofs.turns.refuse.Goals as goal

pub returns-then-tally-clause-lines : goal.returns-then-tally-clause-lines
unfolding line_of
returns-then-tally-clause-lines g c = λ told lines start before.
    let P : Bool → Type 0 = λ b. Received b (lines ++ refusal_line c.args.refusal) start (g.E.Sink.written c.write_line.new.err) in
    subst P (sym c.is_ok-tally.ensures.value)
    (wrote c.write_line.result c.args.tally.now.whole (refusal_line c.args.refusal) lines start _ _ c.if-tally.true (c.write_line.ensures.written told) before)
