use Rattle.std.proofs.Common.{Result, Ok, Err, IsTrue, rules, sym, subst}
use Rattle.sgm_outcome.specs.Lines.{refusal_line}
use Rattle.sgm_stages.specs.declared.made.MadeTexts.{MadeTexts}
use Rattle.sgm_stages.specs.declared.stops.TextsError.{TextsError}
use Rattle.sgm_stages.specs.declared.stops.WriteStop.TheVariants as stop
use Rattle.sgm_series.specs.Moments.{series_at}
use Rattle.sgm_series.specs.Received.{ReceivesMore}
use Rattle.sgm_series.specs.TurnEnds.{TurnEnds}
use Rattle.sgm_series.proofs.OneTurn.{turn_written, turn_refuses, turn_unmade}
use Rattle.sgm_series.proofs.turns.take_turn.Goals as goal

pub returns-in-Ok : goal.returns-in-Ok
returns-in-Ok g c =
    let ends = c.write_entry.ensures in
    let P : Result MadeTexts TextsError → Type 0 = λ a. TurnEnds c.args.turn.entry.now a c.write_entry.result
    (series_at g.S.Shelf g.O.Sink g.E.Sink c.args.shelf.now c.args.out.now c.args.err.now c.args.tally.now)
    (series_at g.S.Shelf g.O.Sink g.E.Sink c.write_entry.new.shelf c.write_entry.new.out c.args.err.now c.args.tally.now) in
    subst P (sym c.in-Ok.is) (turn_written g.S.Shelf g.O.Sink g.E.Sink c.args.turn.entry.now c.in-Ok.texts c.write_entry.result
    c.args.shelf.now c.write_entry.new.shelf c.args.out.now c.write_entry.new.out c.args.err.now c.args.tally.now
    ends.shown ends.files ends.out ends.writing ends.unfinished ends.finished ends.counts)

pub returns-in-Err-Refused : goal.returns-in-Err-Refused
returns-in-Err-Refused g c =
    let ends = c.refuse.ensures in
    let P : Result MadeTexts TextsError → Type 0 = λ a. TurnEnds {T = Unit {0}} c.args.turn.entry.now a (Ok tt)
    (series_at g.S.Shelf g.O.Sink g.E.Sink c.args.shelf.now c.args.out.now c.args.err.now c.args.tally.now)
    (series_at g.S.Shelf g.O.Sink g.E.Sink c.args.shelf.now c.args.out.now c.refuse.new.err c.refuse.new.tally) in
    let Q : TextsError → Type 0 = λ t. P (Err t) in
    let lines : IsTrue g.E.Sink.tells → ReceivesMore c.args.tally.now.whole c.refuse.new.tally.whole (refusal_line c.in-Err-Refused.refusal) (g.E.Sink.written c.args.err.now) (g.E.Sink.written c.refuse.new.err) = search rules in
    subst P (sym c.in-Err-Refused.is) (subst Q (sym c.in-Err-Refused.field-0-is) (turn_refuses g.S.Shelf g.O.Sink g.E.Sink c.args.turn.entry.now c.in-Err-Refused.refusal tt
    c.args.shelf.now c.args.out.now c.args.err.now c.refuse.new.err c.args.tally.now c.refuse.new.tally
    ends.refused lines ends.whole ends.err_faults))

pub returns-in-Err-NoMemory : goal.returns-in-Err-NoMemory
returns-in-Err-NoMemory g c =
    let P : Result MadeTexts TextsError → Type 0 = λ a. TurnEnds {T = Unit {0}} c.args.turn.entry.now a (Err stop.NoMemory)
    (series_at g.S.Shelf g.O.Sink g.E.Sink c.args.shelf.now c.args.out.now c.args.err.now c.args.tally.now)
    (series_at g.S.Shelf g.O.Sink g.E.Sink c.args.shelf.now c.args.out.now c.args.err.now c.args.tally.now) in
    let Q : TextsError → Type 0 = λ t. P (Err t) in
    subst P (sym c.in-Err-NoMemory.is) (subst Q (sym c.in-Err-NoMemory.field-0-is) (turn_unmade g.S.Shelf g.O.Sink g.E.Sink c.args.turn.entry.now c.args.shelf.now c.args.out.now c.args.err.now c.args.tally.now))
