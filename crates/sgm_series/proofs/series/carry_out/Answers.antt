use Rattle.std.proofs.Common.{◌∙◌, ℕ, ◌≤◌, List, Ok, Err, sym, subst}
use Rattle.sgm_words.specs.Operands.{bytes_of}
use Rattle.sgm_list.specs.Entries.{EntryNames}
use Rattle.sgm_series.specs.Moments.{series_at}
use Rattle.sgm_series.specs.SeriesEnds.{AllEnd}
use Rattle.sgm_series.proofs.PlanEnding.{ends_usage, ends_unlisted, ends_listed, ends_stopped}
use Rattle.sgm_series.proofs.WordLaws.{are_read}
use Rattle.sgm_series.proofs.series.carry_out.Goals as goal

pub returns-in-Err : goal.returns-in-Err
returns-in-Err g c =
    ends_usage g.S.Shelf g.O.Sink g.E.Sink (bytes_of c.args.words.now) c.in-Err.fault c.args.shelf.now c.args.out.now c.args.err.now c.args.tally.now
    c.requires.start.1 (sym c.read_series_words.ensures ∙ c.in-Err.is)

pub returns-in-Err-read_entries : goal.returns-in-Err-read_entries
returns-in-Err-read_entries g c =
    let words = bytes_of c.args.words.now in
    let read = sym c.read_series_words.ensures ∙ c.in-Ok.is in
    let ends = c.in-Err-read_entries.ensures in
    ends_unlisted g.S.Shelf g.O.Sink g.E.Sink words c.in-Ok.words c.list.result.now read c.list.ensures (are_read words c.in-Ok.words read).list
    c.in-Err-read_entries.outcome c.args.shelf.now c.read_entries.new.shelf c.args.out.now c.args.err.now c.args.tally.now
    c.requires.start.1 ends.kind ends.end ends.unfinished ends.held ends.counts

pub returns-in-Ok-match_entries : goal.returns-in-Ok-match_entries
returns-in-Ok-match_entries g c =
    let words = bytes_of c.args.words.now in
    let read = sym c.read_series_words.ensures ∙ c.in-Ok.is in
    let listed = c.in-Ok-read_entries.ensures in
    let P : List EntryNames → Type 0 = λ es. AllEnd {T = Unit {0}} es (Ok tt)
    (series_at g.S.Shelf g.O.Sink g.E.Sink c.read_entries.new.shelf c.args.out.now c.args.err.now c.args.tally.now)
    (series_at g.S.Shelf g.O.Sink g.E.Sink c.match_entries.new.shelf c.match_entries.new.out c.match_entries.new.err c.match_entries.new.tally) in
    rw c.outcome_of.ensures (
    ends_listed g.S.Shelf g.O.Sink g.E.Sink words c.in-Ok.words c.list.result.now read c.list.ensures (are_read words c.in-Ok.words read).list
    c.in-Ok-read_entries.entries.items c.args.shelf.now c.read_entries.new.shelf c.match_entries.new.shelf c.args.out.now c.match_entries.new.out
    c.args.err.now c.match_entries.new.err c.args.tally.now c.match_entries.new.tally
    listed.entries listed.unfinished listed.held listed.counts tt
    (subst P c.as_slice.ensures.value c.in-Ok-match_entries.ensures))

pub returns : goal.returns
returns g c =
    let words = bytes_of c.args.words.now in
    let read = sym c.read_series_words.ensures ∙ c.in-Ok.is in
    let listed = c.in-Ok-read_entries.ensures in
    let P : List EntryNames → Type 0 = λ es. AllEnd {T = Unit {0}} es (Err c.in-Err-match_entries.outcome)
    (series_at g.S.Shelf g.O.Sink g.E.Sink c.read_entries.new.shelf c.args.out.now c.args.err.now c.args.tally.now)
    (series_at g.S.Shelf g.O.Sink g.E.Sink c.match_entries.new.shelf c.match_entries.new.out c.match_entries.new.err c.match_entries.new.tally) in
    ends_stopped g.S.Shelf g.O.Sink g.E.Sink words c.in-Ok.words c.list.result.now read c.list.ensures (are_read words c.in-Ok.words read).list
    c.in-Ok-read_entries.entries.items c.args.shelf.now c.read_entries.new.shelf c.match_entries.new.shelf c.args.out.now c.match_entries.new.out
    c.args.err.now c.match_entries.new.err c.args.tally.now c.match_entries.new.tally
    listed.entries listed.unfinished listed.held listed.counts c.in-Err-match_entries.outcome
    (subst P c.as_slice.ensures.value c.in-Err-match_entries.ensures)

pub invariant_of-listed-clause-one_or_two : goal.invariant_of-listed-clause-one_or_two
invariant_of-listed-clause-one_or_two g c =
    let read = are_read (bytes_of c.args.words.now) c.in-Ok.words (sym c.read_series_words.ensures ∙ c.in-Ok.is) in
    let P : ℕ → Type 0 = λ k. 1 ≤ k in let Q : ℕ → Type 0 = λ k. k ≤ 2 in
    (subst P (sym c.workers.ensures) read.some, subst Q (sym c.workers.ensures) read.few)
