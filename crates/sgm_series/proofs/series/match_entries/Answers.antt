use Rattle.std.proofs.Common.{◌≡◌, ◌-◌, ◌≤◌, length, arith}
use Rattle.sgm_series.proofs.ManyBatches.{cut, unmade_at, batches_none, batches_done, batch_unmade, batch_stops, batches_more}
use Rattle.sgm_series.proofs.Batches.{stop_within}
use Rattle.sgm_series.proofs.Slices.{batch_size, full_cut, smaller}
use Rattle.sgm_series.proofs.series.match_entries.Goals as goal

pub outcome-requires : goal.outcome-requires
outcome-requires g c =
    let n = c.loop-first.first in let hi = c.batch_end-end.result in let entries = c.args.listed.now.entries.now in
    let size = batch_size n hi (length entries) c.loop-first-test.true c.batch_end-end.ensures in
    let lt = unmade_at n hi entries c.in-Err.stop _ _ size (c.in-Err.ensures.counts 0) in
    let inside = size.within in let after = size.after in let few = c.args.listed.now.few in
    grind arith

pub returns-in-Err : goal.returns-in-Err
returns-in-Err g c =
    let n = c.loop-first.first in let hi = c.batch_end-end.result in let entries = c.args.listed.now.entries.now in
    let size = batch_size n hi (length entries) c.loop-first-test.true c.batch_end-end.ensures in
    let ends = c.in-Err.ensures in
    rw c.outcome.ensures (batch_unmade g.S.Shelf g.O.Sink g.E.Sink entries c.requires.apart n hi c.loop-first-test.true size c.in-Err.stop
    c.args.shelf.now c.loop-first.shelf c.make_batch.new.shelf c.args.out.now c.loop-first.out c.args.err.now c.loop-first.err c.args.tally.now c.loop-first.tally
    c.loop-first.invariant.so ends.keeps ends.counts ends.stop)

pub loop-first-smaller : goal.loop-first-smaller
loop-first-smaller g c =
    let n = c.loop-first.first in let count = length c.args.listed.now.entries.now in
    smaller n c.batch_end-end.result count (batch_size n c.batch_end-end.result count c.loop-first-test.true c.batch_end-end.ensures) c.loop-first-test.true

pub outcome-requires-in-Err-take_turns : goal.outcome-requires-in-Err-take_turns
outcome-requires-in-Err-take_turns g c =
    let n = c.loop-first.first in let hi = c.batch_end-end.result in let entries = c.args.listed.now.entries.now in
    let size = batch_size n hi (length entries) c.loop-first-test.true c.batch_end-end.ensures in
    let full = full_cut n hi entries size.within in
    let lt = stop_within (cut n hi entries) c.in-Err-take_turns.stop _ _ c.in-Err-take_turns.ensures.counts in
    let inside = size.within in let after = size.after in let few = c.args.listed.now.few in
    grind arith

pub returns-in-Err-take_turns : goal.returns-in-Err-take_turns
returns-in-Err-take_turns g c =
    let n = c.loop-first.first in let hi = c.batch_end-end.result in let entries = c.args.listed.now.entries.now in
    let size = batch_size n hi (length entries) c.loop-first-test.true c.batch_end-end.ensures in
    let made = c.in-Ok.ensures in
    rw c.outcome-in-Err-take_turns.ensures (batch_stops g.S.Shelf g.O.Sink g.E.Sink entries c.requires.apart n hi c.loop-first-test.true size c.in-Ok.answers.items
    c.args.shelf.now c.loop-first.shelf c.make_batch.new.shelf c.take_turns.new.shelf c.args.out.now c.loop-first.out c.take_turns.new.out
    c.args.err.now c.loop-first.err c.take_turns.new.err c.args.tally.now c.loop-first.tally c.take_turns.new.tally
    c.loop-first.invariant.so made.keeps made.counts made.answers made.count c.in-Err-take_turns.stop c.in-Err-take_turns.ensures)

pub loop-first-preserved : goal.loop-first-preserved
loop-first-preserved g c =
    let n = c.loop-first.first in let hi = c.batch_end-end.result in let entries = c.args.listed.now.entries.now in
    let size = batch_size n hi (length entries) c.loop-first-test.true c.batch_end-end.ensures in
    let made = c.in-Ok.ensures in
    record {
      so = batches_more g.S.Shelf g.O.Sink g.E.Sink entries c.requires.apart n hi c.loop-first-test.true size c.in-Ok.answers.items
          c.args.shelf.now c.loop-first.shelf c.make_batch.new.shelf c.take_turns.new.shelf c.args.out.now c.loop-first.out c.take_turns.new.out
          c.args.err.now c.loop-first.err c.take_turns.new.err c.args.tally.now c.loop-first.tally c.take_turns.new.tally
          c.loop-first.invariant.so made.keeps made.counts made.answers made.count tt c.in-Ok-take_turns.ensures;
    }

pub loop-first-init : goal.loop-first-init
loop-first-init g c = record {
  so = batches_none g.S.Shelf g.O.Sink g.E.Sink c.args.listed.now.entries.now c.args.shelf.now c.args.out.now c.args.err.now c.args.tally.now c.requires.start.0 c.requires.start.1;
}

pub returns : goal.returns
returns g c =
    let all : length c.args.listed.now.entries.now ≤ c.loop-first.first = omega (arith, c.loop-first-test.false) in
    batches_done g.S.Shelf g.O.Sink g.E.Sink c.args.listed.now.entries.now c.loop-first.first tt
    c.args.shelf.now c.loop-first.shelf c.args.out.now c.loop-first.out c.args.err.now c.loop-first.err c.args.tally.now c.loop-first.tally
    all c.loop-first.invariant.so

pub take_turns-requires : goal.take_turns-requires
take_turns-requires g c =
    let n = c.loop-first.first in let hi = c.batch_end-end.result in let entries = c.args.listed.now.entries.now in
    let size = batch_size n hi (length entries) c.loop-first-test.true c.batch_end-end.ensures in
    let full : length (cut n hi entries) ≡ hi - n = full_cut n hi entries size.within in
    let few : c.loop-first.tally.refused ≤ n = c.loop-first.invariant.so.few in
    let inside = size.within in let after = size.after in let most = c.args.listed.now.few in
    grind arith
