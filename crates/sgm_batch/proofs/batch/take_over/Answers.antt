use Rattle.std.proofs.Common.{◌<◌, length, arith}
use Rattle.sgm_batch.proofs.Popping.{over_none, over_some, taken_all}
use Rattle.sgm_batch.proofs.batch.take_over.Goals.{in-Some+in-Some-1, in-Some+in-None-1, in_default}
use Rattle.sgm_batch.proofs.batch.take_over.Goals as goal

pub loop-place-preserved : goal.loop-place-preserved
loop-place-preserved c =
    let at = c.loop-place in
    let count = at.invariant.count in
    let theirs_count = at.invariant.theirs_count in
    let test = c.loop-place-test.true in
    let end = c.len-place-end.ensures in
    let theirs_inside : at.place < length at.kept.items = omega (arith, test, end, theirs_count, c.args.kept.ok) in
    let inside : at.place < length at.places = omega (arith, test, end, count, c.requires.count, c.args.kept.ok) in
    elim c.match-take.branch [
      | in-Some+in-Some-1 w ↦ over_some at.place c.args.places.now c.args.kept.items at.places at.kept.items at.invariant w.in-Some.piece
          c.index_mut.result.now c.take.new.self c.match-take.places inside theirs_inside c.index_mut.ensures.value w.in-Some.ensures.value c.take.ensures.after w.places-is
      | in-Some+in-None-1 w ↦ over_some at.place c.args.places.now c.args.kept.items at.places at.kept.items at.invariant w.in-Some.piece
          c.index_mut.result.now c.take.new.self c.match-take.places inside theirs_inside c.index_mut.ensures.value w.in-Some.ensures.value c.take.ensures.after w.places-is
      | in_default w ↦ over_none at.place c.args.places.now c.args.kept.items at.places at.kept.items at.invariant
          c.index_mut.result.now c.take.new.self c.match-take.places theirs_inside c.index_mut.ensures.value w.in_default.ensures.value c.take.ensures.after w.places-is
    ]

pub returns-clause-each : goal.returns-clause-each
returns-clause-each c =
    let at = c.loop-place in
    taken_all at.place c.args.places.now c.args.kept.items at.places at.kept.items at.invariant
    (omega (arith, c.loop-place-test.false, c.len-place-end.ensures, c.args.kept.ok))
