use Rattle.std.proofs.Common.{Some, set, ap, arith}
use Rattle.sgm_batch.specs.declared.worker.Worker.{Worker}
use Rattle.std.specs.Vec.{with_item}
use Rattle.sgm_batch.proofs.Popping.{all_placed, popped_inside, pops_on}
use Rattle.sgm_batch.proofs.batch.pop_all.Goals as goal

pub returns-in_default-clause-all : goal.returns-in_default-clause-all
returns-in_default-clause-all g c =
    all_placed c.args.job.now c.args.worker.now c.loop.worker c.loop.invariant c.requires.each (c.in_default.ensures.all c.loop.invariant.both)

pub index_mut-requires : goal.index_mut-requires
index_mut-requires g c =
    let inside = popped_inside c.args.job.now c.args.worker.now c.loop.worker c.in-Some-pop.piece c.requires.at_work c.loop.invariant
    (c.in-Some-pop.ensures.pushed c.loop.invariant.both) in
    omega (arith, inside, c.entry-place.ensures, c.loop.worker.kept.ok)

pub loop-preserved-in-Some-pop : goal.loop-preserved-in-Some-pop
loop-preserved-in-Some-pop g c =
    let now : Worker = record { ticket = c.loop.worker.ticket; pass = c.pop.new.pass; kept = with_item c.loop.worker.kept c.entry-place.result (Some c.in-Some-pop.piece) } in
    pops_on c.args.job.now c.args.worker.now c.loop.worker now c.in-Some-pop.piece c.requires.at_work c.loop.invariant
    (c.in-Some-pop.ensures.pushed c.loop.invariant.both) c.pop.ensures.own c.in-Some-pop.ensures.some
    (ap (λ n. set c.loop.worker.kept.items n (Some c.in-Some-pop.piece)) c.entry-place.ensures)

pub loop-preserved : goal.loop-preserved
loop-preserved g c =
    let now : Worker = record { ticket = c.loop.worker.ticket; pass = c.pop.new.pass; kept = with_item c.loop.worker.kept c.entry-place.result (Some c.in-Some-pop.piece) } in
    pops_on c.args.job.now c.args.worker.now c.loop.worker now c.in-Some-pop.piece c.requires.at_work c.loop.invariant
    (c.in-Some-pop.ensures.pushed c.loop.invariant.both) c.pop.ensures.own c.in-Some-pop.ensures.some
    (ap (λ n. set c.loop.worker.kept.items n (Some c.in-Some-pop.piece)) c.entry-place.ensures)
