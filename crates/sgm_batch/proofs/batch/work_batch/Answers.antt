use Rattle.std.proofs.Common.{arith}
use Rattle.std.proofs.lemmas.List.{with_items_is}
use Rattle.sgm_batch.proofs.Gathering.{all_same, still_all}
use Rattle.sgm_batch.proofs.Popping.{in_order}
use Rattle.sgm_batch.proofs.batch.work_batch.Goals as goal

pub gather-whole-requires-clause-all : goal.gather-whole-requires-clause-all
gather-whole-requires-clause-all g c =
    let new = c.run_all.new.crew in
    let is = with_items_is c.in_ok-crew.crew new (omega (arith, c.run_all.ensures.count, c.as_mut_slice.ensures.len, c.in_ok-crew.crew.ok)) in
    all_same _ _ new is
    (still_all _ c.as_mut_slice.result.now new c.run_all.ensures.count c.run_all.ensures.same
    (all_same _ _ c.in_ok-crew.crew.items c.as_mut_slice.ensures.value c.in_ok-crew.ensures.all))

pub returns-clause-each : goal.returns-clause-each
returns-clause-each g c =
    in_order c.args.inputs.now c.pop_all.new.worker.kept.items c.collect.result.items c.pop_all.ensures.placed c.collect.ensures.all
