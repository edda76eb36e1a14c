use Rattle.std.proofs.Common.{◌≡◌, ◌∷◌, ◌∙◌, List, length, sym, ap, arith}
use Rattle.std.specs.Vec.Iter.{into_iter_items}
use Rattle.sgm_batch.specs.declared.worker.Worker.{Worker}
use Rattle.sgm_batch.specs.Batches.{IsDone}
use Rattle.sgm_batch.proofs.Gathering.{all_front, all_joined, last_of, whole_both, whole_each}
use Rattle.sgm_batch.proofs.batch.gather.Goals as goal

pub loop-other-init : goal.loop-other-init
loop-other-init c =
    let gives = c.into_iter-other-iterator.ensures.into_iter_gives in
    let left = into_iter_items c.into_iter-other-iterator.result in
    let is = c.in-Some.ensures.items in
    record {
      done = last_of (λ worker. IsDone c.args.job.now worker) c.args.crew.items c.pop.new.self.items c.in-Some.whole is c.requires.done;
      all = all_front c.args.job.now c.args.crew.items c.pop.new.self.items left c.in-Some.whole is gives.0 c.requires.all;
      left = let long = ap (λ (xs : List Worker). length xs) gives.0 in omega (arith, long, gives.1, c.pop.new.self.ok);
    }

pub loop-other-preserved : goal.loop-other-preserved
loop-other-preserved c =
    let at = c.loop-other in
    let steps : into_iter_items at.other-iterator ≡ c.in-Some-other.other ∷ into_iter_items c.next.new.self = c.in-Some-other.ensures.steps.0 in
    record {
      done = c.join.ensures.done;
      all = all_joined c.args.job.now at.whole c.in-Some-other.other c.join.new.whole (into_iter_items at.other-iterator) (into_iter_items c.next.new.self)
          steps c.join.ensures.joined at.invariant.all;
      left =
          let was = at.invariant.left in
          let gone = c.in-Some-other.ensures.steps.1 in
          let short = ap (λ (xs : List Worker). length xs) steps in
          omega arith;
    }

pub returns-clause-both : goal.returns-clause-both
returns-clause-both c =
    let at = c.loop-other in
    whole_both c.args.job.now c.requires.job at.whole (into_iter_items at.other-iterator) (sym at.invariant.left ∙ c.in-None.ensures.steps.0)
    at.invariant.all at.invariant.done

pub returns-clause-each : goal.returns-clause-each
returns-clause-each c =
    let at = c.loop-other in
    whole_each c.args.job.now c.requires.job at.whole (into_iter_items at.other-iterator) (sym at.invariant.left ∙ c.in-None.ensures.steps.0)
    at.invariant.all at.invariant.done
