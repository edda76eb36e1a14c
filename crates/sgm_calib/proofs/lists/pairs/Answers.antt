use Rattle.std.proofs.Common.{◌+◌, ◌*◌, ◌<◌, length, arith}
use Rattle.std.proofs.lemmas.Grind.{common_steps}
use Rattle.sgm_calib.proofs.WarpLemmas.{pairs-kept, pairs-done}
use Rattle.sgm_calib.proofs.lists.pairs.Goals as goal

pub loop-index-preserved : goal.loop-index-preserved
loop-index-preserved c =
    let vs = c.args.items.now in
    let i = 2 * c.loop-index.index in
    let places = c.loop-index.places.items in
    let more = c.push.new.self.items in
    let u = c.index-items-index.result in
    let v = c.index-items-index-in-loop-index.result in
    let inside : i + 1 < length vs = omega (arith, c.loop-index-test.true) in (
      grind (arith, common_steps, c.loop-index.invariant.0, c.in_ok-push.ensures.items),
      pairs-kept vs i (2 * (c.loop-index.index + 1)) u v c.pair.result places more inside (omega arith)
          c.index-items-index.is c.index-items-index-in-loop-index.is c.pair.ensures c.in_ok-push.ensures.items c.loop-index.invariant.1,
    )

pub returns-clause-value : goal.returns-clause-value
returns-clause-value c =
    pairs-done c.args.items.now (2 * c.loop-index.index) c.loop-index.places.items (omega (arith, c.loop-index-test.false)) c.loop-index.invariant.1
