use Rattle.sgm_threads.specs.Sharing.{AreOwn}
use Rattle.sgm_threads.proofs.sharing.side_by_side.Given as goal

abbrev pub invariant-loop-own : goal.invariant-loop-own
invariant-loop-own g l = AreOwn g.F.Fn l.make l.fn.count l.places
