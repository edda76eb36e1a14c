use Rattle.sgm_threads.specs.Sharing.{AreOwn}
use Rattle.sgm_threads.proofs.sharing.own_pieces.Given as goal

abbrev pub invariant-loop : goal.invariant-loop
invariant-loop g l = AreOwn g.F.Fn l.make l.numbers.count l.own
