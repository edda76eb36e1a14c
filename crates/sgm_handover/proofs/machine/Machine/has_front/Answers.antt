use Rattle.std.proofs.Common.{arith}
use Rattle.sgm_handover.proofs.Places.{some_front}
use Rattle.sgm_handover.proofs.machine.Machine.has_front.Goals as goal

pub returns-clause-yes : goal.returns-clause-yes
returns-clause-yes c found =
    let m = c.args.self.now in
    let it = c.has.ensures.yes found in
    some_front m.strips m.passed m.away m.holders.items c.args.worker it.0 (omega (arith, it.1)) it.2
