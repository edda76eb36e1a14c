use Rattle.sgm_io.proofs.CountLaws.{times_in-push}
use Rattle.sgm_io.proofs.faults.Faults.miss.Goals as goal

pub returns-clause-reads : goal.returns-clause-reads
returns-clause-reads c =
    rw (c.push_reserved.ensures.items, c.reserve.ensures.items) (times_in-push c.args.self.now.reads.items c.in_ok-missed.missed c.args.name.now c.in_ok-missed.ensures.ok)
