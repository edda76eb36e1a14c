use Rattle.std.proofs.Common.{◌∙◌, ap}
use Rattle.sgm_io.specs.declared.trip.Call.{Call}
use Rattle.sgm_io.specs.Calls.{call_name}
use Rattle.sgm_io.proofs.CountLaws.{times_in-push}
use Rattle.sgm_io.proofs.faults.Faults.trips.Goals as goal

pub returns-in-Fetch-clause-reads : goal.returns-in-Fetch-clause-reads
returns-in-Fetch-clause-reads c =
    rw (c.push_reserved.ensures.items, c.in-Fetch.is)
    (times_in-push c.args.self.now.reads.items c.in-Some.name c.in-Fetch.field-0.now (c.in-Some.ensures.name ∙ ap (λ (x : Call). call_name x) c.in-Fetch.is))

pub returns-in-Create-clause-writes : goal.returns-in-Create-clause-writes
returns-in-Create-clause-writes c =
    rw (c.push_reserved-in-Create.ensures.items, c.in-Create.is)
    (times_in-push c.args.self.now.writes.items c.in-Some.name c.in-Create.field-0.now (c.in-Some.ensures.name ∙ ap (λ (x : Call). call_name x) c.in-Create.is))

pub returns-in-Append-clause-writes : goal.returns-in-Append-clause-writes
returns-in-Append-clause-writes c =
    rw (c.push_reserved-in-Append.ensures.items, c.in-Append.is)
    (times_in-push c.args.self.now.writes.items c.in-Some.name c.in-Append.field-0.now (c.in-Some.ensures.name ∙ ap (λ (x : Call). call_name x) c.in-Append.is))

pub returns-in-Finish-clause-writes : goal.returns-in-Finish-clause-writes
returns-in-Finish-clause-writes c =
    rw (c.push_reserved-in-Finish.ensures.items, c.in-Finish.is)
    (times_in-push c.args.self.now.writes.items c.in-Some.name c.in-Finish.field-0.now (c.in-Some.ensures.name ∙ ap (λ (x : Call). call_name x) c.in-Finish.is))
