use Rattle.sgm_queue.specs.Queues.{log_of}
use Rattle.sgm_queue.proofs.Rules.{merges}
use Rattle.sgm_queue.proofs.queue.Queue.join.Goals as goal

pub absorb-requires-clause-rule : goal.absorb-requires-clause-rule
absorb-requires-clause-rule g c = merges c.args.pass.now.pass.id (log_of c.args.pass.now) c.args.other.pass.id (log_of c.args.other) c.requires.own.live
