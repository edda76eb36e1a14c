use Rattle.sgm_queue.specs.Queues.{log_of}
use Rattle.sgm_queue.proofs.Rules.{knows, pops}
use Rattle.sgm_queue.proofs.queue.Queue.pop.Goals as goal

pub pop_as-requires-clause-rule : goal.pop_as-requires-clause-rule
pop_as-requires-clause-rule g c = (pops c.args.pass.now.pass.id (log_of c.args.pass.now) c.requires.own.live, knows c.args.pass.now.pass.id (log_of c.args.pass.now))
