use Rattle.crossbeam_queue.specs.Passes.{ruled_capacity}
use Rattle.sgm_queue.specs.Queues.{log_of}
use Rattle.sgm_queue.proofs.Rules.{knows, pushes}
use Rattle.sgm_queue.proofs.queue.Queue.push.Goals as goal

pub push_as-requires-clause-rule : goal.push_as-requires-clause-rule
push_as-requires-clause-rule g c =
    (pushes (ruled_capacity c.args.self.now.inner) c.args.pass.now.pass.id (log_of c.args.pass.now) c.args.value c.requires.own.live, knows c.args.pass.now.pass.id (log_of c.args.pass.now))
