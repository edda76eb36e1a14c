use Rattle.std.proofs.Common.{sym, subst}
use Rattle.crossbeam_queue.specs.Fifo.{Forks}
use Rattle.sgm_queue.specs.Logs.{given, kept}
use Rattle.sgm_queue.specs.Rules.{Rule}
use Rattle.sgm_queue.specs.declared.log.Log.{Log}
use Rattle.sgm_queue.proofs.Rules.{forks}
use Rattle.sgm_queue.proofs.queue.Queue.share.Goals as goal

pub another-requires-clause-rule : goal.another-requires-clause-rule
another-requires-clause-rule g c =
    subst (λ (v : Log g.row.T.Denot). Forks Rule c.args.pass.now.pass.id v (kept v) (given v)) (sym c.requires.both) (forks c.args.pass.now.pass.id)
