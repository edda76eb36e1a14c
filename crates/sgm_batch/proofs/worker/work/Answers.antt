use Rattle.std.proofs.Common.{ℕ, subst}
use Rattle.sgm_batch.specs.Batches.{HasPiece}
use Rattle.sgm_batch.proofs.Working.{same_on, works_on}
use Rattle.sgm_batch.proofs.worker.work.Goals as goal

pub loop-preserved : goal.loop-preserved
loop-preserved g c =
    let drew = c.in-Some-draw.ensures.some in
    let before = c.loop.invariant.can_work in
    let entry = c.in-Some-draw.entry in
    let piece : HasPiece c.hand_on.new.worker entry =
    subst (λ (n : ℕ). HasPiece c.hand_on.new.worker n) c.come-came.ensures.task c.hand_on.ensures.piece in
    record {
      can_work = works_on c.args.job.now c.loop.worker c.draw.new.ticket before c.hand_on.new.worker entry drew.0 drew.1
          c.hand_on.ensures.same_ticket c.hand_on.ensures.at_work piece c.hand_on.ensures.pieces;
      same = same_on c.args.job.now c.loop.worker c.draw.new.ticket before c.hand_on.new.worker entry drew.0 drew.1
          c.hand_on.ensures.same_ticket c.hand_on.ensures.at_work piece c.hand_on.ensures.pieces c.args.worker.now c.loop.invariant.same c.hand_on.ensures.same_shares;
    }
