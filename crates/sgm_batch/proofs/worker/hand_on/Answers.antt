use Rattle.std.proofs.Common.{ℕ, ◌<◌, ap, ◌∙◌, sym, refl, subst, length, set, Some, arith}
use Rattle.std.specs.Vec.{with_item}
use Rattle.sgm_batch.specs.Pieces.{IsPieceOf, PieceParts}
use Rattle.sgm_batch.specs.Batches.{HasPiece}
use Rattle.sgm_batch.specs.declared.worker.Worker.{Worker}
use Rattle.sgm_batch.proofs.Handing.{covers_kept, has_kept, kept_more, made_of, pushed_more}
use Rattle.sgm_batch.proofs.worker.hand_on.Goals as goal

pub returns-in-Err-clause-at_work : goal.returns-in-Err-clause-at_work
returns-in-Err-clause-at_work g c =
    let batch = c.args.job.now.inputs.now in
    let entry = c.task-entry.result in
    let inside : entry < length batch = omega (arith, c.requires.inside, c.task-entry.ensures) in
    let of_entry = c.make-piece.ensures.entry ∙ sym c.task-entry.ensures in
    let of_batch = made_of batch entry _ c.make-piece.result inside of_entry c.make-piece.ensures.inputs in
    let now : Worker = record { ticket = c.args.worker.now.ticket; pass = c.push.new.pass; kept = with_item c.args.worker.now.kept entry (Some c.in-Err.piece) } in
    kept_more c.args.job.now c.args.worker.now now c.in-Err.piece c.requires.at_work
    (subst (λ (p : PieceParts). IsPieceOf batch p) (sym c.in-Err.ensures.err.0) of_batch) refl c.push.ensures.own c.in-Err.ensures.err.1
    (ap (λ n. set c.args.worker.now.kept.items n (Some c.in-Err.piece)) (sym (ap (λ (p : PieceParts). p.entry) c.in-Err.ensures.err.0 ∙ of_entry)))

pub returns-in-Err-clause-piece : goal.returns-in-Err-clause-piece
returns-in-Err-clause-piece g c =
    let entry = c.task-entry.result in
    let inside : entry < length c.args.worker.now.kept.items = omega (arith, c.requires.inside, c.requires.at_work.places, c.task-entry.ensures) in
    let now : Worker = record { ticket = c.args.worker.now.ticket; pass = c.push.new.pass; kept = with_item c.args.worker.now.kept entry (Some c.in-Err.piece) } in
    subst (λ (n : ℕ). HasPiece now n) c.task-entry.ensures (has_kept c.args.worker.now now entry c.in-Err.piece inside refl)

pub returns-in-Err-clause-pieces : goal.returns-in-Err-clause-pieces
returns-in-Err-clause-pieces g c =
    let entry = c.task-entry.result in
    let inside : entry < length c.args.worker.now.kept.items = omega (arith, c.requires.inside, c.requires.at_work.places, c.task-entry.ensures) in
    let now : Worker = record { ticket = c.args.worker.now.ticket; pass = c.push.new.pass; kept = with_item c.args.worker.now.kept entry (Some c.in-Err.piece) } in
    covers_kept c.args.worker.now now entry c.in-Err.piece inside c.in-Err.ensures.err.1 refl

pub returns-in_default-clause-at_work : goal.returns-in_default-clause-at_work
returns-in_default-clause-at_work g c =
    let batch = c.args.job.now.inputs.now in
    let entry = c.task-entry.result in
    let inside : entry < length batch = omega (arith, c.requires.inside, c.task-entry.ensures) in
    let of_batch = made_of batch entry _ c.make-piece.result inside (c.make-piece.ensures.entry ∙ sym c.task-entry.ensures) c.make-piece.ensures.inputs in
    let now : Worker = record { ticket = c.args.worker.now.ticket; pass = c.push.new.pass; kept = c.args.worker.now.kept } in
    pushed_more c.args.job.now c.args.worker.now now c.make-piece.result c.requires.at_work of_batch refl c.push.ensures.own c.in_default.ensures.ok refl
