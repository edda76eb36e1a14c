use Rattle.std.proofs.Common.{ap, ◌∙◌, List, Option, length, arith}
use Rattle.std.specs.Prelude.{slice_get}
use Rattle.std.specs.Vec.{with_items}
use Rattle.std.proofs.lemmas.List.{with_items_is}
use Rattle.sgm_batch.specs.Pieces.{PieceParts}
use Rattle.sgm_batch.specs.declared.worker.Worker.{Worker}
use Rattle.sgm_batch.specs.Batches.{chosen}
use Rattle.sgm_batch.proofs.Gathering.{joined_done}
use Rattle.sgm_batch.proofs.batch.join.Goals as goal

pub returns-clause-done : goal.returns-clause-done
returns-clause-done c =
    let places = c.take_over.new.places in
    let kept = with_items c.args.whole.now.kept places in
    let is = with_items_is c.args.whole.now.kept places (omega (arith, c.take_over.ensures.count, c.args.whole.now.kept.ok)) in
    let now : Worker = record { ticket = c.join.new.ticket; pass = c.join-2.new.pass; kept = kept } in
    joined_done c.args.job.now c.args.whole.now c.args.other now c.requires.done.0 c.requires.done.1 c.join.ensures.own c.join.ensures.joined
    c.join.ensures.all c.join-2.ensures.own c.join-2.ensures.joined
    (ap (λ (xs : List (Option PieceParts)). length xs) is ∙ c.take_over.ensures.count ∙ ap (λ (xs : List (Option PieceParts)). length xs) c.as_mut_slice.ensures.value)
    (λ place. ap (λ (xs : List (Option PieceParts)). slice_get xs place) is ∙ c.take_over.ensures.each place
    ∙ ap (λ (xs : List (Option PieceParts)). chosen (slice_get c.args.other.kept.items place) (slice_get xs place)) c.as_mut_slice.ensures.value)
