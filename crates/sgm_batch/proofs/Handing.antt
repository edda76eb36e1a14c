-- A worker with one piece more.
use Rattle.std.proofs.Common.{◌≡◌, ◌≢◌, ℕ, ◌<◌, List, [], ◌∷◌, zero, suc, length, set, Option, Some, inl, inr, sym, ap, ◌∙◌, subst, arith, All, get_or-set_same, get_or-set_other, get_or}
use Rattle.std.specs.Prelude.{slice_get, count_by}
use Rattle.std.proofs.lemmas.Bool.{cases_eq}
use Rattle.std.proofs.lemmas.List.{length-set}
use Rattle.std.proofs.lemmas.List.Elements.{All-append}
use Rattle.std.proofs.lemmas.Option.{slice_get-get_or, slice_get_within, get_or_from_slice_get}
use Rattle.sgm_work.proofs.Lists.{get_set}
use Rattle.sgm_draws.specs.Tickets.{IsTicketOf}
use Rattle.sgm_queue.specs.Queues.{IsQueuePassOf, log_of}
use Rattle.sgm_queue.specs.Logs.{after_push}
use Rattle.sgm_queue.specs.declared.log.Log.{Log}
use Rattle.sgm_stages.specs.Inputs.{InputBytes}
use Rattle.sgm_batch.specs.Pieces.{IsPieceOf, PieceParts}
use Rattle.sgm_batch.specs.Batches.{ArePlaced, Covers, HasPiece, IsAtWork, is_of}
use Rattle.sgm_batch.specs.declared.worker.Worker.{Worker}
use Rattle.sgm_batch.specs.declared.worker.Job.{Job}

-- what was written to a place stands there, and what stood elsewhere stands
pub written : {X : Type 0} (xs : List X) (at : ℕ) (x : X) → at < length xs → slice_get (set xs at x) at ≡ Some x
written xs at x inside =
    let long = length-set xs at x in
    slice_get-get_or (set xs at x) at x (omega arith) ∙ ap (λ y. Some y) (get_or-set_same xs at x x inside)

pub elsewhere : {X : Type 0} (xs : List X) (at : ℕ) (x : X) (k : ℕ) (y : X) → k ≢ at → slice_get xs k ≡ Some y → slice_get (set xs at x) k ≡ Some y
elsewhere xs at x k y other there =
    let inside = slice_get_within xs k y there in
    let long = length-set xs at x in
    slice_get-get_or (set xs at x) k y (omega arith)
    ∙ ap (λ z. Some z) (get_or-set_other xs at k x y other ∙ get_or_from_slice_get xs k y y there)

one : {A : Type 0} (P : A → Type 0) (a : A) → P a → All P (a ∷ [])
one P a p zero d l = p
one P a p (suc i) d l = absurd (omega arith)

-- the piece that is made of an entry's inputs is one of the batch
pub made_of : (batch : List InputBytes) (entry : ℕ) (d : InputBytes) (piece : PieceParts) → entry < length batch
    → piece.entry ≡ entry → piece.inputs ≡ get_or batch entry d → IsPieceOf batch piece
made_of batch entry d piece inside of_entry of_inputs =
    ap (λ (n : ℕ). slice_get batch n) of_entry ∙ slice_get-get_or batch entry d inside ∙ ap (λ (i : InputBytes). Some i) (sym of_inputs)

-- a piece of the batch may be placed
pub placed : (batch : List InputBytes) (places : List (Option PieceParts)) (piece : PieceParts) → IsPieceOf batch piece
    → ArePlaced batch places → ArePlaced batch (set places piece.entry (Some piece))
placed batch places piece of_batch all place other at =
    elim (get_set places piece.entry (Some piece) place (Some other) at) [
      | inl here ↦ let same : other ≡ piece = cc in
          (ap (λ (p : PieceParts). p.entry) same ∙ sym here.0, subst (λ (p : PieceParts). IsPieceOf batch p) (sym same) of_batch)
      | inr there ↦ all place other there.1
    ]

module _ (job : Job) (old now : Worker) (piece : PieceParts) (at_work : IsAtWork job old) (of_batch : IsPieceOf job.inputs.now piece)
    (same_ticket : now.ticket ≡ old.ticket) (own : IsQueuePassOf job.queue.now now.pass) where
  -- it pushed a piece
  pub pushed_more : log_of now.pass ≡ after_push (log_of old.pass) piece → now.kept.items ≡ old.kept.items → IsAtWork job now
  pushed_more pushed same = record {
    ticket = subst (λ t. IsTicketOf job.draws.now t) (sym same_ticket) at_work.ticket;
    pass = own;
    unpopped = ap (λ (l : Log PieceParts). l.popped) pushed ∙ at_work.unpopped;
    pushed = subst (λ (l : Log PieceParts). All (IsPieceOf job.inputs.now) l.pushed) (sym pushed)
        (All-append (IsPieceOf job.inputs.now) (log_of old.pass).pushed (piece ∷ []) at_work.pushed (one (IsPieceOf job.inputs.now) piece of_batch));
    places = ap (λ (xs : List (Option PieceParts)). length xs) same ∙ at_work.places;
    kept = subst (λ (xs : List (Option PieceParts)). ArePlaced job.inputs.now xs) (sym same) at_work.kept;
  }

  -- it kept one
  pub kept_more : log_of now.pass ≡ log_of old.pass → now.kept.items ≡ set old.kept.items piece.entry (Some piece) → IsAtWork job now
  kept_more same kept = record {
    ticket = subst (λ t. IsTicketOf job.draws.now t) (sym same_ticket) at_work.ticket;
    pass = own;
    unpopped = ap (λ (l : Log PieceParts). l.popped) same ∙ at_work.unpopped;
    pushed = subst (λ (l : Log PieceParts). All (IsPieceOf job.inputs.now) l.pushed) (sym same) at_work.pushed;
    places = ap (λ (xs : List (Option PieceParts)). length xs) kept ∙ length-set old.kept.items piece.entry (Some piece) ∙ at_work.places;
    kept = subst (λ (xs : List (Option PieceParts)). ArePlaced job.inputs.now xs) (sym kept) (placed job.inputs.now old.kept.items piece of_batch at_work.kept);
  }

-- the piece that it kept stands at its place
pub has_kept : (old now : Worker) (entry : ℕ) (piece : PieceParts) → entry < length old.kept.items
    → now.kept.items ≡ set old.kept.items entry (Some piece) → HasPiece now entry
has_kept old now entry piece inside kept =
    inr (piece, ap (λ (xs : List (Option PieceParts)). slice_get xs entry) kept ∙ written old.kept.items entry (Some piece) inside)

-- and it has what it had
pub covers_kept : (old now : Worker) (entry : ℕ) (piece : PieceParts) → entry < length old.kept.items
    → log_of now.pass ≡ log_of old.pass → now.kept.items ≡ set old.kept.items entry (Some piece) → Covers old now
covers_kept old now entry piece inside same kept number has =
    elim has [
      | inl pushed ↦ let counts = ap (λ (l : Log PieceParts). count_by (is_of number) l.pushed) same in inl (omega arith)
      | inr held ↦ elim (cases_eq number entry) [
        | inl here ↦ subst (λ (n : ℕ). HasPiece now n) (sym here) (has_kept old now entry piece inside kept)
        | inr other ↦ inr (held.0, ap (λ (xs : List (Option PieceParts)). slice_get xs number) kept ∙ elsewhere old.kept.items entry (Some piece) number (Some held.0) other held.1)
      ]
    ]
