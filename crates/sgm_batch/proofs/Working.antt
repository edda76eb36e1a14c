-- A worker that draws once more.
use Rattle.std.proofs.Common.{◌≡◌, ◌≢◌, ℕ, ◌<◌, List, [], ◌∷◌, ◌++◌, inl, inr, refl, sym, ap, ◌∙◌, subst, arith}
use Rattle.std.proofs.lemmas.Bool.{cases_eq}
use Rattle.sgm_draws.specs.Numbers.{times}
use Rattle.sgm_draws.specs.Tickets.{TicketParts, after_draw, count_of, parts_of}
use Rattle.sgm_draws.specs.declared.ticket.Ticket.{Ticket}
use Rattle.sgm_draws.proofs.Numbers.{times_append, times_cons}
use Rattle.sgm_queue.specs.Queues.{log_of}
use Rattle.sgm_batch.specs.Batches.{CanWork, Covers, HasPiece, IsAtWork, IsSameWorker}
use Rattle.sgm_batch.specs.declared.worker.Worker.{Worker}
use Rattle.sgm_batch.specs.declared.worker.Job.{Job}

-- any number but the last one stood there as often before
times_before : (xs : List ℕ) (x n : ℕ) → n ≢ x → times (xs ++ x ∷ []) n ≡ times xs n
times_before xs x n other =
    let all = times_append xs (x ∷ []) n in
    let last = times_cons x [] n in
    let none : times [] n ≡ 0 = refl in
    grind arith

-- it drew a number, and has made its piece
module _ (job : Job) (old : Worker) (ticket : Ticket) (can_work : CanWork job old) (now : Worker) (entry : ℕ) (some : entry < count_of job.draws.now)
    (drew : parts_of ticket ≡ after_draw (parts_of old.ticket) entry) (same_ticket : now.ticket ≡ ticket) (at_work : IsAtWork job now)
    (piece : HasPiece now entry) (pieces : Covers old now) where
  shown : parts_of now.ticket ≡ after_draw (parts_of old.ticket) entry
  shown = ap (λ (t : Ticket). parts_of t) same_ticket ∙ drew

  pub works_on : CanWork job now
  works_on = record {
    at_work = at_work;
    each = λ number has. elim (cases_eq number entry) [
      | inl here ↦ subst (λ (n : ℕ). HasPiece now n) (sym here) piece
      | inr other ↦
          let after = ap (λ (t : TicketParts). times t.drawn number) shown in
          let before = times_before (parts_of old.ticket).drawn entry number other in
          pieces number (can_work.each number (omega arith))
    ];
    may_draw = let saw = ap (λ (t : TicketParts). t.seen) shown in omega arith;
  }

  pub same_on : (first : Worker) → IsSameWorker first old → (log_of now.pass).shares ≡ (log_of old.pass).shares → IsSameWorker first now
  same_on first same shares = record {
    shares = shares ∙ same.shares;
    gathered = ap (λ (t : TicketParts). t.gathered) shown ∙ same.gathered;
  }
