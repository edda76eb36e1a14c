-- Workers whose pieces are gathered.
use Rattle.std.proofs.Common.{◌≡◌, ℕ, suc, ◌+◌, ◌<◌, ◌≤◌, ◌⊎◌, inl, inr, List, [], ◌∷◌, ◌++◌, length, get_or, replicate, cond, Option, None, Some, refl, sym, ap, ◌∙◌, subst, arith, All}
use Rattle.std.specs.Prelude.{slice_get, count_by}
use Rattle.std.specs.List.{sum_by}
use Rattle.std.proofs.lemmas.Bool.{cases_eq}
use Rattle.std.proofs.lemmas.List.{length-replicate, get_or-replicate}
use Rattle.std.proofs.lemmas.List.Elements.{All-append, All-contains, All-nil, Contains-push}
use Rattle.std.proofs.lemmas.List.Sums.{sum_by-append, sum_by-cons}
use Rattle.std.proofs.lemmas.Option.{slice_get_within, get_or_from_slice_get}
use Rattle.sgm_draws.specs.Numbers.{IsEachOnce, times}
use Rattle.sgm_draws.specs.Tickets.{AreNew, HasAll, IsTicketOf, TicketParts, count_of, joined, new_ticket, parts_of, tickets_of}
use Rattle.sgm_draws.specs.declared.draws.Draws.{Draws}
use Rattle.sgm_draws.specs.declared.ticket.Ticket.{Ticket}
use Rattle.sgm_draws.proofs.Numbers.{once_yes, times_append, times_own}
use Rattle.sgm_queue.specs.Queues.{HasBoth, IsQueuePassOf, log_of}
use Rattle.sgm_queue.specs.Logs.{joined as joined_log}
use Rattle.sgm_queue.specs.declared.log.Log.{Log}
use Rattle.sgm_batch.specs.Pieces.{IsPieceOf, PieceParts}
use Rattle.sgm_batch.specs.Batches.{AreAllOf, CanWork, HasEach, HasPiece, IsDone, IsJob, IsJoined, IsSameWorker, chosen, is_of, shares_of, times_gathered}
use Rattle.sgm_batch.specs.declared.worker.Worker.{Worker}
use Rattle.sgm_batch.specs.declared.worker.Job.{Job}

get_last : {A : Type 0} (xs : List A) (a : A) → slice_get (xs ++ a ∷ []) (length xs) ≡ Some a
get_last [] a = refl
get_last (x ∷ xs) a = get_last xs a

-- the last of new tickets
pub last_new : (draws : Draws) (old new : List Ticket) (t : Ticket) → old ≡ new ++ t ∷ [] → AreNew draws old
    → IsTicketOf draws t × (parts_of t ≡ new_ticket (length new))
last_new draws old new t e h = h (length new) t (ap (λ (xs : List Ticket). slice_get xs (length new)) e ∙ get_last new t)

-- nothing stands at an empty place
same_kept : {X : Type 0} (n place : ℕ) (none other : X) → slice_get (replicate n none) place ≡ Some other → other ≡ none
same_kept n place none other at =
    let inside = slice_get_within (replicate n none) place other at in
    let there = get_or_from_slice_get (replicate n none) place other none at in
    let long = length-replicate n none in
    sym there ∙ get_or-replicate n place none none (omega arith)

none_kept : (n place : ℕ) (piece : PieceParts) → slice_get (replicate n None) place ≡ Some (Some piece) → ⊥
none_kept n place piece at = let same : Some piece ≡ None = same_kept n place None (Some piece) at in cc

module _ (job : Job) where
  -- a worker that has made no step may work
  pub fresh : (worker : Worker) (number : ℕ) → IsJob job → 0 < length job.inputs.now → IsTicketOf job.draws.now worker.ticket
      → parts_of worker.ticket ≡ new_ticket number → IsQueuePassOf job.queue.now worker.pass → (log_of worker.pass).pushed ≡ []
      → (log_of worker.pass).popped ≡ [] → worker.kept.items ≡ replicate (length job.inputs.now) None → CanWork job worker
  fresh worker number is_job some ticket new pass pushed popped kept = record {
    at_work = record {
      ticket = ticket;
      pass = pass;
      unpopped = popped;
      pushed = subst (λ (xs : List PieceParts). All (IsPieceOf job.inputs.now) xs) (sym pushed) (All-nil (IsPieceOf job.inputs.now));
      places = ap (λ (xs : List (Option PieceParts)). length xs) kept ∙ length-replicate (length job.inputs.now) None;
      kept = λ place piece at. absurd (none_kept (length job.inputs.now) place piece (ap (λ (xs : List (Option PieceParts)). slice_get xs place) (sym kept) ∙ at));
    };
    each = λ n has.
        let drawn = ap (λ (t : TicketParts). times t.drawn n) new in
        let none : times [] n ≡ 0 = refl in
        absurd (omega arith);
    may_draw = let saw = ap (λ (t : TicketParts). t.seen) new in omega arith;
  }

  -- the only worker is all
  pub alone : (worker : Worker) → tickets_of job.draws.now ≡ 1 → shares_of worker ≡ 2 → (parts_of worker.ticket).gathered ≡ 0 ∷ []
      → AreAllOf job (worker ∷ [])
  alone worker count shares gathered = record {
    shares = let e = sum_by-cons shares_of worker [] in let z : sum_by shares_of [] ≡ 0 = refl in omega arith;
    tickets = λ number inside.
        let e = sum_by-cons (times_gathered number) worker [] in
        let z : sum_by (times_gathered number) [] ≡ 0 = refl in
        let is_zero : number ≡ 0 = omega arith in
        let g = ap (λ (xs : List ℕ). times xs number) gathered in
        let at_zero = ap (λ (n : ℕ). times (0 ∷ []) n) is_zero in
        let own = times_own 0 [] in
        omega arith;
  }

  -- and so are two
  pub pair : (one other : Worker) → tickets_of job.draws.now ≡ 2 → shares_of one ≡ 1 → shares_of other ≡ 1
      → (parts_of one.ticket).gathered ≡ 0 ∷ [] → (parts_of other.ticket).gathered ≡ 1 ∷ [] → AreAllOf job (one ∷ other ∷ [])
  pair one other count one_share other_share one_gathered other_gathered = record {
    shares =
        let e = sum_by-cons shares_of one (other ∷ []) in
        let f = sum_by-cons shares_of other [] in
        let z : sum_by shares_of [] ≡ 0 = refl in
        omega arith;
    tickets = λ number inside.
        let e = sum_by-cons (times_gathered number) one (other ∷ []) in
        let f = sum_by-cons (times_gathered number) other [] in
        let z : sum_by (times_gathered number) [] ≡ 0 = refl in
        let g = ap (λ (xs : List ℕ). times xs number) one_gathered in
        let h = ap (λ (xs : List ℕ). times xs number) other_gathered in
        elim (cases_eq number 0) [
          | inl first ↦ let at = ap (λ (n : ℕ). times (0 ∷ []) n) first in let own = times_own 0 [] in omega arith
          | inr second ↦
              let is_one : number ≡ 1 = omega arith in
              let at = ap (λ (n : ℕ). times (1 ∷ []) n) is_one in let own = times_own 1 [] in omega arith
        ];
  }

sum_same : (f : Worker → ℕ) (old now : List Worker) → length now ≡ length old
    → ((k : ℕ) (d : Worker) → k < length old → f (get_or now k d) ≡ f (get_or old k d)) → sum_by f now ≡ sum_by f old
sum_same f [] [] long each = refl
sum_same f [] (y ∷ ys) long each = absurd (omega (arith, long))
sum_same f (x ∷ xs) [] long each = absurd (omega (arith, long))
sum_same f (x ∷ xs) (y ∷ ys) long each =
    let a = sum_by-cons f y ys in
    let b = sum_by-cons f x xs in
    let h : f y ≡ f x = each 0 x (omega arith) in
    let r = sum_same f xs ys (omega (arith, long)) (λ k d l. each (suc k) d (omega arith)) in
    omega arith

-- workers that did their work are still all
pub still_all : (job : Job) (old now : List Worker) → length now ≡ length old
    → ((k : ℕ) (d : Worker) → k < length old → IsSameWorker (get_or old k d) (get_or now k d)) → AreAllOf job old → AreAllOf job now
still_all job old now long same all = record {
  shares = sum_same shares_of old now long (λ k d l. (same k d l).shares) ∙ all.shares;
  tickets = λ number inside.
      let e = sum_same (times_gathered number) old now long (λ k d l. ap (λ (xs : List ℕ). times xs number) (same k d l).gathered) in
      let h = all.tickets number inside in
      omega arith;
}

-- what is at a place after another's was put over it
of_chosen : (theirs own : Option (Option PieceParts)) (piece : PieceParts) → chosen theirs own ≡ Some (Some piece)
    → (theirs ≡ Some (Some piece)) ⊎ (own ≡ Some (Some piece))
of_chosen None own piece e = inr e
of_chosen (Some None) own piece e = inr e
of_chosen (Some (Some other)) own piece e = inl e

own_chosen : (theirs own : Option (Option PieceParts)) (piece : PieceParts) → own ≡ Some (Some piece)
    → (any : PieceParts) × (chosen theirs own ≡ Some (Some any))
own_chosen None own piece e = (piece, e)
own_chosen (Some None) own piece e = (piece, e)
own_chosen (Some (Some other)) own piece e = (other, refl)

-- two workers that are done, joined
module _ (job : Job) (whole other now : Worker) (done : IsDone job whole) (other_done : IsDone job other)
    (own : IsTicketOf job.draws.now now.ticket) (ticket : parts_of now.ticket ≡ joined (parts_of whole.ticket) (parts_of other.ticket))
    (all : HasAll (tickets_of job.draws.now) (parts_of now.ticket) → count_of job.draws.now ≤ (parts_of now.ticket).seen
    → IsEachOnce (count_of job.draws.now) (parts_of now.ticket).drawn)
    (pass : IsQueuePassOf job.queue.now now.pass) (log : log_of now.pass ≡ joined_log (log_of whole.pass) (log_of other.pass))
    (count : length now.kept.items ≡ length whole.kept.items)
    (kept : (place : ℕ) → slice_get now.kept.items place ≡ chosen (slice_get other.kept.items place) (slice_get whole.kept.items place)) where
  pushed_both : (number : ℕ) → count_by (is_of number) (log_of now.pass).pushed
      ≡ count_by (is_of number) (log_of whole.pass).pushed + count_by (is_of number) (log_of other.pass).pushed
  pushed_both number =
      ap (λ (l : Log PieceParts). count_by (is_of number) l.pushed) log
      ∙ sum_by-append (λ (p : PieceParts). cond (is_of number p) 1 0) (log_of whole.pass).pushed (log_of other.pass).pushed

  from_whole : (number : ℕ) → HasPiece whole number → HasPiece now number
  from_whole number has = elim has [
    | inl pushed ↦ let both = pushed_both number in inl (omega arith)
    | inr held ↦ let any = own_chosen (slice_get other.kept.items number) (slice_get whole.kept.items number) held.0 held.1 in inr (any.0, kept number ∙ any.1)
  ]

  from_other : (number : ℕ) → HasPiece other number → HasPiece now number
  from_other number has = elim has [
    | inl pushed ↦ let both = pushed_both number in inl (omega arith)
    | inr held ↦ inr (held.0, kept number ∙ ap (λ (theirs : Option (Option PieceParts)). chosen theirs (slice_get whole.kept.items number)) held.1)
  ]

  saw_end : count_of job.draws.now ≤ (parts_of now.ticket).seen
  saw_end = let saw = ap (λ (t : TicketParts). t.seen) ticket in let end = done.end in omega arith

  pub joined_done : IsDone job now
  joined_done = record {
    at_work = record {
      ticket = own;
      pass = pass;
      unpopped = ap (λ (l : Log PieceParts). l.popped) log
          ∙ ap (λ (xs : List PieceParts). xs ++ (log_of other.pass).popped) done.at_work.unpopped ∙ other_done.at_work.unpopped;
      pushed = subst (λ (l : Log PieceParts). All (IsPieceOf job.inputs.now) l.pushed) (sym log)
          (All-append (IsPieceOf job.inputs.now) (log_of whole.pass).pushed (log_of other.pass).pushed done.at_work.pushed other_done.at_work.pushed);
      places = count ∙ done.at_work.places;
      kept = λ place piece at.
          elim (of_chosen (slice_get other.kept.items place) (slice_get whole.kept.items place) piece (sym (kept place) ∙ at)) [
            | inl theirs ↦ other_done.at_work.kept place piece theirs
            | inr mine ↦ done.at_work.kept place piece mine
          ];
    };
    each = λ number has.
        let drawn = ap (λ (t : TicketParts). times t.drawn number) ticket in
        let both = times_append (parts_of whole.ticket).drawn (parts_of other.ticket).drawn number in
        elim (cases_eq (times (parts_of whole.ticket).drawn number) 0) [
          | inl none ↦ from_other number (other_done.each number (omega arith))
          | inr some ↦ from_whole number (done.each number (omega arith))
        ];
    end = saw_end;
    all = λ has_all. all has_all saw_end;
  }

  pub is_joined : IsJoined whole other now
  is_joined = record {
    shares = ap (λ (l : Log PieceParts). l.shares) log;
    tickets = λ number. ap (λ (t : TicketParts). times t.gathered number) ticket
        ∙ times_append (parts_of whole.ticket).gathered (parts_of other.ticket).gathered number;
  }

-- a sum over workers of which the last comes first
sum_front : (f : Worker → ℕ) (crew others left : List Worker) (last : Worker) → crew ≡ others ++ last ∷ [] → left ≡ others
    → sum_by f (last ∷ left) ≡ sum_by f crew
sum_front f crew others left last are same =
    let a = ap (λ (xs : List Worker). sum_by f xs) are in
    let b = sum_by-append f others (last ∷ []) in
    let c = sum_by-cons f last [] in
    let z : sum_by f [] ≡ 0 = refl in
    let d = sum_by-cons f last left in
    let e = ap (λ (xs : List Worker). sum_by f xs) same in
    omega arith

-- and where two of them are joined
sum_joined : (f : Worker → ℕ) (whole other now : Worker) (rest left : List Worker) → rest ≡ other ∷ left → f now ≡ f whole + f other
    → sum_by f (now ∷ left) ≡ sum_by f (whole ∷ rest)
sum_joined f whole other now rest left is both =
    let a = ap (λ (xs : List Worker). sum_by f xs) is in
    let b = sum_by-cons f other left in
    let c = sum_by-cons f whole rest in
    let d = sum_by-cons f now left in
    omega arith

pub all_front : (job : Job) (crew others left : List Worker) (last : Worker) → crew ≡ others ++ last ∷ [] → left ≡ others
    → AreAllOf job crew → AreAllOf job (last ∷ left)
all_front job crew others left last are same all = record {
  shares = sum_front shares_of crew others left last are same ∙ all.shares;
  tickets = λ number inside.
      let e = sum_front (times_gathered number) crew others left last are same in
      let h = all.tickets number inside in
      omega arith;
}

pub all_joined : (job : Job) (whole other now : Worker) (rest left : List Worker) → rest ≡ other ∷ left → IsJoined whole other now
    → AreAllOf job (whole ∷ rest) → AreAllOf job (now ∷ left)
all_joined job whole other now rest left is two all = record {
  shares = sum_joined shares_of whole other now rest left is two.shares ∙ all.shares;
  tickets = λ number inside.
      let e = sum_joined (times_gathered number) whole other now rest left is (two.tickets number) in
      let h = all.tickets number inside in
      omega arith;
}

pub last_of : (P : Worker → Type 0) (crew others : List Worker) (last : Worker) → crew ≡ others ++ last ∷ [] → All P crew → P last
last_of P crew others last are all =
    All-contains P (others ++ last ∷ []) last (subst (λ (xs : List Worker). All P xs) are all) (Contains-push others last)

nothing_left : (left : List Worker) → length left ≡ 0 → left ≡ []
nothing_left [] empty = refl
nothing_left (x ∷ xs) empty = absurd (omega arith)

-- one that was joined with all others
module _ (job : Job) (is_job : IsJob job) (whole : Worker) (left : List Worker) (empty : length left ≡ 0)
    (all : AreAllOf job (whole ∷ left)) (done : IsDone job whole) where
  sum_of : (f : Worker → ℕ) → sum_by f (whole ∷ left) ≡ f whole
  sum_of f =
      let a = sum_by-cons f whole left in
      let b = ap (λ (xs : List Worker). sum_by f xs) (nothing_left left empty) in
      let z : sum_by f [] ≡ 0 = refl in
      omega arith

  pub whole_both : HasBoth (log_of whole.pass)
  whole_both = let s = sum_of shares_of in let t = all.shares in omega arith

  has_all : HasAll (tickets_of job.draws.now) (parts_of whole.ticket)
  has_all number below =
      let s = sum_of (times_gathered number) in
      let a = all.tickets number below in
      omega arith

  pub whole_each : HasEach job whole
  whole_each number inside =
      let once = done.all has_all number in
      let yes = once_yes (count_of job.draws.now) number (omega (arith, inside, is_job)) in
      done.each number (omega arith)

-- the same workers are all
pub all_same : (job : Job) (xs ys : List Worker) → xs ≡ ys → AreAllOf job ys → AreAllOf job xs
all_same job xs ys same all = subst (λ (workers : List Worker). AreAllOf job workers) (sym same) all
