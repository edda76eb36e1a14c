-- Pieces that are popped, placed and collected.
use Rattle.std.proofs.Common.{◌≡◌, ◌≢◌, ℕ, zero, suc, ◌+◌, ◌<◌, ◌≤◌, inl, inr, List, [], ◌∷◌, length, map, set, cond, Bool, Option, option_map, get_or, None, Some, refl, sym, ap, ◌∙◌, subst, arith}
use Rattle.std.specs.Prelude.{slice_get, count_by, Contains}
use Rattle.std.specs.List.{sum_by}
use Rattle.std.proofs.lemmas.Bool.{cases_eq, cases_lt}
use Rattle.std.proofs.lemmas.List.{length-set}
use Rattle.std.proofs.lemmas.List.Elements.{All-contains}
use Rattle.std.proofs.lemmas.List.Sums.{sum_by-append, sum_by-cons}
use Rattle.std.proofs.lemmas.Option.{slice_get-map, slice_get_past, slice_get_read, slice_get_within}
use Rattle.sgm_queue.specs.Queues.{HasBoth, IsQueuePassOf, log_of}
use Rattle.sgm_queue.specs.Logs.{after_pop}
use Rattle.sgm_queue.specs.declared.log.Log.{Log}
use Rattle.sgm_stages.specs.Inputs.{InputBytes}
use Rattle.sgm_batch.specs.Pieces.{IsPieceOf, PieceParts}
use Rattle.sgm_batch.specs.Batches.{AreAll, ArePlaced, HasEach, IsAtWork, chosen, is_of}
use Rattle.sgm_batch.specs.declared.worker.Worker.{Worker}
use Rattle.sgm_batch.specs.declared.worker.Job.{Job}
use Rattle.sgm_batch.proofs.Handing.{elsewhere, placed, written}

pub set_else : {X : Type 0} (xs : List X) (at : ℕ) (x : X) (k : ℕ) → k ≢ at → slice_get (set xs at x) k ≡ slice_get xs k
set_else [] at x k other = refl
set_else (y ∷ ys) zero x zero other = absurd (other refl)
set_else (y ∷ ys) zero x (suc k) other = refl
set_else (y ∷ ys) (suc at) x zero other = refl
set_else (y ∷ ys) (suc at) x (suc k) other = set_else ys at x k (λ e. other (ap (λ (n : ℕ). suc n) e))

-- What another kept, put over one's own, place by place: the places before this one have it, and nothing changed from it on.
pub record IsTakenOver (place : ℕ) (own_first theirs_first own theirs : List (Option PieceParts)) : Type 0 where
  pub count : length own ≡ length own_first
  pub theirs_count : length theirs ≡ length theirs_first
  pub done : (k : ℕ) → k < place → slice_get own k ≡ chosen (slice_get theirs_first k) (slice_get own_first k)
  pub own_rest : (k : ℕ) → place ≤ k → slice_get own k ≡ slice_get own_first k
  pub theirs_rest : (k : ℕ) → place ≤ k → slice_get theirs k ≡ slice_get theirs_first k

module _ (place : ℕ) (own_first theirs_first own theirs : List (Option PieceParts)) (so_far : IsTakenOver place own_first theirs_first own theirs) where
  pub taken_some : (piece : PieceParts) → place < length own → slice_get theirs place ≡ Some (Some piece)
      → IsTakenOver (place + 1) own_first theirs_first (set own place (Some piece)) (set theirs place None)
  taken_some piece inside at = record {
    count = length-set own place (Some piece) ∙ so_far.count;
    theirs_count = length-set theirs place None ∙ so_far.theirs_count;
    done = λ k below. elim (cases_eq k place) [
      | inl here ↦ ap (λ (n : ℕ). slice_get (set own place (Some piece)) n) here ∙ written own place (Some piece) inside
          ∙ sym (ap (λ (x : Option (Option PieceParts)). chosen x (slice_get own_first k))
          (ap (λ (n : ℕ). slice_get theirs_first n) here ∙ sym (so_far.theirs_rest place (omega arith)) ∙ at))
      | inr other ↦ set_else own place (Some piece) k other ∙ so_far.done k (omega arith)
    ];
    own_rest = λ k above. set_else own place (Some piece) k (λ e. absurd (omega arith)) ∙ so_far.own_rest k (omega arith);
    theirs_rest = λ k above. set_else theirs place None k (λ e. absurd (omega arith)) ∙ so_far.theirs_rest k (omega arith);
  }

  pub taken_none : slice_get theirs place ≡ Some None → IsTakenOver (place + 1) own_first theirs_first own (set theirs place None)
  taken_none at = record {
    count = so_far.count;
    theirs_count = length-set theirs place None ∙ so_far.theirs_count;
    done = λ k below. elim (cases_eq k place) [
      | inl here ↦ so_far.own_rest k (omega arith)
          ∙ sym (ap (λ (x : Option (Option PieceParts)). chosen x (slice_get own_first k))
          (ap (λ (n : ℕ). slice_get theirs_first n) here ∙ sym (so_far.theirs_rest place (omega arith)) ∙ at))
      | inr other ↦ so_far.done k (omega arith)
    ];
    own_rest = λ k above. so_far.own_rest k (omega arith);
    theirs_rest = λ k above. set_else theirs place None k (λ e. absurd (omega arith)) ∙ so_far.theirs_rest k (omega arith);
  }

  pub over_some : (piece : PieceParts) (found left : Option PieceParts) (now : List (Option PieceParts)) → place < length own → place < length theirs
      → found ≡ get_or theirs place found → Some piece ≡ found → left ≡ None → now ≡ set own place (Some piece)
      → IsTakenOver (place + 1) own_first theirs_first now (set theirs place left)
  over_some piece found left now inside theirs_inside there is after now_is =
      subst (λ (xs : List (Option PieceParts)). IsTakenOver (place + 1) own_first theirs_first xs (set theirs place left)) (sym now_is)
      (subst (λ (x : Option PieceParts). IsTakenOver (place + 1) own_first theirs_first (set own place (Some piece)) (set theirs place x)) (sym after)
      (taken_some piece inside
      (slice_get_read theirs (length theirs) place found refl theirs_inside there ∙ ap (λ (x : Option PieceParts). Some x) (sym is))))

  pub over_none : (found left : Option PieceParts) (now : List (Option PieceParts)) → place < length theirs
      → found ≡ get_or theirs place found → None ≡ found → left ≡ None → now ≡ own
      → IsTakenOver (place + 1) own_first theirs_first now (set theirs place left)
  over_none found left now theirs_inside there is after now_is =
      subst (λ (xs : List (Option PieceParts)). IsTakenOver (place + 1) own_first theirs_first xs (set theirs place left)) (sym now_is)
      (subst (λ (x : Option PieceParts). IsTakenOver (place + 1) own_first theirs_first own (set theirs place x)) (sym after)
      (taken_none
      (slice_get_read theirs (length theirs) place found refl theirs_inside there ∙ ap (λ (x : Option PieceParts). Some x) (sym is))))

  pub taken_all : length theirs_first ≤ place → (k : ℕ) → slice_get own k ≡ chosen (slice_get theirs_first k) (slice_get own_first k)
  taken_all end k = elim (cases_lt k place) [
    | inl below ↦ so_far.done k below
    | inr above ↦ so_far.own_rest k above
        ∙ sym (ap (λ (x : Option (Option PieceParts)). chosen x (slice_get own_first k)) (slice_get_past theirs_first k (omega arith)))
  ]

-- A worker that pops: all that it popped, and all that was kept at first, is placed.
pub record IsPopping (job : Job) (first now : Worker) : Type 0 where
  pub pass : IsQueuePassOf job.queue.now now.pass
  pub both : HasBoth (log_of now.pass)
  pub pushed : (log_of now.pass).pushed ≡ (log_of first.pass).pushed
  pub count : length now.kept.items ≡ length job.inputs.now
  pub placed : ArePlaced job.inputs.now now.kept.items
  pub kept : (number : ℕ) (piece : PieceParts) → slice_get first.kept.items number ≡ Some (Some piece)
      → (any : PieceParts) × (slice_get now.kept.items number ≡ Some (Some any))
  pub popped : (number : ℕ) → 1 ≤ count_by (is_of number) (log_of now.pass).popped
      → (any : PieceParts) × (slice_get now.kept.items number ≡ Some (Some any))

pub pops_first : (job : Job) (worker : Worker) → IsAtWork job worker → HasBoth (log_of worker.pass) → IsPopping job worker worker
pops_first job worker at_work both = record {
  pass = at_work.pass;
  both = both;
  pushed = refl;
  count = at_work.places;
  placed = at_work.kept;
  kept = λ number piece at. (piece, at);
  popped = λ number has.
      let e = ap (λ (xs : List PieceParts). count_by (is_of number) xs) at_work.unpopped in
      let z : count_by (is_of number) [] ≡ 0 = refl in
      absurd (omega arith);
}

-- the piece popped is one of the batch
pub popped_of : (job : Job) (first now : Worker) (piece : PieceParts) → IsAtWork job first → IsPopping job first now
    → Contains (log_of now.pass).pushed piece → IsPieceOf job.inputs.now piece
popped_of job first now piece at_work pops has =
    All-contains (IsPieceOf job.inputs.now) (log_of first.pass).pushed piece at_work.pushed
    (subst (λ (xs : List PieceParts). Contains xs piece) pops.pushed has)

-- and it has a place
pub popped_inside : (job : Job) (first now : Worker) (piece : PieceParts) → IsAtWork job first → IsPopping job first now
    → Contains (log_of now.pass).pushed piece → piece.entry < length now.kept.items
popped_inside job first now piece at_work pops has =
    let inside = slice_get_within job.inputs.now piece.entry piece.inputs (popped_of job first now piece at_work pops has) in
    let count = pops.count in
    omega arith

-- a piece of another entry isn't counted
not_of : (number : ℕ) (piece : PieceParts) → number ≢ piece.entry → cond {A = ℕ} (is_of number piece) 1 0 ≡ 0
not_of number piece other = grind arith

-- it stands there then
module _ (job : Job) (first old now : Worker) (piece : PieceParts) (at_work : IsAtWork job first) (pops : IsPopping job first old)
    (has : Contains (log_of old.pass).pushed piece) (own : IsQueuePassOf job.queue.now now.pass)
    (log : log_of now.pass ≡ after_pop (log_of old.pass) piece) (kept : now.kept.items ≡ set old.kept.items piece.entry (Some piece)) where
  stands : (number : ℕ) (any : PieceParts) → slice_get old.kept.items number ≡ Some (Some any)
      → (any : PieceParts) × (slice_get now.kept.items number ≡ Some (Some any))
  stands number any at =
      let inside = popped_inside job first old piece at_work pops has in
      elim (cases_eq number piece.entry) [
        | inl here ↦ (
          piece,
          ap (λ (xs : List (Option PieceParts)). slice_get xs number) kept
              ∙ ap (λ (n : ℕ). slice_get (set old.kept.items piece.entry (Some piece)) n) here ∙ written old.kept.items piece.entry (Some piece) inside,
        )
        | inr other ↦ (
          any,
          ap (λ (xs : List (Option PieceParts)). slice_get xs number) kept
              ∙ elsewhere old.kept.items piece.entry (Some piece) number (Some any) other at,
        )
      ]

  new_stands : (number : ℕ) → number ≡ piece.entry → (any : PieceParts) × (slice_get now.kept.items number ≡ Some (Some any))
  new_stands number here = (
    piece,
    ap (λ (xs : List (Option PieceParts)). slice_get xs number) kept
        ∙ ap (λ (n : ℕ). slice_get (set old.kept.items piece.entry (Some piece)) n) here
        ∙ written old.kept.items piece.entry (Some piece) (popped_inside job first old piece at_work pops has),
  )

  pub pops_on : IsPopping job first now
  pops_on = record {
    pass = own;
    both = let s = ap (λ (l : Log PieceParts). l.shares) log in let b = pops.both in omega arith;
    pushed = ap (λ (l : Log PieceParts). l.pushed) log ∙ pops.pushed;
    count = ap (λ (xs : List (Option PieceParts)). length xs) kept ∙ length-set old.kept.items piece.entry (Some piece) ∙ pops.count;
    placed = subst (λ (xs : List (Option PieceParts)). ArePlaced job.inputs.now xs) (sym kept)
        (placed job.inputs.now old.kept.items piece (popped_of job first old piece at_work pops has) pops.placed);
    kept = λ number any at. let before = pops.kept number any at in stands number before.0 before.1;
    popped = λ number more.
        let e = ap (λ (l : Log PieceParts). count_by (is_of number) l.popped) log in
        let f = sum_by-append (λ (p : PieceParts). cond (is_of number p) 1 0) (log_of old.pass).popped (piece ∷ []) in
        let g = sum_by-cons (λ (p : PieceParts). cond (is_of number p) 1 0) piece [] in
        let z : sum_by (λ (p : PieceParts). cond (is_of number p) 1 0) [] ≡ 0 = refl in
        elim (cases_eq number piece.entry) [
          | inl here ↦ new_stands number here
          | inr other ↦
              let none = not_of number piece other in
              let before = pops.popped number (omega arith) in
              stands number before.0 before.1
        ];
  }

-- once all was popped, no place is empty
pub all_placed : (job : Job) (first now : Worker) → IsPopping job first now → HasEach job first
    → ((test : PieceParts → Bool) → count_by test (log_of now.pass).popped ≡ count_by test (log_of now.pass).pushed) → AreAll now.kept.items
all_placed job first now pops each popped place inside =
    elim (each place (omega (arith, inside, pops.count))) [
      | inl pushed ↦
          let e = popped (is_of place) in
          let f = ap (λ (xs : List PieceParts). count_by (is_of place) xs) pops.pushed in
          pops.popped place (omega arith)
      | inr held ↦ pops.kept place held.0 held.1
    ]

-- the pieces of the places, in order
pub in_order : (batch : List InputBytes) (places : List (Option PieceParts)) (pieces : List PieceParts) → ArePlaced batch places
    → map Some pieces ≡ places → (entry : ℕ) (piece : PieceParts) → slice_get pieces entry ≡ Some piece → (piece.entry ≡ entry) × IsPieceOf batch piece
in_order batch places pieces are same entry piece at =
    are entry piece (ap (λ (xs : List (Option PieceParts)). slice_get xs entry) (sym same) ∙ slice_get-map Some pieces entry
    ∙ ap (λ (x : Option PieceParts). option_map Some x) at)

-- the first of places none of which is empty has a piece, and so have the others
pub first_placed : (place : Option PieceParts) (places : List (Option PieceParts)) → AreAll (place ∷ places)
    → (piece : PieceParts) × (place ≡ Some piece)
first_placed place places all = let h = all 0 (omega arith) in (h.0, cc)

pub rest_placed : (place : Option PieceParts) (places : List (Option PieceParts)) → AreAll (place ∷ places) → AreAll places
rest_placed place places all k inside = all (suc k) (omega arith)
