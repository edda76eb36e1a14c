-- The parcel of the strip held, while fronts go through it.
use Rattle.std.proofs.Common.{◌≡◌, ℕ, ◌-◌, ◌+◌, true, Bool, List, [], ◌∷◌, ◌++◌, length, length-append, sym, ap, ◌∙◌, refl, arith, Some}
use mathlib.Core.Logic.{dite}
use native.Mathlib.Decide.{ℕ_discrete}
use Rattle.std.specs.List.{slice_get}
use Rattle.sgm_energy.specs.declared.dir.Dir.{Dir}
use Rattle.sgm_energy.specs.Dirs.{number_of}
use Rattle.sgm_strip.specs.Parcels.{ParcelParts, is_done, with_done, parcel_of}
use Rattle.sgm_strip.specs.declared.front.Visit.{Visit}
use Rattle.sgm_strip.proofs.Sets.{done_here, done_else}
use Rattle.sgm_handover.specs.Handover.{changed}
use Rattle.sgm_handover.proofs.Maps.{changed_there, changed_else}
use Rattle.sgm_energy.proofs.DirLemmas.{same_number}
use Rattle.sgm_board.specs.Passes.{PassParts}
use Rattle.sgm_board.specs.Boards.{IsHeld}
use Rattle.sgm_board.specs.declared.board.Board.{Board}

-- a step that leaves the strip and the done set
pub still_held : (board : Board) (p q : PassParts) (parcel : ParcelParts) → q.strip ≡ p.strip → q.done ≡ p.done → IsHeld board p parcel → IsHeld board q parcel
still_held board p q parcel strip done h = record {
  of_board = h.of_board;
  held = strip ∙ h.held;
  done = λ dir. h.done dir ∙ sym (ap (λ (f : Dir → Bool). f dir) done);
}

-- a front went through, and was put
pub held_after_put : (board : Board) (p q : PassParts) (parcel : ParcelParts) (dir : Dir) (sums : List ℕ) → length parcel.done ≡ 8 → q.strip ≡ p.strip → q.done ≡ changed number_of p.done dir true → IsHeld board p parcel
    → IsHeld board q (parcel_of parcel.scene parcel.cut parcel.strip (with_done parcel.done dir) parcel.costs sums)
held_after_put board p q parcel dir sums eight strip done h = record {
  of_board = h.of_board;
  held = strip ∙ h.held;
  done = λ other. dite (ℕ_discrete (number_of other) (number_of dir))
      (λ e. ap (is_done (with_done parcel.done dir)) (same_number other dir e) ∙ (done_here parcel.done dir eight ∙ sym (ap (λ (f : Dir → Bool). f other) done ∙ changed_there number_of p.done dir true other e)))
      (λ ne. done_else parcel.done dir other (λ e. ne (ap number_of e)) ∙ (h.done other ∙ sym (ap (λ (f : Dir → Bool). f other) done ∙ changed_else number_of p.done dir true other ne)));
}

last_at : {A : Type 0} (xs : List A) (a : A) → slice_get (xs ++ a ∷ []) (length xs) ≡ Some a
last_at [] a = refl
last_at (x ∷ xs) a = last_at xs a

-- the visit that was added last
pub last_visit : (visits before : List Visit) (visit : Visit) → visits ≡ before ++ visit ∷ [] → slice_get visits (length visits - 1) ≡ Some visit
last_visit visits before visit e =
    let long : length visits ≡ length before + 1 = ap length e ∙ length-append before (visit ∷ []) in
    (λ i. slice_get (e i) (let q : length visits - 1 ≡ length before = omega arith in q i)) ∙ last_at before visit
