-- All workers of a board.
use Rattle.std.proofs.Common.{◌≡◌, ℕ, ◌<◌, Bool, List, [], ◌∷◌, length, get_or, map, Some, refl, sym, ap, subst, ◌∙◌, arith, eq-eqb}
use Rattle.std.specs.Prelude.{All, slice_get}
use Rattle.std.proofs.lemmas.Option.{slice_get-get_or}
use Rattle.std.proofs.lemmas.List.{length-map, get_or-map}
use Rattle.crossbeam_utils.specs.declared.cache_padded.CachePadded.{CachePadded}
use Rattle.sgm_strip.specs.Scenes.{row_length}
use Rattle.sgm_board.specs.declared.board.Board.{Board}
use Rattle.sgm_board.specs.declared.pass.Pass.{Pass}
use Rattle.sgm_board.specs.Passes.{PassParts, new_pass}
use Rattle.sgm_board.specs.Boards.{parts_of, passes_of, scene_of, AreNew, HasAll, IsPassOf}
use Rattle.sgm_work.specs.declared.matching.Worker.{Worker}
use Rattle.sgm_work.specs.Worked.{IsSamePass}
use Rattle.sgm_work.specs.Crews.{AllCanWork, GathersFrom, pass_of, room_of}

-- an item of a list that has so many
pick : {X : Type 0} (xs : List X) (k : ℕ) → k < length xs → X
pick [] k h = absurd (omega arith)
pick (x ∷ xs) k h = x

module _ (board : Board) (passes : List Pass) (crew : List (CachePadded Worker)) (new : AreNew board passes) (has : map pass_of crew ≡ passes) where
  new_at : (k : ℕ) (d : CachePadded Worker) → k < length crew → IsPassOf board (pass_of (get_or crew k d)) × (parts_of (pass_of (get_or crew k d)) ≡ new_pass k)
  new_at k d h = new k (pass_of (get_or crew k d))
      (ap (λ (ps : List Pass). slice_get ps k) (sym has) ∙ slice_get-get_or (map pass_of crew) k (pass_of d) (omega (arith, length-map crew pass_of)) ∙ ap (λ (p : Pass). Some p) (get_or-map pass_of crew k d (pass_of d) h))

  pub can_work : (room : ℕ) → All (λ worker. room_of worker ≡ room) crew → room ≡ row_length (scene_of board) → AllCanWork board crew
  can_work room rooms is k d h = let now = new_at k d h in record {
    own = now.0;
    idle = record { no_strip = ap (λ (p : PassParts). p.strip) now.1; no_front = ap (λ (p : PassParts). p.front) now.1 };
    room = rooms k d h ∙ is;
  }

  pub has_all : (after : List (CachePadded Worker)) (whole : PassParts) → length passes ≡ passes_of board → length after ≡ length crew
      → ((k : ℕ) (d : CachePadded Worker) → k < length crew → IsSamePass (parts_of (pass_of (get_or crew k d))) (parts_of (pass_of (get_or after k d))))
      → All (λ worker. GathersFrom (parts_of (pass_of worker)) whole) after → HasAll (passes_of board) whole
  has_all after whole count same_count same gathers number h =
      let inside : number < length crew = omega (arith, h, count, ap (λ (ps : List Pass). length ps) has, length-map crew pass_of) in
      let d = pick crew number inside in
      gathers number d (omega (arith, inside, same_count)) number
      (ap (λ (f : ℕ → Bool). f number) (same number d inside).same_gathered ∙ ap (λ (p : PassParts). p.gathered number) (new_at number d inside).1 ∙ eq-eqb number number refl)

-- what is said of a slice is said of the list whose items it has
pub same_slice : (crew after slice : List (CachePadded Worker)) → slice ≡ crew
    → ((k : ℕ) (d : CachePadded Worker) → k < length slice → IsSamePass (parts_of (pass_of (get_or slice k d))) (parts_of (pass_of (get_or after k d))))
    → (k : ℕ) (d : CachePadded Worker) → k < length crew → IsSamePass (parts_of (pass_of (get_or crew k d))) (parts_of (pass_of (get_or after k d)))
same_slice crew after slice is same = subst (λ (xs : List (CachePadded Worker)). (k : ℕ) (d : CachePadded Worker) → k < length xs → IsSamePass (parts_of (pass_of (get_or xs k d))) (parts_of (pass_of (get_or after k d)))) is same
