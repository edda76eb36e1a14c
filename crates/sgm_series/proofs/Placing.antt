-- Pieces at the places of their entries.
use Rattle.std.proofs.Common.{◌≡◌, inl, inr, refl, sym, ap, ◌∙◌, subst, arith, ℕ, ◌<◌, List, [], ◌∷◌, ◌++◌, Some, Result, All, length, take, get_or}
use Rattle.std.specs.List.{slice_get}
use Rattle.std.proofs.Math.ListN.{set}
use Rattle.std.proofs.lemmas.List.{length-set}
use Rattle.std.proofs.lemmas.Option.{slice_get_within, slice_get-get_or}
use Rattle.sgm_io.specs.Held.{Held}
use Rattle.sgm_list.specs.Entries.{EntryNames}
use Rattle.sgm_work.proofs.Lists.{get_set}
use Rattle.sgm_stages.specs.Inputs.{InputBytes}
use Rattle.sgm_stages.specs.declared.made.MadeTexts.{MadeTexts}
use Rattle.sgm_stages.specs.declared.stops.TextsError.{TextsError}
use Rattle.sgm_batch.specs.Pieces.{PieceParts, IsMadeOf, IsPieceOf}
use Rattle.sgm_series.specs.Answers.{IsAnswerOf, AreAnswers}
use Rattle.sgm_series.specs.Batches.{AreInputsAt}

-- an answer that is written at the place of its entry
answer_set : (entries : List EntryNames) (held : Held) (answers : List (Result MadeTexts TextsError)) (place : ℕ) (made : Result MadeTexts TextsError) →
    ((entry : EntryNames) → slice_get entries place ≡ Some entry → IsAnswerOf entry held made) → AreAnswers entries held answers → AreAnswers entries held (set answers place made)
answer_set entries held answers place made is are = record {
  count = length-set answers place made ∙ are.count;
  each = λ k entry other at stands. elim (get_set answers place made k other stands) [
    | inl here ↦
        let P : Result MadeTexts TextsError → Type 0 = λ m. IsAnswerOf entry held m in
        subst P (sym here.1) (is entry (sym (ap (λ (n : ℕ). slice_get entries n) here.0) ∙ at))
    | inr there ↦ are.each k entry other at there.1
  ];
}

-- a piece among those of the batch, whose answer is written at the place of its entry
pub placed : (entries : List EntryNames) (held : Held) (places : List ℕ) (inputs : List InputBytes) (pieces : List PieceParts) (n : ℕ) (piece : PieceParts) (entry : ℕ) (answers : List (Result MadeTexts TextsError)) (made : Result MadeTexts TextsError) →
    AreInputsAt entries held places inputs → All (IsPieceOf inputs) pieces → All (λ p. p.entry < length places) pieces →
    (n < length pieces) × (piece ≡ get_or pieces n piece) → entry ≡ piece.entry → IsMadeOf piece.inputs made → AreAnswers entries held answers →
    AreAnswers entries held (set answers (get_or places entry 0) made)
placed entries held places inputs pieces n piece entry answers made at are below stands number is_made was =
    let P : PieceParts → Type 0 = λ p. IsPieceOf inputs p in
    let Q : PieceParts → Type 0 = λ p. p.entry < length places in
    let of : IsPieceOf inputs piece = subst P (sym stands.1) (are n piece stands.0) in
    let lt : piece.entry < length places = subst Q (sym stands.1) (below n piece stands.0) in
    let here : slice_get places piece.entry ≡ Some (get_or places entry 0) = slice_get-get_or places piece.entry 0 lt ∙ ap (λ (k : ℕ). Some (get_or places k 0)) (sym number) in
    answer_set entries held answers (get_or places entry 0) made
    (λ other found. at piece.entry (get_or places entry 0) other piece.inputs here found of made is_made) was

-- every piece is that of one of the inputs
pub pieces_of : (inputs : List InputBytes) (pieces : List PieceParts) → ((entry : ℕ) (piece : PieceParts) → slice_get pieces entry ≡ Some piece → (piece.entry ≡ entry) × IsPieceOf inputs piece) → All (IsPieceOf inputs) pieces
pieces_of inputs pieces each = λ k d lt. (each k (get_or pieces k d) (slice_get-get_or pieces k d lt)).1

pub pieces_below : (places : List ℕ) (inputs : List InputBytes) (pieces : List PieceParts) → length places ≡ length inputs → All (IsPieceOf inputs) pieces → All (λ piece. piece.entry < length places) pieces
pieces_below places inputs pieces pairs are = λ k d lt.
    let within = slice_get_within inputs (get_or pieces k d).entry (get_or pieces k d).inputs (are k d lt) in omega (arith, within, pairs)

take_front : {X : Type 0} (new rest : List X) → take (length new) (new ++ rest) ≡ new
take_front [] rest = refl
take_front {X} (x ∷ new) rest = ap (λ (xs : List X). x ∷ xs) (take_front new rest)

-- a part that was written in the place of as long a one
pub written_whole : {X : Type 0} (new rest : List X) (n : ℕ) → n ≡ length new → take n (new ++ rest) ≡ new
written_whole {X} new rest n same = ap (λ (k : ℕ). take k (new ++ rest)) same ∙ take_front new rest
