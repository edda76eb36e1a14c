use Rattle.std.proofs.Common.{◌≡◌, ◌∙◌, sym, subst, ap, ℕ, List, Result, drop, length}
use Rattle.sgm_stages.specs.Inputs.{InputBytes}
use Rattle.sgm_stages.specs.declared.made.MadeTexts.{MadeTexts}
use Rattle.sgm_stages.specs.declared.stops.TextsError.{TextsError}
use Rattle.sgm_series.specs.Answers.{AreAnswers}
use Rattle.sgm_series.specs.Batches.{AreInputsAt}
use Rattle.sgm_series.proofs.Placing.{pieces_of, pieces_below, written_whole}
use Rattle.sgm_series.proofs.making.make_pieces.Goals as goal

pub place_pieces-requires-clause-pieces : goal.place_pieces-requires-clause-pieces
place_pieces-requires-clause-pieces g c =
    let pairs : length c.deref-2.result.now ≡ length c.deref.result.now =
    ap (λ (xs : List ℕ). length xs) c.deref-2.ensures.value ∙ c.requires.pairs ∙ sym (ap (λ (xs : List InputBytes). length xs) c.deref.ensures.value) in
    pieces_below c.deref-2.result.now c.deref.result.now c.in_ok-pieces.pieces.items pairs (pieces_of c.deref.result.now c.in_ok-pieces.pieces.items c.in_ok-pieces.ensures.each)

pub returns-clause-answers : goal.returns-clause-answers
returns-clause-answers g c = λ entries held at are.
    let P : List ℕ → Type 0 = λ places. AreInputsAt entries held places c.args.batch.inputs.items in
    let Q : List InputBytes → Type 0 = λ inputs. AreInputsAt entries held c.deref-2.result.now inputs in
    let R : List (Result MadeTexts TextsError) → Type 0 = λ answers. AreAnswers entries held answers in
    let whole = written_whole c.place_pieces.new.answers (drop (length c.place_pieces.new.answers) c.args.batch.answers.items) c.args.batch.answers.len (c.args.batch.answers.ok.0 ∙ sym (c.place_pieces.ensures.count ∙ ap (λ (xs : List (Result MadeTexts TextsError)). length xs) c.deref_mut.ensures.value)) in
    subst R (sym whole)
    (c.place_pieces.ensures.answers entries held c.deref.result.now
    (subst Q (sym c.deref.ensures.value) (subst P (sym c.deref-2.ensures.value) at))
    (pieces_of c.deref.result.now c.in_ok-pieces.pieces.items c.in_ok-pieces.ensures.each)
    (subst R (sym c.deref_mut.ensures.value) are))
