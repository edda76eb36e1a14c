-- A batch with one entry more.
use Rattle.std.proofs.Common.{◌≡◌, ◌⊎◌, inl, inr, refl, sym, ap, ◌∙◌, subst, arith, ℕ, zero, suc, ◌+◌, ◌<◌, List, [], ◌∷◌, ◌++◌, append-nil, Some, Result, Ok, Err, All, length, take}
use Rattle.std.specs.List.{slice_get}
use Rattle.std.proofs.lemmas.List.{take_more, length_push}
use Rattle.std.proofs.lemmas.List.Elements.{All-push}
use Rattle.std.proofs.lemmas.Option.{slice_get_within, get_or_from_slice_get}
use Rattle.sgm_io.specs.Counts.{Counts}
use Rattle.sgm_io.specs.Held.{Held}
use Rattle.sgm_list.specs.Entries.{EntryNames}
use Rattle.sgm_outcome.specs.declared.outcome.Outcome.TheVariants as run
use Rattle.sgm_outcome.specs.declared.outcome.Refusal.{Refusal}
use Rattle.sgm_stages.specs.Ends.{Faults, faults, CountsShow, NoneBefore, order_of}
use Rattle.sgm_stages.specs.Inputs.{InputBytes}
use Rattle.sgm_stages.specs.Verdict.{Verdict}
use Rattle.sgm_stages.specs.declared.made.MadeTexts.{MadeTexts}
use Rattle.sgm_stages.specs.declared.stops.TextsError.{TextsError}
use Rattle.sgm_series.specs.Plans.{AreVerdicts, EntryCallsFor, IsJudged, names_for}
use Rattle.sgm_series.specs.Answers.{IsAnswerOf}
use Rattle.sgm_series.specs.Batches.{AreInputsOf, AreInputsAt, IsBatch, IsFetched, IsReadable, HasEntry, PlaceShown, PlaceCounts}
use Rattle.sgm_series.specs.Turned.{BatchShown, BatchCounts}
use Rattle.sgm_series.specs.Turns.{IsReached, AtEntry}
use Rattle.sgm_series.specs.declared.making.Batch.{Batch}
use Rattle.sgm_series.specs.declared.making.BatchStop.{BatchStop}
use Rattle.sgm_series.specs.declared.making.BatchStop.TheVariants.{Unread, NoMemory}
use Rattle.sgm_series.proofs.Slices.{get_within}

-- what stands in a list with one element more is that, or stood there before
pub push_get : {X : Type 0} (xs : List X) (x y : X) (k : ℕ) → slice_get (xs ++ x ∷ []) k ≡ Some y → (slice_get xs k ≡ Some y) ⊎ ((k ≡ length xs) × (x ≡ y))
push_get [] x y zero e = inr (refl, cc)
push_get [] x y (suc k) e = absurd (cc)
push_get (z ∷ xs) x y zero e = inl e
push_get (z ∷ xs) x y (suc k) e = elim (push_get xs x y k e) [ inl found ↦ inl found | inr last ↦ inr (ap suc last.0, last.1) ]

-- the answers that there are, are those of their entries
abbrev pub AnswerThese : List EntryNames → Held → List (Result MadeTexts TextsError) → Type 0
AnswerThese entries held answers = (place : ℕ) (entry : EntryNames) (made : Result MadeTexts TextsError)
    → slice_get entries place ≡ Some entry → slice_get answers place ≡ Some made → IsAnswerOf entry held made

all_below : (n : ℕ) (places : List ℕ) → All (λ place. place < n) places → All (λ place. place < n + 1) places
all_below n places below = λ k d lt. let h = below k d lt in omega (arith, h)

pub batch_more : (n : ℕ) (fetched : Result InputBytes Refusal) (old new : Batch) → IsBatch n old → HasEntry fetched old new → IsBatch (n + 1) new
batch_more n (Ok inputs) old new is has =
    let P : List ℕ → Type 0 = λ places. All (λ place. place < n + 1) places in
    record {
      count = ap (λ (xs : List (Result MadeTexts TextsError)). length xs) has.answers ∙ length_push old.answers.items _ ∙ ap (λ (k : ℕ). k + 1) is.count;
      pairs = ap (λ (xs : List ℕ). length xs) has.places ∙ length_push old.places.items _ ∙ ap (λ (k : ℕ). k + 1) is.pairs ∙ sym (length_push old.inputs.items inputs) ∙ sym (ap (λ (xs : List InputBytes). length xs) has.inputs);
      few = let h : length new.inputs.items ≡ length old.inputs.items + 1 = ap (λ (xs : List InputBytes). length xs) has.inputs ∙ length_push old.inputs.items inputs in omega (arith, h, is.few);
      places = subst P (sym has.places) (All-push (λ place. place < n + 1) old.places.items (length old.answers.items) (all_below n old.places.items is.places) (omega (arith, is.count)));
    }
batch_more n (Err refusal) old new is has =
    let P : List ℕ → Type 0 = λ places. All (λ place. place < n + 1) places in
    let same : new.places.items ≡ old.places.items = has.places ∙ append-nil old.places.items in
    let none : new.inputs.items ≡ old.inputs.items = has.inputs ∙ append-nil old.inputs.items in
    let h : length new.inputs.items ≡ length old.inputs.items = ap (λ (xs : List InputBytes). length xs) none in
    record {
      count = ap (λ (xs : List (Result MadeTexts TextsError)). length xs) has.answers ∙ length_push old.answers.items _ ∙ ap (λ (k : ℕ). k + 1) is.count;
      pairs = ap (λ (xs : List ℕ). length xs) same ∙ is.pairs ∙ sym h;
      few = omega (arith, h, is.few);
      places = subst P (sym same) (all_below n old.places.items is.places);
    }

push_answer : (entries : List EntryNames) (held : Held) (answers : List (Result MadeTexts TextsError)) (entry : EntryNames) (made : Result MadeTexts TextsError) →
    slice_get entries (length answers) ≡ Some entry → IsAnswerOf entry held made → AnswerThese entries held answers → AnswerThese entries held (answers ++ made ∷ [])
push_answer entries held answers entry made at is these = λ place other answer found stands.
    elim (push_get answers made answer place stands) [
      | inl before ↦ these place other answer found before
      | inr last ↦
          let here : slice_get entries (length answers) ≡ Some other = sym (ap (λ (k : ℕ). slice_get entries k) last.0) ∙ found in
          let same : entry ≡ other = cc in
          let P : EntryNames → Type 0 = λ e. IsAnswerOf e held made in
          let Q : Result MadeTexts TextsError → Type 0 = λ m. IsAnswerOf other held m in
          subst Q last.1 (subst P same is)
    ]

push_input : (entries : List EntryNames) (held : Held) (places : List ℕ) (inputs : List InputBytes) (n : ℕ) (entry : EntryNames) (input : InputBytes) →
    length places ≡ length inputs → slice_get entries n ≡ Some entry → AreInputsOf entry held input → AreInputsAt entries held places inputs → AreInputsAt entries held (places ++ n ∷ []) (inputs ++ input ∷ [])
push_input entries held places inputs n entry input pairs at is these = λ number place other bytes on_place found on_input.
    elim (push_get inputs input bytes number on_input) [
      | inl input_before ↦ elim (push_get places n place number on_place) [
        | inl place_before ↦ these number place other bytes place_before found input_before
        | inr place_last ↦ let lt = slice_get_within inputs number bytes input_before in absurd (omega (arith, lt, place_last.0, pairs))
      ]
      | inr input_last ↦ elim (push_get places n place number on_place) [
        | inl place_before ↦ let lt = slice_get_within places number place place_before in absurd (omega (arith, lt, input_last.0, pairs))
        | inr place_last ↦
            let here : slice_get entries n ≡ Some other = ap (λ (k : ℕ). slice_get entries k) place_last.1 ∙ found in
            let same : entry ≡ other = cc in
            let P : EntryNames → Type 0 = λ e. AreInputsOf e held input in
            let Q : InputBytes → Type 0 = λ b. AreInputsOf other held b in
            subst Q input_last.1 (subst P same is)
      ]
    ]

pub answers_more : (entries : List EntryNames) (held : Held) (n : ℕ) (entry : EntryNames) (fetched : Result InputBytes Refusal) (old new : Batch) →
    slice_get entries n ≡ Some entry → IsBatch n old → HasEntry fetched old new → IsFetched entry held fetched → AnswerThese entries held old.answers.items → AnswerThese entries held new.answers.items
answers_more entries held n entry (Ok inputs) old new at is has fetched these =
    let P : List (Result MadeTexts TextsError) → Type 0 = λ answers. AnswerThese entries held answers in
    subst P (sym has.answers) (push_answer entries held old.answers.items entry _ (ap (λ (k : ℕ). slice_get entries k) is.count ∙ at) (λ v calls. tt) these)
answers_more entries held n entry (Err refusal) old new at is has fetched these =
    let P : List (Result MadeTexts TextsError) → Type 0 = λ answers. AnswerThese entries held answers in
    subst P (sym has.answers) (push_answer entries held old.answers.items entry _ (ap (λ (k : ℕ). slice_get entries k) is.count ∙ at) fetched these)

pub inputs_more : (entries : List EntryNames) (held : Held) (n : ℕ) (entry : EntryNames) (fetched : Result InputBytes Refusal) (old new : Batch) →
    slice_get entries n ≡ Some entry → IsBatch n old → HasEntry fetched old new → IsFetched entry held fetched → AreInputsAt entries held old.places.items old.inputs.items → AreInputsAt entries held new.places.items new.inputs.items
inputs_more entries held n entry (Ok inputs) old new at is has fetched these =
    let P : List ℕ → Type 0 = λ places. AreInputsAt entries held places new.inputs.items in
    let Q : List InputBytes → Type 0 = λ xs. AreInputsAt entries held (old.places.items ++ length old.answers.items ∷ []) xs in
    subst P (sym has.places) (subst Q (sym has.inputs) (push_input entries held old.places.items old.inputs.items (length old.answers.items) entry inputs is.pairs (ap (λ (k : ℕ). slice_get entries k) is.count ∙ at) fetched these))
inputs_more entries held n entry (Err refusal) old new at is has fetched these =
    let P : List ℕ → Type 0 = λ places. AreInputsAt entries held places new.inputs.items in
    let Q : List InputBytes → Type 0 = λ xs. AreInputsAt entries held old.places.items xs in
    subst P (sym (has.places ∙ append-nil old.places.items)) (subst Q (sym (has.inputs ∙ append-nil old.inputs.items)) these)

-- ---- the verdicts

-- the verdict of an entry among the verdicts of all
pub verdict_at : (entries : List EntryNames) (held : Held) (verdicts : List Verdict) (n : ℕ) (entry : EntryNames) → AreVerdicts entries held verdicts → slice_get entries n ≡ Some entry →
    (v : Verdict) × ((slice_get verdicts n ≡ Some v) × EntryCallsFor entry held v)
verdict_at entries held verdicts n entry are at =
    let lt = slice_get_within entries n entry at in
    let found = get_within verdicts n (omega (arith, lt, are.count)) in
    (found.0, (found.1, are.each n entry found.0 at found.1))

pub judged_more : (entries : List EntryNames) (held : Held) (verdicts : List Verdict) (n : ℕ) (entry : EntryNames) → AreVerdicts entries held verdicts → slice_get entries n ≡ Some entry → IsReadable entry held →
    All IsJudged (take n verdicts) → All IsJudged (take (n + 1) verdicts)
judged_more entries held verdicts n entry are at readable before =
    let v = verdict_at entries held verdicts n entry are at in
    let more : take (n + 1) verdicts ≡ take n verdicts ++ v.0 ∷ [] =
    take_more verdicts n v.0 (slice_get_within verdicts n v.0 v.1.0) ∙ ap (λ (x : Verdict). take n verdicts ++ x ∷ []) (get_or_from_slice_get verdicts n v.0 v.0 v.1.0) in
    let P : List Verdict → Type 0 = λ vs. All IsJudged vs in
    subst P (sym more) (All-push IsJudged (take n verdicts) v.0 before (readable v.0 v.1.1))

-- a stop at an entry is shown by the verdicts of all
pub batch_shown : (entries : List EntryNames) (held now : Held) (verdicts : List Verdict) (n : ℕ) (entry : EntryNames) (stop : BatchStop) → now ≡ held → AreVerdicts entries held verdicts → slice_get entries n ≡ Some entry →
    All IsJudged (take n verdicts) → ((v : Verdict) → EntryCallsFor entry now v → PlaceShown n v stop) → BatchShown verdicts stop
batch_shown entries held now verdicts n entry (Unread place input) same are at judged shown =
    let found = verdict_at entries held verdicts n entry are at in
    let P : Held → Type 0 = λ h. EntryCallsFor entry h found.0 in
    let here = shown found.0 (subst P (sym same) found.1.1) in
    let Q : ℕ → Type 0 = λ k. IsReached k verdicts × AtEntry k verdicts (NoneBefore (order_of input)) in
    subst Q (sym here.0) (judged, (found.0, found.1.0, here.1))
batch_shown entries held now verdicts n entry NoMemory same are at judged shown = tt

-- and by the counts
pub batch_counts : (entries : List EntryNames) (n : ℕ) (entry : EntryNames) (stop : BatchStop) (reads writes reads' writes' : Counts) (out : ℕ) (now : Faults) → slice_get entries n ≡ Some entry → reads' ≡ reads → writes' ≡ writes →
    PlaceCounts n entry stop (faults reads' writes' out) now → BatchCounts entries stop (faults reads writes out) now
batch_counts entries n entry (Unread place input) reads writes reads' writes' out now at r w counts =
    let P : Counts → Type 0 = λ x. CountsShow (names_for entry) (run.ReadFault input) (faults x writes' out) now in
    let Q : Counts → Type 0 = λ x. CountsShow (names_for entry) (run.ReadFault input) (faults reads x out) now in
    (entry, ap (λ (k : ℕ). slice_get entries k) counts.0 ∙ at, subst Q w (subst P r counts.1))
batch_counts entries n entry NoMemory reads writes reads' writes' out now at r w counts = record { reads = counts.reads ∙ r; writes = counts.writes ∙ w; out = counts.out }

-- what was fetched over what was held at the beginning
pub fetched_since : (entry : EntryNames) (held now : Held) (fetched : Result InputBytes Refusal) → now ≡ held → IsFetched entry now fetched → IsFetched entry held fetched
fetched_since entry held now fetched same is = let P : Held → Type 0 = λ h. IsFetched entry h fetched in subst P same is

pub readable_since : (entry : EntryNames) (held now : Held) → now ≡ held → IsReadable entry now → IsReadable entry held
readable_since entry held now same is = let P : Held → Type 0 = λ h. IsReadable entry h in subst P same is
