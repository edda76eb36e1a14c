-- One turn more.
use Rattle.std.proofs.Common.{◌≡◌, ◌⊎◌, inl, inr, ℕ, ◌+◌, ◌<◌, arith, zero-add, add-zero, add_assoc, List, [], ◌∷◌, ◌++◌, append-nil, length, take, get_or, refl, sym, ap, ◌∙◌, subst, Bool, true, false, cond, Option, None, Some, Result, All, Contains, count_by, flat_map}
use Rattle.std.specs.List.{slice_get, enumerate_from}
use Rattle.std.proofs.lemmas.List.{take_more, flat_map_more}
use Rattle.std.proofs.lemmas.List.Elements.{All-push, Contains-append_right, Contains-append_cases}
use Rattle.std.proofs.lemmas.List.FromFn.{length-enumerate_from, get_or-enumerate_from}
use Rattle.std.proofs.lemmas.List.Sums.{count_by_more_yes, count_by_more_no}
use Rattle.std.proofs.lemmas.Option.{get_or_from_slice_get, slice_get-get_or, slice_get_read}
use Rattle.sgm_io.specs.Held.{Held}
use Rattle.sgm_io.specs.Unfinished.{NameSet}
use Rattle.sgm_words.specs.declared.files.Output.{Output}
use Rattle.sgm_words.specs.declared.files.Output.TheVariants.{Summary}
use Rattle.sgm_list.specs.Entries.{EntryNames}
use Rattle.sgm_stages.specs.Deliver.{after_files, EndsIn}
use Rattle.sgm_stages.specs.Outputs.{OutputFile}
use Rattle.sgm_stages.specs.Stops.{write_outcome}
use Rattle.sgm_stages.specs.Unfinished.{AreFinished, UnfinishedStands}
use Rattle.sgm_stages.specs.Verdict.{Verdict, files, outputs_of, summary_of}
use Rattle.sgm_stages.specs.declared.made.MadeTexts.{MadeTexts}
use Rattle.sgm_stages.specs.declared.stops.TextsError.{TextsError}
use Rattle.sgm_stages.specs.declared.stops.WriteStop.{WriteStop}
use Rattle.sgm_stages.specs.declared.stops.WriteStop.TheVariants as stop
use Rattle.sgm_stages.proofs.Filing.{after-append}
use Rattle.sgm_series.specs.Plans.{names_for, is_refused}
use Rattle.sgm_series.specs.Turns.{files_for, summaries_for, lines_for, line_for, HasOutput}
use Rattle.sgm_series.specs.Answers.{Answers, AreAnswered}
use Rattle.sgm_series.specs.Received.{ReceivesMore}
use Rattle.sgm_series.specs.Turned.{IsLeftAt}
use Rattle.sgm_series.specs.Unfinished.{NoMoreUnfinished}
use Rattle.sgm_series.proofs.Receiving.{receives_both}

-- ---- whose turn it is

-- what comes at a turn is the answer of its place
pub item_at : {A : Type 0} (answers : List A) (n place : ℕ) (answer : A) → (n < length (enumerate_from 0 answers)) × ((place, answer) ≡ get_or (enumerate_from 0 answers) n (place, answer)) →
    (n < length answers) × (place ≡ n) × (answer ≡ get_or answers n answer)
item_at {A} answers n place answer h =
    let lt : n < length answers = omega (arith, h.0, length-enumerate_from 0 answers) in
    let e : (place, answer) ≡ (0 + n, get_or answers n answer) = h.1 ∙ get_or-enumerate_from 0 answers n (place, answer) lt in
    (lt, ap (λ (p : ℕ × A). p.0) e ∙ zero-add n, ap (λ (p : ℕ × A). p.1) e)

-- the verdict at a place, where these are the entry's OUT and its answer
pub record Turn (verdicts : List Verdict) (n : ℕ) (out : List ℕ) (answer : Result MadeTexts TextsError) : Type 0 where
  pub v : Verdict
  pub lt : n < length verdicts
  pub here : get_or verdicts n v ≡ v
  pub at : slice_get verdicts n ≡ Some v
  pub answers : Answers out v answer
  pub more : take (n + 1) verdicts ≡ take n verdicts ++ v ∷ []

nth : (verdicts : List Verdict) (n : ℕ) → n < length verdicts → (v : Verdict) × (slice_get verdicts n ≡ Some v) × (get_or verdicts n v ≡ v)
nth [] n lt = absurd (omega arith)
nth (x ∷ verdicts) n lt = (get_or (x ∷ verdicts) n x, slice_get-get_or (x ∷ verdicts) n x lt, get_or_from_slice_get (x ∷ verdicts) n (get_or (x ∷ verdicts) n x) (get_or (x ∷ verdicts) n x) (slice_get-get_or (x ∷ verdicts) n x lt))

pub turn_at : (entries : List EntryNames) (answers : List (Result MadeTexts TextsError)) (verdicts : List Verdict) (n : ℕ) (entry : EntryNames) (answer : Result MadeTexts TextsError) →
    AreAnswered entries answers verdicts → length answers ≡ length entries → n < length answers → entry ≡ get_or entries n entry → answer ≡ get_or answers n answer → Turn verdicts n entry.out answer
turn_at entries answers verdicts n entry answer are count lt is_entry is_answer =
    let same : length verdicts ≡ length entries = are.count in
    let within : n < length verdicts = omega (arith, same, count, lt) in
    let found = nth verdicts n within in
    record {
      v = found.0;
      lt = within;
      here = found.2;
      at = found.1;
      answers = are.each n entry answer found.0
          (slice_get_read entries (length entries) n entry refl (omega (arith, count, lt)) is_entry)
          (slice_get_read answers (length answers) n answer refl lt is_answer)
          found.1;
      more = take_more verdicts n found.0 within ∙ ap (λ (x : Verdict). take n verdicts ++ x ∷ []) found.2;
    }

-- ---- what was written, and the lines

flat_push : {A : Type 0} (f : Verdict → List A) (verdicts : List Verdict) (n : ℕ) (v : Verdict) → take (n + 1) verdicts ≡ take n verdicts ++ v ∷ [] → flat_map f (take (n + 1) verdicts) ≡ flat_map f (take n verdicts) ++ f v
flat_push {A} f verdicts n v more = ap (λ (vs : List Verdict). flat_map f vs) more ∙ sym (flat_map_more f [] (take n verdicts) v)

pub all_more : (P : Verdict → Type 0) (verdicts : List Verdict) (n : ℕ) (v : Verdict) → take (n + 1) verdicts ≡ take n verdicts ++ v ∷ [] → All P (take n verdicts) → P v → All P (take (n + 1) verdicts)
all_more P verdicts n v more before here = let Q : List Verdict → Type 0 = λ vs. All P vs in subst Q (sym more) (All-push P (take n verdicts) v before here)

pub files_more : (verdicts : List Verdict) (n : ℕ) (v : Verdict) (old now new : Held) → take (n + 1) verdicts ≡ take n verdicts ++ v ∷ [] →
    now ≡ after_files (files_for (take n verdicts)) old → new ≡ after_files (outputs_of v) now → new ≡ after_files (files_for (take (n + 1) verdicts)) old
files_more verdicts n v old now new more before step =
    step
    ∙ ap (λ (h : Held). after_files (outputs_of v) h) before
    ∙ sym (after-append (files_for (take n verdicts)) (outputs_of v) old)
    ∙ sym (ap (λ (fs : List OutputFile). after_files fs old) (flat_push outputs_of verdicts n v more))

pub summaries_more : (verdicts : List Verdict) (n : ℕ) (v : Verdict) (old now new : List ℕ) → take (n + 1) verdicts ≡ take n verdicts ++ v ∷ [] →
    now ≡ old ++ summaries_for (take n verdicts) → new ≡ now ++ summary_of v → new ≡ old ++ summaries_for (take (n + 1) verdicts)
summaries_more verdicts n v old now new more before step =
    step
    ∙ ap (λ (x : List ℕ). x ++ summary_of v) before
    ∙ flat_map_more summary_of old (take n verdicts) v
    ∙ sym (ap (λ (vs : List Verdict). old ++ summaries_for vs) more)

pub lines_more : (verdicts : List Verdict) (n : ℕ) (v : Verdict) (a b c : Bool) (old mid new : List ℕ) → take (n + 1) verdicts ≡ take n verdicts ++ v ∷ [] →
    ReceivesMore a b (lines_for (take n verdicts)) old mid → ReceivesMore b c (line_for v) mid new → ReceivesMore a c (lines_for (take (n + 1) verdicts)) old new
lines_more verdicts n v a b c old mid new more one two =
    let P : List ℕ → Type 0 = λ lines. ReceivesMore a c lines old new in
    subst P (sym (flat_push line_for verdicts n v more)) (receives_both a b c (lines_for (take n verdicts)) (line_for v) old mid new one two)

-- a stop has no line
pub lines_stop : (verdicts : List Verdict) (n : ℕ) (a b c : Bool) (old mid new : List ℕ) →
    ReceivesMore a b (lines_for (take n verdicts)) old mid → ReceivesMore b c [] mid new → ReceivesMore a c (lines_for (take n verdicts)) old new
lines_stop verdicts n a b c old mid new one two =
    let P : List ℕ → Type 0 = λ lines. ReceivesMore a c lines old new in
    subst P (append-nil (lines_for (take n verdicts))) (receives_both a b c (lines_for (take n verdicts)) [] old mid new one two)

-- ---- the counts

count_more : (verdicts : List Verdict) (n : ℕ) (v : Verdict) → n < length verdicts → get_or verdicts n v ≡ v → count_by is_refused (take (n + 1) verdicts) ≡ count_by is_refused (take n verdicts) + cond (is_refused v) 1 0
count_more verdicts n v lt here =
    elim (is_refused v) as (λ b. is_refused v ≡ b → count_by is_refused (take (n + 1) verdicts) ≡ count_by is_refused (take n verdicts) + cond b 1 0) [
      | true ↦ λ e. count_by_more_yes is_refused verdicts n v lt (ap (λ (x : Verdict). is_refused x) here ∙ e)
      | false ↦ λ e. count_by_more_no is_refused verdicts n v lt (ap (λ (x : Verdict). is_refused x) here ∙ e) ∙ sym (add-zero (count_by is_refused (take n verdicts)))
    ] refl

pub refused_more : (verdicts : List Verdict) (n : ℕ) (v : Verdict) (old now new : ℕ) → n < length verdicts → get_or verdicts n v ≡ v →
    now ≡ old + count_by is_refused (take n verdicts) → new ≡ now + cond (is_refused v) 1 0 → new ≡ old + count_by is_refused (take (n + 1) verdicts)
refused_more verdicts n v old now new lt here before step =
    step
    ∙ ap (λ (x : ℕ). x + cond (is_refused v) 1 0) before
    ∙ add_assoc old (count_by is_refused (take n verdicts)) (cond (is_refused v) 1 0)
    ∙ ap (λ (x : ℕ). old + x) (sym (count_more verdicts n v lt here))

-- ---- names that are being written, or left unfinished

pub writing_both : (old mid new : Option (List ℕ)) → (mid ≡ old) ⊎ (mid ≡ None) → (new ≡ mid) ⊎ (new ≡ None) → (new ≡ old) ⊎ (new ≡ None)
writing_both old mid new (inl one) (inl two) = inl (two ∙ one)
writing_both old mid new (inr one) (inl two) = inr (two ∙ one)
writing_both old mid new one (inr two) = inr two

pub no_more_both : (old mid new : NameSet) → NoMoreUnfinished (λ name. ⊥) old mid → NoMoreUnfinished (λ name. ⊥) mid new → NoMoreUnfinished (λ name. ⊥) old new
no_more_both old mid new one two = λ name on. elim (two name on) [ inl was ↦ one name was | inr none ↦ absurd none ]

pub stays_finished : (mid new : NameSet) (name : List ℕ) → NoMoreUnfinished (λ name. ⊥) mid new → mid name ≡ false → new name ≡ false
stays_finished mid new name none off = elim (new name) as (λ b. new name ≡ b → b ≡ false) [
  | true ↦ λ on. elim (none name on) [ inl was ↦ absurd (cc) | inr never ↦ absurd never ]
  | false ↦ λ is. refl
] refl

pub finished_more : (verdicts : List Verdict) (n : ℕ) (v : Verdict) (mid new : NameSet) → take (n + 1) verdicts ≡ take n verdicts ++ v ∷ [] →
    AreFinished (files_for (take n verdicts)) mid → NoMoreUnfinished (λ name. ⊥) mid new → AreFinished (outputs_of v) new → AreFinished (files_for (take (n + 1) verdicts)) new
finished_more verdicts n v mid new more before none here = λ file among.
    let P : List OutputFile → Type 0 = λ fs. Contains fs file in
    elim (Contains-append_cases (files_for (take n verdicts)) (outputs_of v) file (subst P (flat_push outputs_of verdicts n v more) among)) [
      | inl earlier ↦ stays_finished mid new file.name none (before file earlier)
      | inr own ↦ here file own
    ]

-- a name that is left after names were left before, of which this holds
pub left_since : (IsLeft : List ℕ → Type 0) (old mid new : NameSet) → NoMoreUnfinished (λ name. ⊥) old mid → NoMoreUnfinished IsLeft mid new → NoMoreUnfinished IsLeft old new
left_since IsLeft old mid new none leaves = λ name on. elim (leaves name on) [
  | inl was ↦ elim (none name was) [ inl first ↦ inl first | inr never ↦ absurd never ]
  | inr is ↦ inr is
]

pub unfinished_stop : (entries : List EntryNames) (place : ℕ) (entry : EntryNames) (end : WriteStop) (old mid new : NameSet) → slice_get entries place ≡ Some entry
    → NoMoreUnfinished (λ name. ⊥) old mid → UnfinishedStands (names_for entry) (write_outcome end) mid new → NoMoreUnfinished (IsLeftAt entries place end) old new
unfinished_stop entries place entry (stop.Unwritten output) old mid new at none leaves =
    left_since (IsLeftAt entries place (stop.Unwritten output)) old mid new none (λ name on. elim (leaves.no_more name on) [
      | inl was ↦ inl was
      | inr is ↦ inr (entry, at, is)
    ])
unfinished_stop entries place entry stop.NoMemory old mid new at none leaves =
    left_since (IsLeftAt entries place stop.NoMemory) old mid new none (λ name on. elim (leaves.no_more name on) [
      | inl was ↦ inl was
      | inr is ↦ inr (is.0, (entry, at, is.1))
    ])

-- ---- one entry's writing

-- the output of a stop is that of one of the files, or the summary
pub has_output : (wanted named : List OutputFile) (text : List ℕ) (output : Output) (old new : Held) → wanted ≡ named → EndsIn output wanted old new ⊎ ((output ≡ Summary) × (new ≡ after_files wanted old)) → HasOutput output (files named text)
has_output wanted named text output old new same (inl ends) =
    let P : List OutputFile → Type 0 = λ fs. Contains fs ends.file in
    record { files = tt; has = inr (ends.file, subst P (sym ends.split ∙ same) (Contains-append_right ends.before (ends.file ∷ ends.later) ends.file (0, omega arith, refl)), ends.is_output) }
has_output wanted named text output old new same (inr (is, put)) = record { files = tt; has = inl is }
