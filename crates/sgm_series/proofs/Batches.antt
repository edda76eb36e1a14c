-- From a batch to the series: n entries had their turns before, and the batch has m.
use Rattle.std.proofs.Common.{◌≡◌, inl, inr, ℕ, zero, suc, ◌+◌, ◌-◌, ◌*◌, ◌<◌, ◌≤◌, arith, List, [], ◌∷◌, ◌++◌, refl, sym, ap, subst, ◌∙◌, Some, take, drop, length, Result, Ok, Err}
use Rattle.std.specs.Prelude.{slice_get, min, All, unwrap_or}
use Rattle.std.proofs.lemmas.List.Elements.{All-append}
use Rattle.std.proofs.lemmas.Option.{slice_get_within}
use Rattle.sgm_io.specs.Held.{Held}
use Rattle.sgm_list.specs.Entries.{EntryNames}
use Rattle.sgm_stages.specs.Deliver.{after_files, FilesPut}
use Rattle.sgm_stages.specs.Ends.{Faults, OutStands, NoneBefore, order_of}
use Rattle.sgm_stages.specs.Stops.{write_outcome}
use Rattle.sgm_stages.specs.Verdict.{Verdict, refused, absent}
use Rattle.sgm_stages.specs.declared.made.MadeTexts.{MadeTexts}
use Rattle.sgm_stages.specs.declared.stops.TextsError.{TextsError}
use Rattle.sgm_stages.specs.declared.stops.TextsError.TheVariants.{Refused, NoMemory}
use Rattle.sgm_words.specs.declared.files.Input.TheVariants.{Left}
use Rattle.sgm_stages.specs.declared.stops.WriteStop.{WriteStop}
use Rattle.sgm_stages.specs.declared.stops.WriteStop.TheVariants as stop
use Rattle.sgm_series.specs.Answers.{AreAnswers, AreAnswered, Answers, verdict_made}
use Rattle.sgm_series.specs.Counted.{EntryShows, SeriesCounts, EntryCounts}
use Rattle.sgm_series.specs.Ends.{EntriesShow, HadTurns, SeriesOut}
use Rattle.sgm_series.specs.Plans.{AreVerdicts, IsJudged}
use Rattle.sgm_series.specs.Stands.{AreApart, batch_outcome, stop_outcome, place_in, SeriesPut, PutStop}
use Rattle.sgm_series.specs.Turned.{BatchShown, BatchCounts, TurnsShown, StopShown, TurnsCounts, FilesTurned, OutTurned}
use Rattle.sgm_series.specs.Turns.{files_for, summaries_for, lines_for, AtEntry, IsReached}
use Rattle.sgm_series.specs.declared.making.BatchStop.{BatchStop}
use Rattle.sgm_series.specs.declared.making.BatchStop.TheVariants as batch
use Rattle.sgm_series.specs.declared.turns.TurnsStop.{TurnsStop}
use Rattle.sgm_series.proofs.Keeping.{verdicts_stay}
use Rattle.sgm_series.proofs.Slices.{cut_get, take_cut, take_take, length_cut}
use Rattle.sgm_series.proofs.Stepping.{put_more, added_more, lines_more}

-- the verdicts of the batch, over what is held now
pub batch_verdicts : (entries : List EntryNames) (vs : List Verdict) (n m : ℕ) (old now : Held) → AreApart entries → AreVerdicts entries old vs →
    now ≡ after_files (files_for (take n vs)) old → AreVerdicts (take m (drop n entries)) now (take m (drop n vs))
batch_verdicts entries vs n m old now apart are put =
    let stay = verdicts_stay apart.0 entries apart.1 old vs are n now put in
    record {
      count = length_cut n m vs ∙ ap (λ (k : ℕ). min m (k - n)) are.count ∙ sym (length_cut n m entries);
      each = λ place entry v at at_v. stay.each (n + place) entry v (cut_get n m entries place entry at) (cut_get n m vs place v at_v);
    }

-- with the answers of the batch
pub batch_answered : (entries : List EntryNames) (held : Held) (answers : List (Result MadeTexts TextsError)) (vs : List Verdict) →
    AreVerdicts entries held vs → AreAnswers entries held answers → AreAnswered entries answers vs
batch_answered entries held answers vs are made = record {
  count = are.count;
  each = λ place entry answer v at at_answer at_v. made.each place entry answer at at_answer v (are.each place entry v at at_v);
}

-- an entry of the batch is one of the series
pub at_entry : (n m place : ℕ) (vs : List Verdict) (P : Verdict → Type 0) → AtEntry place (take m (drop n vs)) P → AtEntry (n + place) vs P
at_entry n m place vs P at = (at.0, cut_get n m vs place at.0 at.1, at.2)

pub is_reached : (n m place : ℕ) (vs : List Verdict) → place ≤ m → All IsJudged (take n vs) → IsReached place (take m (drop n vs)) → IsReached (n + place) vs
is_reached n m place vs le before reached =
    let P : List Verdict → Type 0 = λ l. All IsJudged l in
    subst P (sym (take_cut n m place vs le)) (All-append IsJudged (take n vs) (take place (take m (drop n vs))) before reached)

-- ---- nothing was made

pub unmade_shows : (n m : ℕ) (vs : List Verdict) (at : BatchStop) → place_in at ≤ m → All IsJudged (take n vs) →
    BatchShown (take m (drop n vs)) at → EntriesShow vs (batch_outcome n at)
unmade_shows n m vs (batch.Unread place input) le before shown =
    (is_reached n m place vs le before shown.0, at_entry n m place vs (NoneBefore (order_of input)) shown.1)
unmade_shows n m vs batch.NoMemory le before shown = tt

pub unmade_turns : (n count : ℕ) (at : BatchStop) → (batches : ℕ) × (n ≡ batches * 8) → place_in at < 8 → n ≤ count → HadTurns (batch_outcome n at) count n
unmade_turns n count (batch.Unread place input) whole lt le = (whole.0, whole.1, omega arith, omega arith)
unmade_turns n count batch.NoMemory whole lt le = le

pub unmade_put : (n : ℕ) (vs : List Verdict) (at : BatchStop) (old new : Held) → new ≡ after_files (files_for (take n vs)) old → SeriesPut (batch_outcome n at) n vs old new
unmade_put n vs (batch.Unread place input) old new is = is
unmade_put n vs batch.NoMemory old new is = inl is

pub unmade_out : (n : ℕ) (vs : List Verdict) (at : BatchStop) (old new : List ℕ) → new ≡ old ++ summaries_for (take n vs) → SeriesOut (batch_outcome n at) n vs old new
unmade_out n vs (batch.Unread place input) old new is = is
unmade_out n vs batch.NoMemory old new is = is

-- the place of an entry that the counts show is within the batch
pub unmade_within : (entries : List EntryNames) (at : BatchStop) (before now : Faults) → 0 < length entries → BatchCounts entries at before now → place_in at < length entries
unmade_within entries (batch.Unread place input) before now some counts = slice_get_within entries place counts.0 counts.1
unmade_within entries batch.NoMemory before now some counts = some

pub unmade_counts : (n m : ℕ) (entries : List EntryNames) (list : List ℕ) (at : BatchStop) (before now : Faults) →
    BatchCounts (take m (drop n entries)) at before now → SeriesCounts list (batch_outcome n at) before now × EntryCounts entries (batch_outcome n at) before now
unmade_counts n m entries list (batch.Unread place input) before now c =
    ((c.2.name, record { reads = c.2.reads; writes = c.2.writes; out = c.2.out }), (c.0, cut_get n m entries place c.0 c.1, c.2))
unmade_counts n m entries list batch.NoMemory before now c = (c, tt)

-- ---- a turn stopped

pub stop_shows : (n m : ℕ) (vs : List Verdict) (at : TurnsStop) → at.place ≤ m → All IsJudged (take n vs) →
    TurnsShown {T = Unit {0}} (take m (drop n vs)) (Err at) → EntriesShow vs (stop_outcome (n + at.place) at.stop)
stop_shows n m vs at le before shown =
    by_stop at.stop (is_reached n m at.place vs le before shown.0) (at_entry n m at.place vs (λ v. StopShown v at.stop) shown.1)
  where
    by_stop : (s : WriteStop) → IsReached (n + at.place) vs → AtEntry (n + at.place) vs (λ v. StopShown v s) → EntriesShow vs (stop_outcome (n + at.place) s)
    by_stop (stop.Unwritten output) reached here = (reached, here)
    by_stop stop.NoMemory reached here = tt

pub stop_turns : (entry count : ℕ) (at : WriteStop) → entry ≤ count → HadTurns (stop_outcome entry at) count entry
stop_turns entry count (stop.Unwritten output) le = refl
stop_turns entry count stop.NoMemory le = le

-- the files of the entries before it are put
before_put : (n m k : ℕ) (vs : List Verdict) (old now : Held) → k ≤ m → now ≡ after_files (files_for (take n vs)) old →
    after_files (files_for (take k (take m (drop n vs)))) now ≡ after_files (files_for (take (n + k) vs)) old
before_put n m k vs old now le before =
    ap (λ (x : List Verdict). after_files (files_for x) now) (take_take k m (drop n vs) le)
    ∙ put_more n k vs old now (after_files (files_for (take k (drop n vs))) now) before refl

before_added : (n m k : ℕ) (vs : List Verdict) (old now : List ℕ) → k ≤ m → now ≡ old ++ summaries_for (take n vs) →
    now ++ summaries_for (take k (take m (drop n vs))) ≡ old ++ summaries_for (take (n + k) vs)
before_added n m k vs old now le before =
    ap (λ (x : List Verdict). now ++ summaries_for x) (take_take k m (drop n vs) le)
    ∙ added_more n k vs old now (now ++ summaries_for (take k (drop n vs))) before refl

pub before_lines : (n m k : ℕ) (vs : List Verdict) → k ≤ m → lines_for (take n vs) ++ lines_for (take k (take m (drop n vs))) ≡ lines_for (take (n + k) vs)
before_lines n m k vs le =
    ap (λ (x : List Verdict). lines_for (take n vs) ++ lines_for x) (take_take k m (drop n vs) le) ∙ lines_more n k vs

put_by : (at : WriteStop) (entry : ℕ) (vs : List Verdict) (old new : Held) → PutStop entry vs (write_outcome at) old new → SeriesPut (stop_outcome entry at) entry vs old new
put_by (stop.Unwritten output) entry vs old new put = put
put_by stop.NoMemory entry vs old new put = inr put

pub stop_put : (n m : ℕ) (vs : List Verdict) (at : TurnsStop) (old now new : Held) → at.place ≤ m → now ≡ after_files (files_for (take n vs)) old →
    FilesTurned {T = Unit {0}} (Err at) (take m (drop n vs)) now new → SeriesPut (stop_outcome (n + at.place) at.stop) (n + at.place) vs old new
stop_put n m vs at old now new le before turned =
    let P : Held → Type 0 = λ h. FilesPut (write_outcome at.stop) turned.0 h new in
    put_by at.stop (n + at.place) vs old new
    (turned.0, cut_get n m vs at.place turned.0 turned.1, subst P (before_put n m at.place vs old now le before) turned.2)

out_by : (at : WriteStop) (entry : ℕ) (vs : List Verdict) (old new : List ℕ) → AtEntry entry vs (λ v. OutStands (write_outcome at) v (old ++ summaries_for (take entry vs)) new)
    → SeriesOut (stop_outcome entry at) entry vs old new
out_by (stop.Unwritten output) entry vs old new stands = stands
out_by stop.NoMemory entry vs old new stands = stands.2

pub stop_out : (n m : ℕ) (vs : List Verdict) (at : TurnsStop) (old now new : List ℕ) → at.place ≤ m → now ≡ old ++ summaries_for (take n vs) →
    OutTurned {T = Unit {0}} (Err at) (take m (drop n vs)) now new → SeriesOut (stop_outcome (n + at.place) at.stop) (n + at.place) vs old new
stop_out n m vs at old now new le before turned =
    let P : List ℕ → Type 0 = λ x. OutStands (write_outcome at.stop) turned.0 x new in
    out_by at.stop (n + at.place) vs old new
    (turned.0, cut_get n m vs at.place turned.0 turned.1, subst P (before_added n m at.place vs old now le before) turned.2)

counts_by : (list : List ℕ) (entries : List EntryNames) (entry : ℕ) (at : WriteStop) (before now : Faults) →
    EntryShows entries entry (write_outcome at) before now → SeriesCounts list (stop_outcome entry at) before now × EntryCounts entries (stop_outcome entry at) before now
counts_by list entries entry (stop.Unwritten output) before now (asked, is, inl rose) =
    (inl (rose.name, record { writes = rose.writes; reads = rose.reads; out = rose.out }), (asked, is, inl rose))
counts_by list entries entry (stop.Unwritten output) before now (asked, is, inr out) = (inr out, (asked, is, inr out))
counts_by list entries entry stop.NoMemory before now (asked, is, same) = (same, tt)

pub stop_counts : (n m : ℕ) (list : List ℕ) (entries : List EntryNames) (at : TurnsStop) (before now : Faults) →
    TurnsCounts {T = Unit {0}} (take m (drop n entries)) (Err at) before now →
    SeriesCounts list (stop_outcome (n + at.place) at.stop) before now × EntryCounts entries (stop_outcome (n + at.place) at.stop) before now
stop_counts n m list entries at before now c = counts_by list entries (n + at.place) at.stop before now (c.0, cut_get n m entries at.place c.0 c.1, c.2)

pub stop_within : (entries : List EntryNames) (at : TurnsStop) (before now : Faults) → TurnsCounts {T = Unit {0}} entries (Err at) before now → at.place < length entries
stop_within entries at before now c = slice_get_within entries at.place c.0 c.1

-- ---- some verdicts for any answers

abbrev verdict_for : EntryNames → Result MadeTexts TextsError → Verdict
verdict_for entry (Ok texts) = verdict_made entry.out texts
verdict_for entry (Err (Refused refusal)) = refused refusal
verdict_for entry (Err NoMemory) = absent Left

is_answer : (entry : EntryNames) (made : Result MadeTexts TextsError) → Answers entry.out (verdict_for entry made) made
is_answer entry (Ok texts) = refl
is_answer entry (Err (Refused refusal)) = refl
is_answer entry (Err NoMemory) = tt

abbrev verdicts_for : List EntryNames → List (Result MadeTexts TextsError) → List Verdict
verdicts_for (entry ∷ entries) (made ∷ answers) = verdict_for entry made ∷ verdicts_for entries answers
verdicts_for [] answers = []
verdicts_for (entry ∷ entries) [] = []

some_count : (entries : List EntryNames) (answers : List (Result MadeTexts TextsError)) → length answers ≡ length entries → length (verdicts_for entries answers) ≡ length entries
some_count [] answers same = refl
some_count (entry ∷ entries) [] same = absurd (omega arith)
some_count (entry ∷ entries) (made ∷ answers) same = ap (λ (n : ℕ). suc n) (some_count entries answers (omega arith))

same_inside : {X : Type 0} {a b : X} → Some a ≡ Some b → a ≡ b
same_inside {a = a} is = ap (λ o. unwrap_or o a) is

some_each : (entries : List EntryNames) (answers : List (Result MadeTexts TextsError)) (place : ℕ) (entry : EntryNames) (made : Result MadeTexts TextsError) (v : Verdict)
    → slice_get entries place ≡ Some entry → slice_get answers place ≡ Some made → slice_get (verdicts_for entries answers) place ≡ Some v → Answers entry.out v made
some_each [] answers place entry made v at at_made at_v = absurd (cc)
some_each (e ∷ entries) [] place entry made v at at_made at_v = absurd (cc)
some_each (e ∷ entries) (m ∷ answers) zero entry made v at at_made at_v =
    let P : Verdict → Type 0 = λ x. Answers e.out x m in
    let Q : Result MadeTexts TextsError → Type 0 = λ x. Answers e.out v x in
    let R : EntryNames → Type 0 = λ x. Answers x.out v made in
    subst R (same_inside at) (subst Q (same_inside at_made) (subst P (same_inside at_v) (is_answer e m)))
some_each (e ∷ entries) (m ∷ answers) (suc place) entry made v at at_made at_v = some_each entries answers place entry made v at at_made at_v

pub some_verdicts : (entries : List EntryNames) (answers : List (Result MadeTexts TextsError)) → length answers ≡ length entries → (vs : List Verdict) × AreAnswered entries answers vs
some_verdicts entries answers same = (verdicts_for entries answers, record { count = some_count entries answers same; each = some_each entries answers })
