-- From the words, the list and the ends of its entries to the end of a series.
use Rattle.std.proofs.Common.{◌≡◌, inl, inr, refl, sym, subst, ◌∙◌, ℕ, zero, suc, ◌+◌, ◌<◌, arith, List, [], ◌∷◌, length, get_or, true, Option, None, Some, Result, Ok, Err, IsTrue}
use Rattle.std.specs.Prelude.{All, cond, count_by}
use Rattle.std.proofs.lemmas.List.Sums.{sum_by-append}
use Rattle.sgm_io.specs.Held.{Held}
use Rattle.sgm_io.specs.declared.shelf.Shelf as shelf
use Rattle.sgm_io.specs.declared.sink.Sink as sink
use Rattle.sgm_list.specs.Entries.{EntryNames, entries_of}
use Rattle.sgm_list.specs.Faults.{list_fault}
use Rattle.sgm_list.specs.declared.fault.ListFault.{ListFault}
use Rattle.sgm_stages.specs.Ends.{Faults, SameFaults, faults_at, shelf_faults}
use Rattle.sgm_stages.specs.Verdict.{Verdict, IsFiles}
use Rattle.sgm_stages.specs.Verdict as verdict
use Rattle.sgm_series.specs.Counted.{EntryCounts, SeriesCounts}
use Rattle.sgm_series.specs.Ends.{EntriesShow, IsUnread, SeriesShownBy}
use Rattle.sgm_series.specs.Moments.{SeriesMoment, series_at}
use Rattle.sgm_series.specs.Plans.{AreVerdicts, EntriesCallFor, IsJudged, ListCallsFor, Plan, ReadCallsFor, SeriesCallsFor}
use Rattle.sgm_series.specs.Plans.{entries_in, faulty, is_refused, series, usage, verdicts_of}
use Rattle.sgm_series.specs.SeriesEnds.{AllEnd, PlanEnds, SeriesEnds, TurnsHad}
use Rattle.sgm_series.specs.Stands.{IsEntryOutcome, IsListEnd, IsListOutcome, IsListed, outcome_for}
use Rattle.sgm_series.specs.Words.{ListWords, list_of, series_words}
use Rattle.sgm_series.specs.declared.outcome.SeriesOutcome.{SeriesOutcome}
use Rattle.sgm_series.specs.declared.outcome.SeriesOutcome.TheVariants.{Done, Usage, RefusedList, SomeRefused, ListUnread, ReadFault, WriteFault, NoMemory}
use Rattle.sgm_series.specs.declared.turns.Tally.{Tally}
use Rattle.sgm_series.specs.declared.words.SeriesUsage.{SeriesUsage}
use Rattle.sgm_series.proofs.Carrying.{all_counts, counts_along, entries_call, list_along, list_calls, list_stands, none_received, put_along, verdicts_along, whole_at_first}
use Rattle.sgm_series.proofs.Leaving.{all_finished, all_unfinished, all_untouched, list_finished, list_unfinished, list_untouched, no_more_back, unfinished_along}

-- ---- an outcome that is no fault of the words

list_no_usage : (outcome : SeriesOutcome) (fault : SeriesUsage) → IsListOutcome outcome → outcome ≡ Usage fault → ⊥
list_no_usage outcome fault kind is = let P : SeriesOutcome → Type 0 = λ x. IsListOutcome x in subst P is kind

entry_no_usage : (outcome : SeriesOutcome) (fault : SeriesUsage) → IsEntryOutcome outcome → outcome ≡ Usage fault → ⊥
entry_no_usage outcome fault kind is = let P : SeriesOutcome → Type 0 = λ x. IsEntryOutcome x in subst P is kind

all_no_usage : (refused : ℕ) (fault : SeriesUsage) → outcome_for refused ≡ Usage fault → ⊥
all_no_usage zero fault is = absurd (cc)
all_no_usage (suc more) fault is = absurd (cc)

no_fault : (words : List (List ℕ)) (w : ListWords) (fault : SeriesUsage) → series_words words ≡ Ok w → series_words words ≡ Err fault → ⊥
no_fault words w fault read is = absurd (cc)

-- ---- the list was fetched, or wasn't, without entries

-- where the list is unread, or there was no memory, whatever its entries call for
unread_shown : (list : List ℕ) (bytes : Option (List ℕ)) (held : Held) (p : Plan) (outcome : SeriesOutcome) → IsUnread outcome → ((vs : List Verdict) → EntriesShow vs outcome) → ListCallsFor list bytes held p → SeriesShownBy p outcome
unread_shown list None held p outcome unread show calls = let P : Plan → Type 0 = λ q. SeriesShownBy q outcome in subst P (sym calls) unread
unread_shown list (Some bytes) held p outcome unread show calls = by_fault (list_fault list bytes) (entries_of bytes) calls
  where
    by_fault : (fault : Option ListFault) (entries : List EntryNames) → EntriesCallFor fault entries held p → SeriesShownBy p outcome
    by_fault (Some fault) entries is = let P : Plan → Type 0 = λ q. SeriesShownBy q outcome in subst P (sym is) (inr unread)
    by_fault None entries (vs, are, is) = let P : Plan → Type 0 = λ q. SeriesShownBy q outcome in subst P (sym is) (show vs)

list_shown : (list : List ℕ) (held : Held) (p : Plan) (outcome : SeriesOutcome) → ListCallsFor list (held list) held p → IsListEnd (held list) list outcome → SeriesShownBy p outcome
list_shown list held p (RefusedList fault) calls (bytes, is, of) =
    let P : Option (List ℕ) → Type 0 = λ h. ListCallsFor list h held p in
    let Q : Option ListFault → Type 0 = λ f. EntriesCallFor f (entries_of bytes) held p in
    let R : Plan → Type 0 = λ q. SeriesShownBy q (RefusedList fault) in
    let plan : p ≡ faulty fault = subst Q of (subst P is calls) in
    subst R (sym plan) (inl refl)
list_shown list held p ListUnread calls end = unread_shown list (held list) held p ListUnread (inl refl) (λ vs. tt) calls
list_shown list held p NoMemory calls end = unread_shown list (held list) held p NoMemory (inr refl) (λ vs. tt) calls
list_shown list held p Done calls end = absurd end
list_shown list held p (Usage fault) calls end = absurd end
list_shown list held p (SomeRefused refused) calls end = absurd end
list_shown list held p (ReadFault entry input) calls end = absurd end
list_shown list held p (WriteFault entry output) calls end = absurd end

list_entry_counts : (entries : List EntryNames) (outcome : SeriesOutcome) (before now : Faults) → IsListOutcome outcome → EntryCounts entries outcome before now
list_entry_counts entries (RefusedList fault) before now kind = tt
list_entry_counts entries ListUnread before now kind = tt
list_entry_counts entries NoMemory before now kind = tt
list_entry_counts entries Done before now kind = absurd kind
list_entry_counts entries (Usage fault) before now kind = absurd kind
list_entry_counts entries (SomeRefused refused) before now kind = absurd kind
list_entry_counts entries (ReadFault entry input) before now kind = absurd kind
list_entry_counts entries (WriteFault entry output) before now kind = absurd kind

-- ---- all entries had their turns

all_next : (P : Verdict → Type 0) (v : Verdict) (vs : List Verdict) → P v → All P vs → (k : ℕ) (d : Verdict) → k < length (v ∷ vs) → P (get_or (v ∷ vs) k d)
all_next P v vs here later zero d lt = here
all_next P v vs here later (suc k) d lt = later k d (omega (arith, lt))

-- where none of them is refused, their files are called for
all_files : (vs : List Verdict) → All IsJudged vs → count_by is_refused vs ≡ 0 → All IsFiles vs
all_files [] judged none = λ k d lt. absurd (omega (arith, lt))
all_files (v ∷ vs) judged none = first v (judged 0 v (omega arith)) (all_files vs (λ k d lt. judged (suc k) d (omega (arith, lt)))) none
  where
    first : (v : Verdict) → IsJudged v → (count_by is_refused vs ≡ 0 → All IsFiles vs) → count_by is_refused (v ∷ vs) ≡ 0 → All IsFiles (v ∷ vs)
    first (verdict.files outputs summary) is later none = all_next (λ w. IsFiles w) (verdict.files outputs summary) vs tt (later none)
    first (verdict.refused refusal) is later none =
        let f : Verdict → ℕ = λ w. cond (is_refused w) 1 0 in
        let both : count_by is_refused (verdict.refused refusal ∷ vs) ≡ 1 + count_by is_refused vs = sum_by-append f (verdict.refused refusal ∷ []) vs in
        absurd (omega (arith, both, none))
    first (verdict.usage fault) is later none = absurd is
    first (verdict.absent input) is later none = absurd is

all_shown : (refused : ℕ) (vs : List Verdict) → All IsJudged vs → refused ≡ count_by is_refused vs → EntriesShow vs (outcome_for refused)
all_shown zero vs judged is = all_files vs judged (sym is)
all_shown (suc more) vs judged is = (judged, sym is, omega arith)

all_had : (refused : ℕ) (vs : List Verdict) (before now : SeriesMoment) → TurnsHad Done vs before now → TurnsHad (outcome_for refused) vs before now
all_had zero vs before now had = had
all_had (suc more) vs before now had = record { turns = had.turns; had = had.had; files = had.files; out = had.out; lines = had.lines }

all_entry_counts : (entries : List EntryNames) (refused : ℕ) (before now : Faults) → EntryCounts entries (outcome_for refused) before now
all_entry_counts entries zero before now = tt
all_entry_counts entries (suc more) before now = tt

module _ {S O E : Type 0} (s : shelf.Ghosts S) (o : sink.Ghosts O) (e : sink.Ghosts E) (words : List (List ℕ)) where
  -- a fault of the words
  pub ends_usage : (fault : SeriesUsage) (f0 : S) (o0 : O) (e0 : E) (t0 : Tally) → t0.whole ≡ true → series_words words ≡ Err fault
      → SeriesEnds words (Usage fault) (series_at s o e f0 o0 e0 t0) (series_at s o e f0 o0 e0 t0)
  ends_usage fault f0 o0 e0 t0 whole read = record {
    called = λ told p calls.
        let P : Result ListWords SeriesUsage → Type 0 = λ r. ReadCallsFor r (s.held f0) p in
        let Q : Plan → Type 0 = λ q. SeriesShownBy q (Usage fault) in
        let plan : p ≡ usage fault = subst P read calls in record {
          cause = subst Q (sym plan) refl;
          had = record { turns = 0; had = refl; files = refl; out = λ out_told. refl; lines = λ err_told. none_received t0.whole (e.written e0) whole };
          unfinished = refl;
          finished = tt;
          counts = tt;
        };
    streams = record {
      untouched = λ told. refl;
      lines = λ told. ([], none_received t0.whole (e.written e0) whole);
      whole = whole_at_first t0.whole (e.faults e0) whole;
    };
    counts = record { reads = refl; writes = refl; out = refl };
    usage = λ other. ((λ is. cc), (λ is. cc));
  }

  module _ (w : ListWords) (list : List ℕ) (read : series_words words ≡ Ok w) (named : list ≡ w.list) (first : list_of words ≡ w.list) where
    calls_list : (held : Held) (p : Plan) → SeriesCallsFor words held p → ListCallsFor list (held list) held p
    calls_list held p calls = let P : List ℕ → Type 0 = λ n. ListCallsFor n (held n) held p in subst P (sym named) (list_calls words w held p read calls)

    -- there are no entries
    pub ends_unlisted : (outcome : SeriesOutcome) (f0 f1 : S) (o0 : O) (e0 : E) (t0 : Tally) → t0.whole ≡ true → IsListOutcome outcome
        → (IsTrue s.tells → IsListEnd (s.held f0 list) list outcome) → s.unfinished f1 ≡ s.unfinished f0 → (IsTrue s.tells → s.held f1 ≡ s.held f0)
        → ((out : ℕ) → SeriesCounts list outcome (shelf_faults s f0 out) (shelf_faults s f1 out))
        → SeriesEnds words outcome (series_at s o e f0 o0 e0 t0) (series_at s o e f1 o0 e0 t0)
    ends_unlisted outcome f0 f1 o0 e0 t0 whole kind end left held counts = record {
      called = λ told p calls.
          let stands = list_stands outcome (verdicts_of p) (s.held f0) (s.held f1) (o.written o0) (e.written e0) t0.whole kind (held told) whole in record {
            cause = list_shown list (s.held f0) p outcome (calls_list (s.held f0) p calls) (end told);
            had = record { turns = 0; had = stands.0; files = stands.1; out = λ out_told. stands.2; lines = λ err_told. stands.3 };
            unfinished = list_unfinished (entries_in p) outcome (s.unfinished f0) (s.unfinished f1) kind left;
            finished = list_finished outcome (verdicts_of p) (s.unfinished f1) kind;
            counts = list_entry_counts (entries_in p) outcome (faults_at s o f0 o0) (faults_at s o f1 o0) kind;
          };
      streams = record {
        untouched = λ told. list_untouched outcome (o.written o0) kind;
        lines = λ told. ([], none_received t0.whole (e.written e0) whole);
        whole = whole_at_first t0.whole (e.faults e0) whole;
      };
      counts = list_along (list_of words) list outcome (faults_at s o f0 o0) (faults_at s o f1 o0) (first ∙ sym named) (counts (o.faults o0));
      usage = λ fault. ((λ is. absurd (list_no_usage outcome fault kind is)), (λ is. absurd (no_fault words w fault read is)));
    }

    module _ (entries : List EntryNames) (f0 f1 f2 : S) (o0 o2 : O) (e0 e2 : E) (t0 t2 : Tally) (listed : IsTrue s.tells → IsListed list (s.held f0) entries)
        (left : s.unfinished f1 ≡ s.unfinished f0) (held : IsTrue s.tells → s.held f1 ≡ s.held f0) (same : (out : ℕ) → SameFaults (shelf_faults s f0 out) (shelf_faults s f1 out)) where
      had_along : (outcome : SeriesOutcome) (vs : List Verdict) → s.held f1 ≡ s.held f0 → TurnsHad outcome vs (series_at s o e f1 o0 e0 t0) (series_at s o e f2 o2 e2 t2)
          → TurnsHad outcome vs (series_at s o e f0 o0 e0 t0) (series_at s o e f2 o2 e2 t2)
      had_along outcome vs is had = record {
        turns = had.turns;
        had = had.had;
        files = put_along outcome had.turns vs (s.held f0) (s.held f1) (s.held f2) is had.files;
        out = had.out;
        lines = had.lines;
      }

      -- the entries call for the plan
      plan_along : (outcome : SeriesOutcome) → IsTrue s.tells → (p : Plan) → SeriesCallsFor words (s.held f0) p
          → ((vs : List Verdict) → AreVerdicts entries (s.held f1) vs → PlanEnds (series entries vs) outcome (series_at s o e f0 o0 e0 t0) (series_at s o e f2 o2 e2 t2))
          → PlanEnds p outcome (series_at s o e f0 o0 e0 t0) (series_at s o e f2 o2 e2 t2)
      plan_along outcome told p calls ends =
          let found = entries_call list (s.held f0) entries p (listed told) (calls_list (s.held f0) p calls) in
          let P : Plan → Type 0 = λ q. PlanEnds q outcome (series_at s o e f0 o0 e0 t0) (series_at s o e f2 o2 e2 t2) in
          subst P (sym found.2) (ends found.0 (verdicts_along entries (s.held f0) (s.held f1) found.0 (held told) found.1))

      -- all of them had their turns
      pub ends_listed : (done : Unit {0}) → AllEnd {T = Unit {0}} entries (Ok done) (series_at s o e f1 o0 e0 t0) (series_at s o e f2 o2 e2 t2)
          → SeriesEnds words (outcome_for t2.refused) (series_at s o e f0 o0 e0 t0) (series_at s o e f2 o2 e2 t2)
      ends_listed done ends = record {
        called = λ told p calls. plan_along (outcome_for t2.refused) told p calls (λ vs are. let mine = ends.called told vs are in record {
          cause = all_shown t2.refused vs mine.cause mine.refused;
          had = had_along (outcome_for t2.refused) vs (held told) (all_had t2.refused vs (series_at s o e f1 o0 e0 t0) (series_at s o e f2 o2 e2 t2) mine.had);
          unfinished = all_unfinished entries t2.refused (s.unfinished f0) (s.unfinished f2) (no_more_back (s.unfinished f0) (s.unfinished f1) (s.unfinished f2) left ends.unfinished);
          finished = all_finished t2.refused vs (s.unfinished f2) mine.finished;
          counts = all_entry_counts entries t2.refused (faults_at s o f0 o0) (faults_at s o f2 o2);
        });
        streams = record {
          untouched = λ told. all_untouched t2.refused (o.written o0) (o.written o2);
          lines = ends.streams.lines;
          whole = ends.streams.whole;
        };
        counts = counts_along (λ a b. SeriesCounts (list_of words) (outcome_for t2.refused) a b) (faults_at s o f0 o0) (faults_at s o f1 o0) (faults_at s o f2 o2) (same (o.faults o0))
            (all_counts (list_of words) t2.refused (faults_at s o f1 o0) (faults_at s o f2 o2) (ends.counts (list_of words)));
        usage = λ fault. ((λ is. absurd (all_no_usage t2.refused fault is)), (λ is. absurd (no_fault words w fault read is)));
      }

      -- it ended at an entry
      pub ends_stopped : (outcome : SeriesOutcome) → AllEnd {T = Unit {0}} entries (Err outcome) (series_at s o e f1 o0 e0 t0) (series_at s o e f2 o2 e2 t2)
          → SeriesEnds words outcome (series_at s o e f0 o0 e0 t0) (series_at s o e f2 o2 e2 t2)
      ends_stopped outcome ends = record {
        called = λ told p calls. plan_along outcome told p calls (λ vs are. let mine = ends.called told vs are in record {
          cause = mine.cause;
          had = had_along outcome vs (held told) mine.had;
          unfinished = unfinished_along entries outcome (s.unfinished f0) (s.unfinished f1) (s.unfinished f2) left ends.unfinished;
          finished = mine.finished;
          counts = counts_along (λ a b. EntryCounts entries outcome a b) (faults_at s o f0 o0) (faults_at s o f1 o0) (faults_at s o f2 o2) (same (o.faults o0)) ends.entry_counts;
        });
        streams = record { untouched = ends.streams.untouched; lines = ends.streams.lines; whole = ends.streams.whole };
        counts = counts_along (λ a b. SeriesCounts (list_of words) outcome a b) (faults_at s o f0 o0) (faults_at s o f1 o0) (faults_at s o f2 o2) (same (o.faults o0)) (ends.counts (list_of words));
        usage = λ fault. ((λ is. absurd (entry_no_usage outcome fault ends.kind is)), (λ is. absurd (no_fault words w fault read is)));
      }
