-- The batches of a series, one after the other.
use Rattle.std.proofs.Common.{◌≡◌, inl, refl, sym, subst, ◌∙◌, ℕ, ◌+◌, ◌-◌, ◌*◌, ◌<◌, ◌≤◌, arith, List, [], ◌++◌, append-nil, length, take, drop, true, Result, Ok, Err, IsTrue}
use Rattle.std.specs.Prelude.{All, count_by}
use Rattle.std.proofs.lemmas.List.{take_all}
use Rattle.sgm_io.specs.declared.shelf.Shelf as shelf
use Rattle.sgm_io.specs.declared.sink.Sink as sink
use Rattle.sgm_list.specs.Entries.{EntryNames}
use Rattle.sgm_stages.specs.Deliver.{after_files}
use Rattle.sgm_stages.specs.Ends.{Faults, SameFaults, faults_at, shelf_faults}
use Rattle.sgm_stages.specs.Moments.{Keeps}
use Rattle.sgm_stages.specs.Unfinished.{AreFinished}
use Rattle.sgm_stages.specs.Verdict.{Verdict}
use Rattle.sgm_stages.specs.declared.made.MadeTexts.{MadeTexts}
use Rattle.sgm_stages.specs.declared.stops.TextsError.{TextsError}
use Rattle.sgm_stages.specs.declared.stops.WriteStop.{WriteStop}
use Rattle.sgm_stages.specs.declared.stops.WriteStop.TheVariants as stop
use Rattle.sgm_stages.proofs.Holding.{in_none}
use Rattle.sgm_series.specs.Answers.{AreAnswered, AreAnswers}
use Rattle.sgm_series.specs.Counted.{EntryCounts, SeriesCounts}
use Rattle.sgm_series.specs.Moments.{SeriesMoment, series_at}
use Rattle.sgm_series.specs.Plans.{AreVerdicts, IsJudged, is_refused}
use Rattle.sgm_series.specs.Received.{IsWhole, Received}
use Rattle.sgm_series.specs.SeriesEnds.{AllEnd}
use Rattle.sgm_series.specs.Stands.{AreApart, IsEntryOutcome, batch_outcome, place_in, stop_outcome}
use Rattle.sgm_series.specs.Turned.{BatchCounts, BatchShown}
use Rattle.sgm_series.specs.TurnEnds.{TurnsEnd}
use Rattle.sgm_series.specs.Turns.{files_for, summaries_for, lines_for}
use Rattle.sgm_series.specs.Unfinished.{NoMoreUnfinished}
use Rattle.sgm_series.specs.declared.making.BatchStop.{BatchStop}
use Rattle.sgm_series.specs.declared.making.BatchStop.TheVariants as batch
use Rattle.sgm_series.specs.declared.turns.Tally.{Tally}
use Rattle.sgm_series.specs.declared.turns.TurnsStop.{TurnsStop}
use Rattle.sgm_series.proofs.Batches.{batch_verdicts, batch_answered, before_lines, some_verdicts, stop_counts, stop_out, stop_put, stop_shows, stop_turns, stop_within}
use Rattle.sgm_series.proofs.Batches.{unmade_counts, unmade_out, unmade_put, unmade_shows, unmade_turns, unmade_within}
use Rattle.sgm_series.proofs.Carrying.{counts_along, none_received, whole_at_first}
use Rattle.sgm_series.proofs.Leaving.{finished_both, no_more_along, no_more_back, stop_finished, stop_unfinished, stop_untouched, unmade_finished, unmade_unfinished, unmade_untouched}
use Rattle.sgm_series.proofs.Slices.{BatchSize, full_cut}
use Rattle.sgm_series.proofs.Stepping.{put_more, added_more, lines_more, refused_more, judged_more}
use Rattle.sgm_series.proofs.Turning.{no_more_both}

-- the entries of a batch, from the n-th on
abbrev pub cut : {X : Type 0} → ℕ → ℕ → List X → List X
cut n hi xs = take (hi - n) (drop n xs)

-- the first n entries had their turns, and these are the verdicts of all
pub record FirstHad (n : ℕ) (vs : List Verdict) (before now : SeriesMoment) : Type 0 where
  pub held : now.run.held ≡ after_files (files_for (take n vs)) before.run.held
  pub judged : All IsJudged (take n vs)
  pub finished : AreFinished (files_for (take n vs)) now.run.unfinished
  pub out : IsTrue before.run.out_tells → now.run.written ≡ before.run.written ++ summaries_for (take n vs)
  pub refused : now.tally.refused ≡ count_by is_refused (take n vs)
  pub lines : IsTrue before.err_tells → Received now.tally.whole (lines_for (take n vs)) before.lines now.lines

pub record BatchesGo (n : ℕ) (entries : List EntryNames) (before now : SeriesMoment) : Type 0 where
  pub within : n ≤ length entries
  pub whole_batches : n < length entries → (batches : ℕ) × (n ≡ batches * 8)
  pub called : IsTrue before.run.tells → (vs : List Verdict) → AreVerdicts entries before.run.held vs → FirstHad n vs before now
  pub unfinished : NoMoreUnfinished (λ name. ⊥) before.run.unfinished now.run.unfinished
  pub untouched : IsTrue before.run.out_tells → n ≡ 0 → now.run.written ≡ before.run.written
  pub lines : IsTrue before.err_tells → (lines : List ℕ) × Received now.tally.whole lines before.lines now.lines
  pub few : now.tally.refused ≤ n
  pub counts : SameFaults before.run.faults now.run.faults
  pub whole : IsWhole now.tally.whole before.err_faults now.err_faults

none_all : (P : Verdict → Type 0) → All P []
none_all P = λ k d lt. absurd (omega (arith, lt))

none_few : (n : ℕ) → n ≡ 0 → n ≤ 0
none_few n none = omega (arith, none)

few_more : (a b n m k hi : ℕ) → b ≤ a + k → a ≤ n → k ≡ m → n + m ≡ hi → b ≤ hi
few_more a b n m k hi most few same to = omega (arith, most, few, same, to)

-- ---- stops

unmade_kind : (n : ℕ) (at : BatchStop) → IsEntryOutcome (batch_outcome n at)
unmade_kind n (batch.Unread place input) = tt
unmade_kind n batch.NoMemory = tt

stop_kind : (entry : ℕ) (at : WriteStop) → IsEntryOutcome (stop_outcome entry at)
stop_kind entry (stop.Unwritten output) = tt
stop_kind entry stop.NoMemory = tt

same_both : (a b c : Faults) → SameFaults a b → SameFaults b c → SameFaults a c
same_both a b c one two = record { reads = two.reads ∙ one.reads; writes = two.writes ∙ one.writes; out = two.out ∙ one.out }

-- where a batch stopped lies within the entries
pub unmade_at : (n hi : ℕ) (entries : List EntryNames) (at : BatchStop) (before now : Faults) → BatchSize n hi (length entries) → BatchCounts (cut n hi entries) at before now
    → place_in at < hi - n
unmade_at n hi entries at before now size counts =
    let full : length (cut n hi entries) ≡ hi - n = full_cut n hi entries size.within in
    let some : 0 < length (cut n hi entries) = rw full size.some in
    let lt = unmade_within (cut n hi entries) at before now some counts in
    omega (arith, full, lt)

module _ {S O E : Type 0} (s : shelf.Ghosts S) (o : sink.Ghosts O) (e : sink.Ghosts E) (entries : List EntryNames) where
  pub batches_none : (f0 : S) (o0 : O) (e0 : E) (t0 : Tally) → t0.refused ≡ 0 → t0.whole ≡ true → BatchesGo 0 entries (series_at s o e f0 o0 e0 t0) (series_at s o e f0 o0 e0 t0)
  batches_none f0 o0 e0 t0 none is = record {
    within = omega arith;
    whole_batches = λ lt. (0, refl);
    called = λ told vs are. record {
      held = refl;
      judged = none_all IsJudged;
      finished = λ file c. absurd (in_none file c);
      out = λ out_told. sym (append-nil (o.written o0));
      refused = none;
      lines = λ err_told. none_received t0.whole (e.written e0) is;
    };
    unfinished = λ name on. inl on;
    untouched = λ told first. refl;
    lines = λ told. ([], none_received t0.whole (e.written e0) is);
    few = none_few t0.refused none;
    counts = record { reads = refl; writes = refl; out = refl };
    whole = whole_at_first t0.whole (e.faults e0) is;
  }

  -- all batches came to their ends
  pub batches_done : (n : ℕ) (done : Unit {0}) (f0 f1 : S) (o0 o1 : O) (e0 e1 : E) (t0 t1 : Tally) → length entries ≤ n
      → BatchesGo n entries (series_at s o e f0 o0 e0 t0) (series_at s o e f1 o1 e1 t1)
      → AllEnd {T = Unit {0}} entries (Ok done) (series_at s o e f0 o0 e0 t0) (series_at s o e f1 o1 e1 t1)
  batches_done n done f0 f1 o0 o1 e0 e1 t0 t1 all so = record {
    called = λ told vs are.
        let first = so.called told vs are in
        let count : length vs ≡ length entries = are.count in
        let inside : n ≤ length entries = so.within in
        let every : n ≡ length vs = omega (arith, all, inside, count) in
        let whole : take n vs ≡ vs = take_all n vs (omega (arith, every)) in
        let P1 : List Verdict → Type 0 = λ x. All IsJudged x in
        let P2 : List Verdict → Type 0 = λ x. t1.refused ≡ count_by is_refused x in
        let P3 : List Verdict → Type 0 = λ x. AreFinished (files_for x) (s.unfinished f1) in record {
          cause = subst P1 whole first.judged;
          refused = subst P2 whole first.refused;
          had = record { turns = n; had = every; files = first.held; out = first.out; lines = first.lines };
          finished = subst P3 whole first.finished;
        };
    kind = tt;
    unfinished = so.unfinished;
    streams = record { untouched = λ told. tt; lines = so.lines; whole = so.whole };
    counts = λ list. so.counts;
    entry_counts = tt;
  }

  module _ (apart : AreApart entries) (n hi : ℕ) (more : n < length entries) (size : BatchSize n hi (length entries)) where
    -- the verdicts of a batch's entries, over what is held at its beginning
    mine : (f0 f1 : S) (o0 o1 : O) (e0 e1 : E) (t0 t1 : Tally) → BatchesGo n entries (series_at s o e f0 o0 e0 t0) (series_at s o e f1 o1 e1 t1)
        → IsTrue s.tells → (vs : List Verdict) → AreVerdicts entries (s.held f0) vs → AreVerdicts (cut n hi entries) (s.held f1) (cut n hi vs)
    mine f0 f1 o0 o1 e0 e1 t0 t1 so told vs are = batch_verdicts entries vs n (hi - n) (s.held f0) (s.held f1) apart are (so.called told vs are).held

    -- nothing was made for a batch
    pub batch_unmade : (at : BatchStop) (f0 f1 f2 : S) (o0 o1 : O) (e0 e1 : E) (t0 t1 : Tally)
        → BatchesGo n entries (series_at s o e f0 o0 e0 t0) (series_at s o e f1 o1 e1 t1) → Keeps s f1 f2
        → ((out : ℕ) → BatchCounts (cut n hi entries) at (shelf_faults s f1 out) (shelf_faults s f2 out))
        → (IsTrue s.tells → (vs : List Verdict) → AreVerdicts (cut n hi entries) (s.held f1) vs → BatchShown vs at)
        → AllEnd {T = Unit {0}} entries (Err (batch_outcome n at)) (series_at s o e f0 o0 e0 t0) (series_at s o e f2 o1 e1 t1)
    batch_unmade at f0 f1 f2 o0 o1 e0 e1 t0 t1 so kept counts shown =
        let lt = unmade_at n hi entries at _ _ size (counts 0) in
        let few = size.few in
        let counted = unmade_counts n (hi - n) entries [] at _ _ (counts (o.faults o1)) in record {
          called = λ told vs are.
              let first = so.called told vs are in
              let count : length vs ≡ length entries = are.count in
              let le : n ≤ length vs = omega (arith, count, more) in record {
                cause = unmade_shows n (hi - n) vs at (omega (arith, lt)) first.judged (shown told (cut n hi vs) (mine f0 f1 o0 o1 e0 e1 t0 t1 so told vs are));
                refused = tt;
                had = record {
                  turns = n;
                  had = unmade_turns n (length vs) at (so.whole_batches more) (omega (arith, lt, few)) le;
                  files = unmade_put n vs at (s.held f0) (s.held f2) (kept.held told ∙ first.held);
                  out = λ out_told. unmade_out n vs at (o.written o0) (o.written o1) (first.out out_told);
                  lines = first.lines;
                };
                finished = unmade_finished n at vs (s.unfinished f2);
              };
          kind = unmade_kind n at;
          unfinished = unmade_unfinished n entries at (s.unfinished f0) (s.unfinished f2) (no_more_along (λ name. ⊥) (s.unfinished f0) (s.unfinished f1) (s.unfinished f2) kept.unfinished so.unfinished);
          streams = record {
            untouched = λ told. unmade_untouched n at (o.written o0) (o.written o1) (so.whole_batches more) (so.untouched told);
            lines = so.lines;
            whole = so.whole;
          };
          counts = λ list. counts_along (λ a b. SeriesCounts list (batch_outcome n at) a b) (faults_at s o f0 o0) (faults_at s o f1 o1) (faults_at s o f2 o1) so.counts
              (unmade_counts n (hi - n) entries list at _ _ (counts (o.faults o1))).0;
          entry_counts = counts_along (λ a b. EntryCounts entries (batch_outcome n at) a b) (faults_at s o f0 o0) (faults_at s o f1 o1) (faults_at s o f2 o1) so.counts counted.1;
        }

    module _ (answers : List (Result MadeTexts TextsError)) (f0 f1 f2 f3 : S) (o0 o1 o3 : O) (e0 e1 e3 : E) (t0 t1 t3 : Tally)
        (so : BatchesGo n entries (series_at s o e f0 o0 e0 t0) (series_at s o e f1 o1 e1 t1))
        (kept : Keeps s f1 f2) (counted : (s.read_faults f2 ≡ s.read_faults f1) × (s.write_faults f2 ≡ s.write_faults f1))
        (made : IsTrue s.tells → AreAnswers (cut n hi entries) (s.held f1) answers) (count : length answers ≡ length (cut n hi entries)) where
      answered : IsTrue s.tells → (vs : List Verdict) → AreVerdicts entries (s.held f0) vs → AreAnswered (cut n hi entries) answers (cut n hi vs)
      answered told vs are = batch_answered (cut n hi entries) (s.held f1) answers (cut n hi vs) (mine f0 f1 o0 o1 e0 e1 t0 t1 so told vs are) (made told)

      same_until : SameFaults (faults_at s o f0 o0) (faults_at s o f2 o1)
      same_until = record { reads = counted.0 ∙ so.counts.reads; writes = counted.1 ∙ so.counts.writes; out = so.counts.out }

      -- a turn of the batch stopped
      pub batch_stops : (at : TurnsStop) → TurnsEnd {T = Unit {0}} (cut n hi entries) answers (Err at) (series_at s o e f2 o1 e1 t1) (series_at s o e f3 o3 e3 t3)
          → AllEnd {T = Unit {0}} entries (Err (stop_outcome (n + at.place) at.stop)) (series_at s o e f0 o0 e0 t0) (series_at s o e f3 o3 e3 t3)
      batch_stops at ends =
          let m = hi - n in
          let full : length (cut n hi entries) ≡ hi - n = full_cut n hi entries size.within in
          let lt = stop_within (cut n hi entries) at _ _ ends.counts in
          let le : at.place ≤ m = omega (arith, full, lt) in
          let inside = size.within in let after = size.after in
          let some = some_verdicts (cut n hi entries) answers count in record {
            called = λ told vs are.
                let first = so.called told vs are in let turned = ends.called (cut n hi vs) (answered told vs are) in
                let same : length vs ≡ length entries = are.count in
                let upto : n + at.place ≤ length vs = grind arith in record {
                  cause = stop_shows n m vs at le first.judged (turned.shown told);
                  refused = tt;
                  had = record {
                    turns = n + at.place;
                    had = stop_turns (n + at.place) (length vs) at.stop upto;
                    files = stop_put n m vs at (s.held f0) (s.held f2) (s.held f3) le (kept.held told ∙ first.held) (turned.files told);
                    out = λ out_told. stop_out n m vs at (o.written o0) (o.written o1) (o.written o3) le (first.out out_told) (turned.out out_told);
                    lines = λ err_told. let P : List ℕ → Type 0 = λ x. Received t3.whole x (e.written e0) (e.written e3) in
                        subst P (before_lines n m at.place vs le) (turned.lines err_told _ _ (first.lines err_told));
                  };
                  finished = stop_finished (n + at.place) at.stop vs (s.unfinished f3);
                };
            kind = stop_kind (n + at.place) at.stop;
            unfinished = stop_unfinished n m entries at (s.unfinished f0) (s.unfinished f2) (s.unfinished f3)
                (no_more_along (λ name. ⊥) (s.unfinished f0) (s.unfinished f1) (s.unfinished f2) kept.unfinished so.unfinished) ends.unfinished;
            streams = record {
              untouched = λ told. stop_untouched n some.0 at (o.written o0) (o.written o1) (o.written o3) (so.untouched told) ((ends.called some.0 some.1).out told);
              lines = λ told. let before = so.lines told in (_, (ends.called some.0 some.1).lines told before.0 _ before.1);
              whole = ends.whole _ so.whole;
            };
            counts = λ list. counts_along (λ a b. SeriesCounts list (stop_outcome (n + at.place) at.stop) a b) (faults_at s o f0 o0) (faults_at s o f2 o1) (faults_at s o f3 o3) same_until
                (stop_counts n m list entries at _ _ ends.counts).0;
            entry_counts = counts_along (λ a b. EntryCounts entries (stop_outcome (n + at.place) at.stop) a b) (faults_at s o f0 o0) (faults_at s o f2 o1) (faults_at s o f3 o3) same_until
                (stop_counts n m [] entries at _ _ ends.counts).1;
          }

      -- the batch came to its end
      pub batches_more : (done : Unit {0}) → TurnsEnd {T = Unit {0}} (cut n hi entries) answers (Ok done) (series_at s o e f2 o1 e1 t1) (series_at s o e f3 o3 e3 t3)
          → BatchesGo hi entries (series_at s o e f0 o0 e0 t0) (series_at s o e f3 o3 e3 t3)
      batches_more done ends =
          let m = hi - n in
          let after = size.after in
          let full : length (cut n hi entries) ≡ hi - n = full_cut n hi entries size.within in
          let to : n + m ≡ hi = grind arith in
          let some = some_verdicts (cut n hi entries) answers count in record {
            within = size.within;
            whole_batches = λ lt. let before = so.whole_batches more in let last = size.last lt in (before.0 + 1, (let is : n ≡ before.0 * 8 = before.1 in omega (arith, is, last)));
            called = λ told vs are.
                let first = so.called told vs are in let turned = ends.called (cut n hi vs) (answered told vs are) in
                let P1 : ℕ → Type 0 = λ k. s.held f3 ≡ after_files (files_for (take k vs)) (s.held f0) in
                let P2 : ℕ → Type 0 = λ k. All IsJudged (take k vs) in
                let P3 : ℕ → Type 0 = λ k. AreFinished (files_for (take k vs)) (s.unfinished f3) in
                let P4 : ℕ → Type 0 = λ k. o.written o3 ≡ o.written o0 ++ summaries_for (take k vs) in
                let P5 : ℕ → Type 0 = λ k. t3.refused ≡ count_by is_refused (take k vs) in
                let P6 : List ℕ → Type 0 = λ x. Received t3.whole x (e.written e0) (e.written e3) in
                let Q6 : ℕ → Type 0 = λ k. P6 (lines_for (take k vs)) in record {
                  held = subst P1 to (put_more n m vs (s.held f0) (s.held f2) (s.held f3) (kept.held told ∙ first.held) (turned.files told));
                  judged = subst P2 to (judged_more n m vs first.judged (turned.shown told));
                  finished = subst P3 to (finished_both n m vs (s.unfinished f1) (s.unfinished f3) first.finished (no_more_back (s.unfinished f1) (s.unfinished f2) (s.unfinished f3) kept.unfinished ends.unfinished) turned.finished);
                  out = λ out_told. subst P4 to (added_more n m vs (o.written o0) (o.written o1) (o.written o3) (first.out out_told) (turned.out out_told));
                  refused = subst P5 to (refused_more n m vs t1.refused t3.refused first.refused turned.refused);
                  lines = λ err_told. subst Q6 to (subst P6 (lines_more n m vs) (turned.lines err_told _ _ (first.lines err_told)));
                };
            unfinished = no_more_both (s.unfinished f0) (s.unfinished f1) (s.unfinished f3) so.unfinished (no_more_back (s.unfinished f1) (s.unfinished f2) (s.unfinished f3) kept.unfinished ends.unfinished);
            untouched = λ told none. let gone = size.some in absurd (grind arith);
            lines = λ told. let before = so.lines told in (_, (ends.called some.0 some.1).lines told before.0 _ before.1);
            few = few_more t1.refused t3.refused n m (length (cut n hi entries)) hi ends.at_most so.few full to;
            counts = same_both (faults_at s o f0 o0) (faults_at s o f2 o1) (faults_at s o f3 o3) same_until ends.counts;
            whole = ends.whole _ so.whole;
          }
