-- The turns of some entries, one after the other.
use Rattle.std.proofs.Common.{◌≡◌, inl, ◌⊎◌, refl, sym, ap, subst, ◌∙◌, ℕ, ◌+◌, ◌<◌, ◌≤◌, arith, add-zero, List, [], ◌++◌, append-nil, length, take, None, Some, Result, Ok, Err, IsTrue, All, count_by}
use Rattle.std.specs.List.{slice_get}
use Rattle.std.proofs.lemmas.List.{take_all}
use Rattle.sgm_io.specs.Held.{Held}
use Rattle.sgm_io.specs.declared.shelf.Shelf as shelf
use Rattle.sgm_io.specs.declared.sink.Sink as sink
use Rattle.sgm_list.specs.Entries.{EntryNames}
use Rattle.sgm_stages.specs.Deliver.{after_files, FilesPut}
use Rattle.sgm_stages.specs.Ends.{CountsShow, OutStands, SameFaults}
use Rattle.sgm_stages.specs.Stops.{write_outcome}
use Rattle.sgm_stages.specs.Unfinished.{AreFinished}
use Rattle.sgm_stages.specs.Verdict.{Verdict}
use Rattle.sgm_stages.specs.declared.made.MadeTexts.{MadeTexts}
use Rattle.sgm_stages.specs.declared.stops.TextsError.{TextsError}
use Rattle.sgm_stages.proofs.Holding.{in_none}
use Rattle.sgm_series.specs.Answers.{AreAnswered}
use Rattle.sgm_series.specs.Moments.{SeriesMoment, series_at}
use Rattle.sgm_series.specs.Plans.{names_for, is_refused, IsJudged}
use Rattle.sgm_series.specs.Received.{ReceivesMore, StaysWhole}
use Rattle.sgm_series.specs.Turned.{StopShown}
use Rattle.sgm_series.specs.TurnEnds.{TurnEnds, TurnsEnd}
use Rattle.sgm_series.specs.Turns.{files_for, summaries_for, lines_for, AtEntry, IsReached}
use Rattle.sgm_series.specs.Unfinished.{NoMoreUnfinished}
use Rattle.sgm_series.specs.declared.turns.Tally.{Tally}
use Rattle.sgm_series.specs.declared.turns.TurnsStop.{TurnsStop}
use Rattle.sgm_series.proofs.Carrying.{counts_along}
use Rattle.sgm_series.proofs.Receiving.{receives_none, whole_both}
use Rattle.sgm_series.proofs.Turning.{Turn, all_more, files_more, summaries_more, lines_more, lines_stop, refused_more, writing_both, no_more_both, finished_more, unfinished_stop}

no_more : (n : ℕ) → n ≤ n + 0
no_more n = omega arith

as_before : (n : ℕ) → n ≤ n
as_before n = omega arith

as_much : (a b c : ℕ) → a ≤ b → b ≤ c → a ≤ c
as_much a b c one two = omega (arith, one, two)

one_more : (a b c n : ℕ) → b ≤ a + n → c ≤ b + 1 → c ≤ a + (n + 1)
one_more a b c n one two = omega (arith, one, two)

at_all : (a b n k : ℕ) → n ≡ k → b ≤ a + n → b ≤ a + k
at_all a b n k same most = omega (arith, same, most)

within : (a b c n k : ℕ) → n < k → b ≤ a + n → c ≤ b + 1 → c ≤ a + k
within a b c n k lt one two = omega (arith, lt, one, two)

none_all : (P : Verdict → Type 0) → All P []
none_all P = λ k d lt. absurd (omega (arith, lt))

-- the first n entries had their turns, and these are the verdicts
pub record FirstTurned (n : ℕ) (vs : List Verdict) (before now : SeriesMoment) : Type 0 where
  pub shown : IsTrue before.run.tells → All IsJudged (take n vs)
  pub files : IsTrue before.run.tells → now.run.held ≡ after_files (files_for (take n vs)) before.run.held
  pub finished : AreFinished (files_for (take n vs)) now.run.unfinished
  pub out : IsTrue before.run.out_tells → now.run.written ≡ before.run.written ++ summaries_for (take n vs)
  pub refused : now.tally.refused ≡ before.tally.refused + count_by is_refused (take n vs)
  pub lines : IsTrue before.err_tells → ReceivesMore before.tally.whole now.tally.whole (lines_for (take n vs)) before.lines now.lines

pub record TurnsGo (n : ℕ) (entries : List EntryNames) (answers : List (Result MadeTexts TextsError)) (before now : SeriesMoment) : Type 0 where
  pub called : (vs : List Verdict) → AreAnswered entries answers vs → FirstTurned n vs before now
  pub writing : (now.run.writing ≡ before.run.writing) ⊎ (now.run.writing ≡ None)
  pub unfinished : NoMoreUnfinished (λ name. ⊥) before.run.unfinished now.run.unfinished
  pub counts : SameFaults before.run.faults now.run.faults
  pub at_most : now.tally.refused ≤ before.tally.refused + n
  pub whole : StaysWhole before.tally.whole now.tally.whole before.err_faults now.err_faults
  pub err_faults : before.err_faults ≤ now.err_faults

module _ {S O E : Type 0} (s : shelf.Ghosts S) (o : sink.Ghosts O) (e : sink.Ghosts E) (entries : List EntryNames) (answers : List (Result MadeTexts TextsError)) where
  pub turns_none : (f0 : S) (o0 : O) (e0 : E) (t0 : Tally) → TurnsGo 0 entries answers (series_at s o e f0 o0 e0 t0) (series_at s o e f0 o0 e0 t0)
  turns_none f0 o0 e0 t0 = record {
    called = λ vs are. record {
      shown = λ told. none_all IsJudged;
      files = λ told. refl;
      finished = λ file c. absurd (in_none file c);
      out = λ told. sym (append-nil (o.written o0));
      refused = sym (add-zero t0.refused);
      lines = λ told. receives_none t0.whole (e.written e0);
    };
    writing = inl refl;
    unfinished = λ name on. inl on;
    counts = record { reads = refl; writes = refl; out = refl };
    at_most = no_more t0.refused;
    whole = λ start is. is;
    err_faults = as_before (e.faults e0);
  }

  -- one turn more
  pub turns_more : (n : ℕ) (entry : EntryNames) (answer : Result MadeTexts TextsError) (done : Unit {0}) (f0 f1 f2 : S) (o0 o1 o2 : O) (e0 e1 e2 : E) (t0 t1 t2 : Tally)
      → ((vs : List Verdict) → AreAnswered entries answers vs → Turn vs n entry.out answer)
      → TurnsGo n entries answers (series_at s o e f0 o0 e0 t0) (series_at s o e f1 o1 e1 t1)
      → TurnEnds {T = Unit {0}} entry answer (Ok done) (series_at s o e f1 o1 e1 t1) (series_at s o e f2 o2 e2 t2)
      → TurnsGo (n + 1) entries answers (series_at s o e f0 o0 e0 t0) (series_at s o e f2 o2 e2 t2)
  turns_more n entry answer done f0 f1 f2 o0 o1 o2 e0 e1 e2 t0 t1 t2 turn so ends = record {
    called = λ vs are.
        let t = turn vs are in let first = so.called vs are in let mine = ends.called t.v t.answers in record {
          shown = λ told. all_more IsJudged vs n t.v t.more (first.shown told) (mine.shown told);
          files = λ told. files_more vs n t.v (s.held f0) (s.held f1) (s.held f2) t.more (first.files told) (mine.files told);
          finished = finished_more vs n t.v (s.unfinished f1) (s.unfinished f2) t.more first.finished ends.unfinished.no_more mine.finished;
          out = λ told. summaries_more vs n t.v (o.written o0) (o.written o1) (o.written o2) t.more (first.out told) (mine.out told);
          refused = refused_more vs n t.v t0.refused t1.refused t2.refused t.lt t.here first.refused mine.refused;
          lines = λ told. lines_more vs n t.v t0.whole t1.whole t2.whole (e.written e0) (e.written e1) (e.written e2) t.more (first.lines told) (mine.lines told);
        };
    writing = writing_both (s.writing f0) (s.writing f1) (s.writing f2) so.writing ends.writing;
    unfinished = no_more_both (s.unfinished f0) (s.unfinished f1) (s.unfinished f2) so.unfinished ends.unfinished.no_more;
    counts = record { reads = ends.counts.reads ∙ so.counts.reads; writes = ends.counts.writes ∙ so.counts.writes; out = ends.counts.out ∙ so.counts.out };
    at_most = one_more t0.refused t1.refused t2.refused n so.at_most ends.at_most;
    whole = whole_both t0.whole t1.whole t2.whole (e.faults e0) (e.faults e1) (e.faults e2) so.whole ends.whole;
    err_faults = as_much (e.faults e0) (e.faults e1) (e.faults e2) so.err_faults ends.err_faults;
  }

  -- all of them
  pub turns_done : (n : ℕ) (done : Unit {0}) (f0 f1 : S) (o0 o1 : O) (e0 e1 : E) (t0 t1 : Tally) → n ≡ length entries
      → TurnsGo n entries answers (series_at s o e f0 o0 e0 t0) (series_at s o e f1 o1 e1 t1)
      → TurnsEnd {T = Unit {0}} entries answers (Ok done) (series_at s o e f0 o0 e0 t0) (series_at s o e f1 o1 e1 t1)
  turns_done n done f0 f1 o0 o1 e0 e1 t0 t1 all so = record {
    called = λ vs are.
        let first = so.called vs are in
        let count : length vs ≡ length entries = are.count in
        let whole : take n vs ≡ vs = take_all n vs (omega (arith, all, count)) in
        let P1 : List Verdict → Type 0 = λ x. All IsJudged x in
        let P2 : List Verdict → Type 0 = λ x. s.held f1 ≡ after_files (files_for x) (s.held f0) in
        let P3 : List Verdict → Type 0 = λ x. AreFinished (files_for x) (s.unfinished f1) in
        let P4 : List Verdict → Type 0 = λ x. o.written o1 ≡ o.written o0 ++ summaries_for x in
        let P5 : List Verdict → Type 0 = λ x. t1.refused ≡ t0.refused + count_by is_refused x in
        let P6 : List Verdict → Type 0 = λ x. ReceivesMore t0.whole t1.whole (lines_for x) (e.written e0) (e.written e1) in record {
          shown = λ told. subst P1 whole (first.shown told);
          files = λ told. subst P2 whole (first.files told);
          finished = subst P3 whole first.finished;
          out = λ told. subst P4 whole (first.out told);
          refused = subst P5 whole first.refused;
          lines = λ told. subst P6 whole (first.lines told);
        };
    writing = so.writing;
    unfinished = so.unfinished;
    counts = so.counts;
    at_most = at_all t0.refused t1.refused n (length entries) all so.at_most;
    whole = so.whole;
    err_faults = so.err_faults;
  }

  -- one of them stopped
  pub turns_stop : (n : ℕ) (entry : EntryNames) (answer : Result MadeTexts TextsError) (at : TurnsStop) (f0 f1 f2 : S) (o0 o1 o2 : O) (e0 e1 e2 : E) (t0 t1 t2 : Tally)
      → at.place ≡ n → slice_get entries n ≡ Some entry
      → ((vs : List Verdict) → AreAnswered entries answers vs → Turn vs n entry.out answer)
      → TurnsGo n entries answers (series_at s o e f0 o0 e0 t0) (series_at s o e f1 o1 e1 t1)
      → TurnEnds {T = Unit {0}} entry answer (Err at.stop) (series_at s o e f1 o1 e1 t1) (series_at s o e f2 o2 e2 t2)
      → n < length entries
      → TurnsEnd {T = Unit {0}} entries answers (Err at) (series_at s o e f0 o0 e0 t0) (series_at s o e f2 o2 e2 t2)
  turns_stop n entry answer at f0 f1 f2 o0 o1 o2 e0 e1 e2 t0 t1 t2 here found turn so ends lt =
      let before = series_at s o e f0 o0 e0 t0 in let mid = series_at s o e f1 o1 e1 t1 in let now = series_at s o e f2 o2 e2 t2 in
      let end = at.stop in
      let named : slice_get entries at.place ≡ Some entry = ap (λ (k : ℕ). slice_get entries k) here ∙ found in record {
        called = λ vs are.
            let t = turn vs are in let first = so.called vs are in let mine = ends.called t.v t.answers in
            let P1 : ℕ → Type 0 = λ k. IsReached k vs × AtEntry k vs (λ v. StopShown v end) in
            let P2 : ℕ → Type 0 = λ k. AtEntry k vs (λ v. FilesPut (write_outcome end) v (after_files (files_for (take k vs)) (s.held f0)) (s.held f2)) in
            let Q2 : Held → Type 0 = λ h. FilesPut (write_outcome end) t.v h (s.held f2) in
            let P4 : ℕ → Type 0 = λ k. AtEntry k vs (λ v. OutStands (write_outcome end) v (o.written o0 ++ summaries_for (take k vs)) (o.written o2)) in
            let Q4 : List ℕ → Type 0 = λ written. OutStands (write_outcome end) t.v written (o.written o2) in
            let P5 : ℕ → Type 0 = λ k. t2.refused ≡ t0.refused + count_by is_refused (take k vs) in
            let P6 : ℕ → Type 0 = λ k. ReceivesMore t0.whole t2.whole (lines_for (take k vs)) (e.written e0) (e.written e2) in record {
              shown = λ told. subst P1 (sym here) (first.shown told, (t.v, t.at, mine.shown told));
              files = λ told. subst P2 (sym here) (t.v, t.at, subst Q2 (first.files told) (mine.files told));
              finished = tt;
              out = λ told. subst P4 (sym here) (t.v, t.at, subst Q4 (first.out told) (mine.out told));
              refused = subst P5 (sym here) (mine.refused ∙ add-zero t1.refused ∙ first.refused);
              lines = λ told. subst P6 (sym here) (lines_stop vs n t0.whole t1.whole t2.whole (e.written e0) (e.written e1) (e.written e2) (first.lines told) (mine.lines told));
            };
        writing = tt;
        unfinished = unfinished_stop entries at.place entry end (s.unfinished f0) (s.unfinished f1) (s.unfinished f2) named so.unfinished ends.unfinished;
        counts = (entry, named, counts_along (λ a b. CountsShow (names_for entry) (write_outcome end) a b) before.run.faults mid.run.faults now.run.faults so.counts ends.counts);
        at_most = within t0.refused t1.refused t2.refused n (length entries) lt so.at_most ends.at_most;
        whole = whole_both t0.whole t1.whole t2.whole (e.faults e0) (e.faults e1) (e.faults e2) so.whole ends.whole;
        err_faults = as_much (e.faults e0) (e.faults e1) (e.faults e2) so.err_faults ends.err_faults;
      }
