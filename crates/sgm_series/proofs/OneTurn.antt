-- How one turn ends.
use Rattle.std.proofs.Common.{◌≡◌, inl, inr, refl, sym, subst, ℕ, ◌+◌, ◌≤◌, arith, add-zero, List, append-nil, Bool, Option, Result, Ok, Err, IsTrue, IfOk, IfErr}
use Rattle.sgm_io.specs.declared.shelf.Shelf as shelf
use Rattle.sgm_io.specs.declared.sink.Sink as sink
use Rattle.sgm_list.specs.Entries.{EntryNames}
use Rattle.sgm_outcome.specs.Lines.{refusal_line}
use Rattle.sgm_outcome.specs.declared.outcome.Outcome.TheVariants as run
use Rattle.sgm_outcome.specs.declared.outcome.Refusal.{Refusal}
use Rattle.sgm_stages.specs.Deliver.{FilesPut}
use Rattle.sgm_stages.specs.Ends.{CountsShow, OutStands, WritingStands, faults_at}
use Rattle.sgm_stages.specs.Unfinished.{AreFinished, UnfinishedStands}
use Rattle.sgm_stages.specs.Verdict.{Verdict, outputs_of}
use Rattle.sgm_stages.specs.declared.made.MadeTexts.{MadeTexts}
use Rattle.sgm_stages.specs.declared.stops.TextsError.TheVariants as texts
use Rattle.sgm_stages.specs.declared.stops.WriteStop.{WriteStop}
use Rattle.sgm_stages.specs.declared.stops.WriteStop.TheVariants as stop
use Rattle.sgm_stages.proofs.Finishing.{same_stands}
use Rattle.sgm_stages.proofs.Holding.{in_none}
use Rattle.sgm_series.specs.Answers.{verdict_made}
use Rattle.sgm_series.specs.Moments.{series_at}
use Rattle.sgm_series.specs.Plans.{names_for}
use Rattle.sgm_series.specs.Received.{ReceivesMore, StaysWhole}
use Rattle.sgm_series.specs.Turned.{StopShown, TurnShown, WritingTurned, turn_end, turn_line, turn_refused}
use Rattle.sgm_series.specs.TurnEnds.{TurnEnds, VerdictTurned}
use Rattle.sgm_series.specs.declared.turns.Tally.{Tally}
use Rattle.sgm_series.proofs.Receiving.{receives_none}

none_more : (n : ℕ) → n ≤ n + 1
none_more n = omega arith

as_before : (n : ℕ) → n ≤ n
as_before n = omega arith

one_more : (a b : ℕ) → b ≡ a + 1 → b ≤ a + 1
one_more a b is = omega (arith, is)

-- ---- texts were made

made_shown : (out : List ℕ) (made : MadeTexts) (r : Result (Unit {0}) WriteStop) → IfErr r (StopShown (verdict_made out made)) → TurnShown (verdict_made out made) r
made_shown out made (Ok done) shown = tt
made_shown out made (Err stop) shown = shown

made_refused : (out : List ℕ) (made : MadeTexts) (r : Result (Unit {0}) WriteStop) (n : ℕ) → n ≡ n + turn_refused (verdict_made out made) r
made_refused out made (Ok done) n = sym (add-zero n)
made_refused out made (Err stop) n = sym (add-zero n)

made_lines : (out : List ℕ) (made : MadeTexts) (r : Result (Unit {0}) WriteStop) (whole : Bool) (now : List ℕ) → ReceivesMore whole whole (turn_line (verdict_made out made) r) now now
made_lines out made (Ok done) whole now = receives_none whole now
made_lines out made (Err stop) whole now = receives_none whole now

made_writing : (r : Result (Unit {0}) WriteStop) (old new : Option (List ℕ)) → WritingStands (turn_end r) old new → WritingTurned r old new
made_writing (Ok done) old new is = inr is
made_writing (Err stop) old new is = tt

module _ {S O E : Type 0} (s : shelf.Ghosts S) (o : sink.Ghosts O) (e : sink.Ghosts E) where
  -- they were written, or a stop came
  pub turn_written : (entry : EntryNames) (made : MadeTexts) (r : Result (Unit {0}) WriteStop) (f0 f1 : S) (o0 o1 : O) (e0 : E) (t0 : Tally)
      → (IsTrue s.tells → IfErr r (StopShown (verdict_made entry.out made)))
      → (IsTrue s.tells → FilesPut (turn_end r) (verdict_made entry.out made) (s.held f0) (s.held f1))
      → (IsTrue o.tells → OutStands (turn_end r) (verdict_made entry.out made) (o.written o0) (o.written o1))
      → WritingStands (turn_end r) (s.writing f0) (s.writing f1)
      → UnfinishedStands (names_for entry) (turn_end r) (s.unfinished f0) (s.unfinished f1)
      → IfOk r (λ done. AreFinished (outputs_of (verdict_made entry.out made)) (s.unfinished f1))
      → CountsShow (names_for entry) (turn_end r) (faults_at s o f0 o0) (faults_at s o f1 o1)
      → TurnEnds entry (Ok made) r (series_at s o e f0 o0 e0 t0) (series_at s o e f1 o1 e0 t0)
  turn_written entry made r f0 f1 o0 o1 e0 t0 shown files out writing unfinished finished counts = record {
    called = λ v is.
        let P : Verdict → Type 0 = λ w. VerdictTurned w r (series_at s o e f0 o0 e0 t0) (series_at s o e f1 o1 e0 t0) in
        subst P (sym is) (record {
          shown = λ told. made_shown entry.out made r (shown told);
          files = files;
          finished = finished;
          out = out;
          refused = made_refused entry.out made r t0.refused;
          lines = λ told. made_lines entry.out made r t0.whole (e.written e0);
        });
    writing = made_writing r (s.writing f0) (s.writing f1) writing;
    unfinished = unfinished;
    counts = counts;
    at_most = none_more t0.refused;
    whole = λ start is. is;
    err_faults = as_before (e.faults e0);
  }

  -- ---- the entry is refused
  pub turn_refuses : (entry : EntryNames) (refusal : Refusal) (done : Unit {0}) (f0 : S) (o0 : O) (e0 e1 : E) (t0 t1 : Tally)
      → t1.refused ≡ t0.refused + 1 → (IsTrue e.tells → ReceivesMore t0.whole t1.whole (refusal_line refusal) (e.written e0) (e.written e1))
      → StaysWhole t0.whole t1.whole (e.faults e0) (e.faults e1) → e.faults e0 ≤ e.faults e1
      → TurnEnds {T = Unit {0}} entry (Err (texts.Refused refusal)) (Ok done) (series_at s o e f0 o0 e0 t0) (series_at s o e f0 o0 e1 t1)
  turn_refuses entry refusal done f0 o0 e0 e1 t0 t1 more lines whole later = record {
    called = λ v is.
        let P : Verdict → Type 0 = λ w. VerdictTurned {T = Unit {0}} w (Ok done) (series_at s o e f0 o0 e0 t0) (series_at s o e f0 o0 e1 t1) in
        subst P (sym is) (record {
          shown = λ told. tt;
          files = λ told. refl;
          finished = λ file c. absurd (in_none file c);
          out = λ told. sym (append-nil (o.written o0));
          refused = more;
          lines = lines;
        });
    writing = inl refl;
    unfinished = same_stands (names_for entry) run.Done (s.unfinished f0) (s.unfinished f0) refl;
    counts = record { reads = refl; writes = refl; out = refl };
    at_most = one_more t0.refused t1.refused more;
    whole = whole;
    err_faults = later;
  }

  -- ---- there was no memory for its texts
  pub turn_unmade : (entry : EntryNames) (f0 : S) (o0 : O) (e0 : E) (t0 : Tally)
      → TurnEnds {T = Unit {0}} entry (Err texts.NoMemory) (Err stop.NoMemory) (series_at s o e f0 o0 e0 t0) (series_at s o e f0 o0 e0 t0)
  turn_unmade entry f0 o0 e0 t0 = record {
    called = λ v is. record {
      shown = λ told. tt;
      files = λ told. inl refl;
      finished = tt;
      out = λ told. refl;
      refused = sym (add-zero t0.refused);
      lines = λ told. receives_none t0.whole (e.written e0);
    };
    writing = tt;
    unfinished = same_stands (names_for entry) run.NoMemory (s.unfinished f0) (s.unfinished f0) refl;
    counts = record { reads = refl; writes = refl; out = refl };
    at_most = none_more t0.refused;
    whole = λ start is. is;
    err_faults = as_before (e.faults e0);
  }
