-- How a run ends, by its last stage.
use Rattle.std.proofs.Common.{◌≡◌, ◌∙◌, refl, sym, ap, subst, ℕ, List, [], Option, IsTrue, All}
use Rattle.sgm_io.specs.Counts.{Counts}
use Rattle.sgm_io.specs.Held.{Held}
use Rattle.sgm_io.specs.Unfinished.{NameSet}
use Rattle.sgm_io.specs.declared.shelf.Shelf as shelf
use Rattle.sgm_io.specs.declared.sink.Sink as sink
use Rattle.sgm_words.specs.Operands.{FileNames, of_none, of_match, of_trace, of_change, of_merge}
use Rattle.sgm_outcome.specs.declared.outcome.Outcome.{Outcome}
use Rattle.sgm_outcome.specs.declared.outcome.Outcome.TheVariants.{Done, NoMemory}
use Rattle.sgm_stages.specs.Deliver.{FilesPut, IsDeliveryEnd}
use Rattle.sgm_stages.specs.Ends.{CountsShow, Faults, OutStands, OutUntouched, SameFaults, ShownBy}
use Rattle.sgm_stages.specs.Ends.{WritingEnds, faults, faults_at}
use Rattle.sgm_stages.specs.Entries.{IsEarly}
use Rattle.sgm_stages.specs.Moments.{Keeps, Moment, moment}
use Rattle.sgm_stages.specs.Outputs.{IsNamed, OutputFile}
use Rattle.sgm_stages.specs.RunEnds.{RunEnds}
use Rattle.sgm_stages.specs.Stops.{fetch_outcome, texts_outcome}
use Rattle.sgm_stages.specs.Unfinished.{AreFinished, UnfinishedStands}
use Rattle.sgm_stages.specs.Verdict.{Verdict, files, outputs_of}
use Rattle.sgm_stages.specs.declared.stops.FetchStop.{FetchStop}
use Rattle.sgm_stages.specs.declared.stops.TextsError.{TextsError}
use Rattle.sgm_stages.proofs.Alone.{SummaryAlone, none_put}
use Rattle.sgm_stages.proofs.Counting.{texts_counts}
use Rattle.sgm_stages.proofs.Delivering.{delivery_shown, finished_along, out_along, put_along}
use Rattle.sgm_stages.proofs.Delivering.{untouched_by}
use Rattle.sgm_stages.proofs.Early.{early_not_done, early_out, early_put, early_untouched, early_writing}
use Rattle.sgm_stages.proofs.Early.{fetch_early, texts_early}
use Rattle.sgm_stages.proofs.Finishing.{none_finished, same_stands}
use Rattle.sgm_stages.proofs.Steps.{shown_along}

-- ---- stages before the last

-- all but the counts of faults is as it was
pub record IsUnchanged (before now : Moment) : Type 0 where
  pub held : IsTrue before.tells → now.held ≡ before.held
  pub writing : now.writing ≡ before.writing
  pub unfinished : now.unfinished ≡ before.unfinished
  pub written : now.written ≡ before.written

pub unchanged : {S O : Type 0} (s : shelf.Ghosts S) (o : sink.Ghosts O) (old new : S) (out : O)
    → Keeps s old new → IsUnchanged (moment s o old out) (moment s o new out)
unchanged s o old new out kept = record {
  held = kept.held;
  writing = kept.writing;
  unfinished = kept.unfinished;
  written = refl;
}

pub keeps_both : {S : Type 0} (s : shelf.Ghosts S) (old between new : S)
    → Keeps s old between → Keeps s between new → Keeps s old new
keeps_both s old between new first second = record {
  held = λ told. second.held told ∙ first.held told;
  writing = second.writing ∙ first.writing;
  unfinished = second.unfinished ∙ first.unfinished;
}

-- a stage that answered Ok has counted nothing
pub uncounted : {S O : Type 0} (s : shelf.Ghosts S) (o : sink.Ghosts O) (old new : S) (out : O)
    → (s.read_faults new ≡ s.read_faults old) × (s.write_faults new ≡ s.write_faults old)
    → faults_at s o new out ≡ faults_at s o old out
uncounted s o old new out kept =
    ap (λ (r : Counts). faults r (s.write_faults new) (o.faults out)) kept.0
    ∙ ap (λ (w : Counts). faults (s.read_faults old) w (o.faults out)) kept.1

pub same_faults : (before now : Faults) → now ≡ before → SameFaults before now
same_faults before now same = record {
  reads = ap (λ (f : Faults). f.reads) same;
  writes = ap (λ (f : Faults). f.writes) same;
  out = ap (λ (f : Faults). f.out) same;
}

-- ---- a run that ends before it writes

writing_early : (names : FileNames) (outcome : Outcome) (old new : Option (List ℕ)) → IsEarly outcome
    → new ≡ old → WritingEnds names outcome old new
writing_early of_none outcome old new early same = same
writing_early (of_trace asked) outcome old new early same = same
writing_early (of_match asked) outcome old new early same = early_writing outcome old new early same
writing_early (of_change asked) outcome old new early same = early_writing outcome old new early same
writing_early (of_merge asked listed) outcome old new early same =
    early_writing outcome old new early same

pub ends_early : (names : FileNames) (CallsFor : Held → Verdict → Type 0) (outcome : Outcome)
    (before now : Moment) → IsEarly outcome → IsUnchanged before now
    → (IsTrue before.tells → (v : Verdict) → CallsFor before.held v → ShownBy v outcome)
    → CountsShow names outcome before.faults now.faults → RunEnds names CallsFor outcome before now
ends_early names CallsFor outcome before now early same shown counts = record {
  called = λ told v calls. record {
    cause = shown told v calls;
    files = early_put outcome v before.held now.held early (same.held told);
    finished = λ done. absurd (early_not_done outcome early done);
    out = λ told_out. early_out outcome v before.written now.written early same.written;
  };
  writing = writing_early names outcome before.writing now.writing early same.writing;
  unfinished = same_stands names outcome before.unfinished now.unfinished same.unfinished;
  untouched = λ told. early_untouched outcome before.written now.written early same.written;
  counts = counts;
}

-- an input wasn't fetched
pub ends_unfetched : (names : FileNames) (CallsFor : Held → Verdict → Type 0) (stop : FetchStop)
    (before now : Moment) → IsUnchanged before now
    → (IsTrue before.tells → (v : Verdict) → CallsFor before.held v → ShownBy v (fetch_outcome stop))
    → CountsShow names (fetch_outcome stop) before.faults now.faults
    → RunEnds names CallsFor (fetch_outcome stop) before now
ends_unfetched names CallsFor stop before now same shown counts =
    ends_early names CallsFor (fetch_outcome stop) before now (fetch_early stop) same shown counts

-- no texts were made
pub ends_textless : (names : FileNames) (CallsFor : Held → Verdict → Type 0) (stop : TextsError)
    (before now : Moment) → IsUnchanged before now → now.faults ≡ before.faults
    → (IsTrue before.tells → (v : Verdict) → CallsFor before.held v → ShownBy v (texts_outcome stop))
    → RunEnds names CallsFor (texts_outcome stop) before now
ends_textless names CallsFor stop before now same counted shown =
    ends_early names CallsFor (texts_outcome stop) before now (texts_early stop) same shown
    (texts_counts names stop before.faults now.faults (same_faults before.faults now.faults counted))

-- there was no memory for the names
pub ends_unnamed : (names : FileNames) (CallsFor : Held → Verdict → Type 0) (before now : Moment)
    → IsUnchanged before now → now.faults ≡ before.faults → RunEnds names CallsFor NoMemory before now
ends_unnamed names CallsFor before now same counted =
    ends_early names CallsFor NoMemory before now tt same (λ told v calls. tt)
    (same_faults before.faults now.faults counted)

-- ---- a run that writes

-- the summary alone was written, and no file is called for
pub ends_alone : (names : FileNames) (CallsFor : Held → Verdict → Type 0) (outcome : Outcome)
    (before now : Moment) → (IsTrue before.tells → now.held ≡ before.held)
    → WritingEnds names outcome before.writing now.writing → now.unfinished ≡ before.unfinished
    → ((v : Verdict) → CallsFor before.held v → outputs_of v ≡ []) → SummaryAlone outcome
    → (IsTrue before.tells → (v : Verdict) → CallsFor before.held v → ShownBy v outcome)
    → (IsTrue before.tells → IsTrue before.out_tells → (v : Verdict) → CallsFor before.held v
    → OutStands outcome v before.written now.written)
    → (IsTrue before.out_tells → OutUntouched outcome before.written now.written)
    → CountsShow names outcome before.faults now.faults → RunEnds names CallsFor outcome before now
ends_alone names CallsFor outcome before now held writing same none alone shown out untouched counts = record {
  called = λ told v calls. record {
    cause = shown told v calls;
    files = let P : Held → Type 0 = λ h. FilesPut outcome v before.held h in
        subst P (sym (held told)) (none_put v outcome before.held (none v calls) alone);
    finished = λ done. none_finished v now.unfinished (none v calls);
    out = λ told_out. out told told_out v calls;
  };
  writing = writing;
  unfinished = same_stands names outcome before.unfinished now.unfinished same;
  untouched = untouched;
  counts = counts;
}

-- these files and this summary were delivered
pub ends_delivered : (names : FileNames) (CallsFor : Held → Verdict → Type 0) (outcome : Outcome)
    (outputs : List OutputFile) (summary : List ℕ) (before between now : Moment)
    → IsUnchanged before between → between.faults ≡ before.faults
    → (IsTrue before.tells → (v : Verdict) → CallsFor before.held v → files outputs summary ≡ v)
    → All (IsNamed names) outputs
    → IsDeliveryEnd outcome
    → (IsTrue before.tells → FilesPut outcome (files outputs summary) between.held now.held)
    → (IsTrue before.out_tells → OutStands outcome (files outputs summary) between.written now.written)
    → WritingEnds names outcome between.writing now.writing
    → ((n : FileNames) → All (IsNamed n) outputs
    → UnfinishedStands n outcome between.unfinished now.unfinished)
    → (outcome ≡ Done → AreFinished outputs now.unfinished)
    → ((n : FileNames) → All (IsNamed n) outputs → CountsShow n outcome between.faults now.faults)
    → RunEnds names CallsFor outcome before now
ends_delivered names CallsFor outcome outputs summary before between now same counted is named
    end put out writing unfinished finished counts = record {
      called = λ told v calls. record {
        cause = shown_along v wanted outcome (sym (is told v calls)) (delivery_shown outputs summary outcome end);
        files = put_along outcome v wanted before.held between.held now.held
            (is told v calls) (same.held told) (put told);
        finished = λ done. finished_along v wanted now.unfinished (is told v calls) (finished done);
        out = λ told_out. let P : List ℕ → Type 0 = λ w. OutStands outcome wanted w now.written in
            out_along outcome v wanted before.written now.written (is told v calls)
            (subst P same.written (out told_out));
      };
      writing = let P : Option (List ℕ) → Type 0 = λ w. WritingEnds names outcome w now.writing in
          subst P same.writing writing;
      unfinished = let P : NameSet → Type 0 = λ u. UnfinishedStands names outcome u now.unfinished in
          subst P same.unfinished (unfinished names named);
      untouched = λ told_out. let P : List ℕ → Type 0 = λ w. OutUntouched outcome w now.written in
          subst P same.written (untouched_by outcome wanted between.written now.written (out told_out));
      counts = let P : Faults → Type 0 = λ f. CountsShow names outcome f now.faults in
          subst P counted (counts names named);
    } where
      wanted : Verdict
      wanted = files outputs summary
