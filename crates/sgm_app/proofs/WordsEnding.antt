-- How a run ends over its words, and what follows of it.
use Rattle.std.proofs.Common.{◌≡◌, ◌∙◌, refl, sym, ap, subst, ℕ, List, Option, IsTrue, Result, Ok, Err}
use Rattle.sgm_io.specs.Held.{Held}
use Rattle.sgm_io.specs.Unfinished.{NameSet}
use Rattle.sgm_words.specs.Operands.{MergeOperands, of_merge}
use Rattle.sgm_words.specs.declared.options.Options.{Options}
use Rattle.sgm_words.specs.declared.options.Options.TheVariants as options
use Rattle.sgm_words.specs.declared.usage.UsageFault.{UsageFault}
use Rattle.sgm_outcome.specs.declared.outcome.Outcome.{Outcome}
use Rattle.sgm_outcome.specs.declared.outcome.Outcome.TheVariants as outcome
use Rattle.sgm_app.specs.Calls.{ReadCallsFor}
use Rattle.sgm_stages.specs.Ends.{OutUntouched, RunCounts, RunWriting, run_names}
use Rattle.sgm_stages.specs.Moments.{Moment, told_at}
use Rattle.sgm_stages.specs.RunEnds.{RunEnds, VerdictEnds}
use Rattle.sgm_app.specs.RunEnds.{OptionsCallFor, WordsEnd}
use Rattle.sgm_stages.specs.Unfinished.{LeavesUnfinished, RunUnfinished, UnfinishedStands}
use Rattle.sgm_stages.specs.Verdict.{Verdict, usage}
use Rattle.sgm_stages.proofs.Ending.{same_faults}

-- ---- from the end of a command

-- the words are read so
pub read_so : (read given : Result Options UsageFault) (one other : Options)
    → given ≡ read → given ≡ Ok one → one ≡ other → read ≡ Ok other
read_so read given one other exact is same =
    sym exact ∙ is ∙ ap (λ (o : Options). let r : Result Options UsageFault = Ok o in r) same

pub words_end : (words : List (List ℕ)) (read : Result Options UsageFault) (options : Options)
    (CallsFor : Held → Verdict → Type 0) (outcome : Outcome) (before now : Moment)
    → read ≡ Ok options
    → ((v : Verdict) → OptionsCallFor options words before.held v → CallsFor before.held v)
    → RunEnds (run_names options words (told_at before)) CallsFor outcome before now
    → WordsEnd read words outcome before now
words_end words read options CallsFor outcome before now is calls_so ends =
    let P : Result Options UsageFault → Type 0 = λ r. WordsEnd r words outcome before now in
    subst P (sym is) (record {
      called = λ told v calls. ends.called told v (calls_so v calls);
      writing = ends.writing;
      unfinished = ends.unfinished;
      untouched = ends.untouched;
      counts = ends.counts;
    })

pub words_fault : (words : List (List ℕ)) (read : Result Options UsageFault) (fault : UsageFault)
    (at : Moment) → read ≡ Err fault → WordsEnd read words (outcome.Usage fault) at at
words_fault words read fault at is =
    let P : Result Options UsageFault → Type 0 = λ r. WordsEnd r words (outcome.Usage fault) at at in
    subst P (sym is) (refl, refl)

-- ---- to what each clause says

usage_ends : (v : Verdict) (fault : UsageFault) (at : Moment) → usage fault ≡ v
    → VerdictEnds v (outcome.Usage fault) at at
usage_ends v fault at calls = record {
  cause = sym calls;
  files = refl;
  finished = λ done. absurd (cc);
  out = λ told. refl;
}

-- a fault of the words ends a run as it began
along_fault : (P : Outcome → Moment → Type 0) (fault : UsageFault) (end : Outcome) (before now : Moment)
    → (end ≡ outcome.Usage fault) × (now ≡ before) → P (outcome.Usage fault) before → P end now
along_fault P fault end before now ends is =
    let Q : Moment → Type 0 = λ m. P (outcome.Usage fault) m in
    let R : Outcome → Type 0 = λ o. P o now in
    subst R (sym ends.0) (subst Q (sym ends.1) is)

pub end_called : (read : Result Options UsageFault) (words : List (List ℕ)) (end : Outcome)
    (before now : Moment) → WordsEnd read words end before now → IsTrue before.tells
    → (v : Verdict) → ReadCallsFor read words before.held v → VerdictEnds v end before now
end_called (Err fault) words end before now ends told v calls =
    along_fault (λ o m. VerdictEnds v o before m) fault end before now ends (usage_ends v fault before calls)
end_called (Ok options) words end before now ends told v calls = ends.called told v calls

pub end_writing : (read : Result Options UsageFault) (words : List (List ℕ)) (end : Outcome)
    (before now : Moment) → WordsEnd read words end before now
    → RunWriting read words end before.writing now.writing
end_writing (Err fault) words end before now ends = ap (λ (m : Moment). m.writing) ends.1
end_writing (Ok (options.Match strips workers refine)) words end before now ends = ends.writing
end_writing (Ok (options.Demo number strips workers refine)) words end before now ends = ends.writing
end_writing (Ok (options.Trace dir x y d)) words end before now ends = ends.writing
end_writing (Ok options.Change) words end before now ends = ends.writing
end_writing (Ok options.Merge) words end before now ends = ends.writing

-- the names of a merge's outputs don't hang on its list
left_unlisted : (asked : MergeOperands) (one other : Option (List (List ℕ)))
    (IsLeft : List ℕ → Type 0) (old new : NameSet)
    → LeavesUnfinished (of_merge asked one) IsLeft old new
    → LeavesUnfinished (of_merge asked other) IsLeft old new
left_unlisted asked one other IsLeft old new left =
    record { no_more = left.no_more; others = left.others }

unlisted : (asked : MergeOperands) (one other : Option (List (List ℕ))) (end : Outcome)
    (old new : NameSet) → UnfinishedStands (of_merge asked one) end old new
    → UnfinishedStands (of_merge asked other) end old new
unlisted asked one other outcome.Done old new left = left_unlisted asked one other _ old new left
unlisted asked one other (outcome.Usage fault) old new same = same
unlisted asked one other (outcome.Refused refusal) old new same = same
unlisted asked one other (outcome.ReadFault input) old new same = same
unlisted asked one other (outcome.WriteFault output) old new left =
    record { no_more = left.no_more; others = left.others }
unlisted asked one other outcome.NoMemory old new left =
    record { no_more = left.no_more; others = left.others }

pub end_unfinished : (read : Result Options UsageFault) (words : List (List ℕ)) (end : Outcome)
    (before now : Moment) → WordsEnd read words end before now
    → RunUnfinished read words end before.unfinished now.unfinished
end_unfinished (Err fault) words end before now ends = ap (λ (m : Moment). m.unfinished) ends.1
end_unfinished (Ok (options.Match strips workers refine)) words end before now ends = ends.unfinished
end_unfinished (Ok (options.Demo number strips workers refine)) words end before now ends =
    ends.unfinished
end_unfinished (Ok (options.Trace dir x y d)) words end before now ends = ends.unfinished
end_unfinished (Ok options.Change) words end before now ends = ends.unfinished
end_unfinished (Ok options.Merge) words end before now ends =
    unlisted _ _ _ end before.unfinished now.unfinished ends.unfinished

pub end_untouched : (read : Result Options UsageFault) (words : List (List ℕ)) (end : Outcome)
    (before now : Moment) → WordsEnd read words end before now → IsTrue before.out_tells
    → OutUntouched end before.written now.written
end_untouched (Err fault) words end before now ends told =
    along_fault (λ o m. OutUntouched o before.written m.written) fault end before now ends refl
end_untouched (Ok options) words end before now ends told = ends.untouched told

pub end_counts : (read : Result Options UsageFault) (words : List (List ℕ)) (end : Outcome)
    (before now : Moment) → WordsEnd read words end before now
    → RunCounts read words (told_at before) end before.faults now.faults
end_counts (Err fault) words end before now ends =
    (ends.0, same_faults before.faults now.faults (ap (λ (m : Moment). m.faults) ends.1))
end_counts (Ok options) words end before now ends = ends.counts
