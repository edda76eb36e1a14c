-- What the outcome must be, from what the verdict, the files and the counts show.
use Rattle.std.proofs.Common.{◌≡◌, ◌≢◌, ◌⊎◌, ◌↔◌, inl, inr, ℕ, List, [], ◌∷◌, refl, sym, ap, subst, ◌∙◌, arith, Option, None, Some, Result, Ok, Err, Bool, true, false, IsTrue, ◌+◌, length, nat_lt, if◌then◌else◌, Contains}
use Rattle.std.specs.Str.{bytes_eq}
use Rattle.std.proofs.lemmas.Slice.Eq.{bytes_eq-Decides}
use Rattle.std.proofs.lemmas.List.Elements.{All-contains, Contains-append_right}
use Rattle.std.proofs.lemmas.Bool.{cases_lt}
use Rattle.sgm_io.specs.Held.{Held}
use Rattle.sgm_io.specs.Counts.{Rose}
use Rattle.sgm_energy.specs.declared.dir.Dir.{Dir}
use Rattle.sgm_base.specs.Refining.{Refining}
use Rattle.sgm_words.specs.Operands.{Operands, operands, ChangeOperands, change_operands, MergeOperands, merge_operands, FileNames, of_none, of_match, of_trace, of_change, of_merge, is_plain, is_plain_word, IsOutputName}
use Rattle.sgm_words.specs.declared.usage.UsageFault.{UsageFault}
use Rattle.sgm_words.specs.declared.options.Options.{Options}
use Rattle.sgm_words.specs.declared.options.Options.TheVariants as options
use Rattle.sgm_words.specs.declared.files.Input.{Input}
use Rattle.sgm_words.specs.declared.files.Input.TheVariants as input
use Rattle.sgm_words.specs.declared.files.Output.{Output}
use Rattle.sgm_words.specs.declared.files.Output.TheVariants.{Disparity, Heights, Report, Summary, Difference, Volumes}
use Rattle.sgm_outcome.specs.declared.outcome.Refusal.{Refusal}
use Rattle.sgm_outcome.specs.declared.outcome.Refusal.TheVariants.{TooLong}
use Rattle.sgm_outcome.specs.declared.outcome.Outcome.{Outcome}
use Rattle.sgm_outcome.specs.declared.outcome.Outcome.TheVariants.{Done, Usage, Refused, ReadFault, WriteFault, NoMemory}
use Rattle.sgm_grid.specs.Cells.{Cells}
use Rattle.sgm_grid.specs.declared.grid_spec.GridSpec.{GridSpec}
use Rattle.sgm_stages.specs.Changing.{GridTexts, change_for}
use Rattle.sgm_stages.specs.Merging.{MergePlan, entry_for, merge_texts}
use Rattle.sgm_stages.specs.Readings.{grid_reading}
use Rattle.sgm_stages.specs.Texts.{Texts}
use Rattle.sgm_app.specs.Certificates.{certificate_for}
use Rattle.sgm_stages.specs.Outputs.{OutputFile, IsNamed, files_of, change_files_of, merge_files_of}
use Rattle.sgm_stages.specs.Verdict.{Verdict, usage, absent, refused, files, fetched, calib_fetched, most_bytes, pair_fetched, grids_fetched, merge_fetched, entries_fetched, merged_by, plan_carried_out, plan_of, unless_refused, calib_of, outputs_of, IsFiles}
use Rattle.sgm_app.specs.Verdict.{texts_for, demo_for, demoed}
use Rattle.sgm_app.specs.Calls.{TraceCallsFor, ReadCallsFor}
use Rattle.sgm_stages.specs.Ends.{FilesStand, NoneBefore, order_of, ShownBy, Faults, ReadRose, FileRose, CountsShow, OutCountsShow, RunCounts, run_names, told_by}
use Rattle.sgm_stages.proofs.Alone.{SummaryAlone}
use Rattle.sgm_app.specs.Complete.{NoReadRose, OnlyReadRose, NoWriteRose, IsUnlessMemory, RunComplete, IsNoFileFault, NoneRose}
use Rattle.sgm_stages.proofs.Holding.{Distinct, in_none}
use Rattle.sgm_stages.proofs.FirstAbsent.{IsFirstAbsent, first_absent, first_absent_entry, first_absent_grid, of_a_trace, same_order}
use Rattle.sgm_stages.proofs.Named.{all_named, all_distinct, all_change_named, all_change_distinct, all_merge_named, all_merge_distinct}
use Rattle.sgm_stages.proofs.VerdictLaws.{present_changed}
use Rattle.sgm_app.proofs.VerdictLaws.{present_matched, present_traced}

-- the files of a verdict have the names of their outputs, which differ
pub record IsProper (names : FileNames) (v : Verdict) : Type 0 where
  pub named : (file : OutputFile) → Contains (outputs_of v) file → IsNamed names file
  pub distinct : Distinct (outputs_of v)

proper_none : (names : FileNames) (v : Verdict) → outputs_of v ≡ [] → IsProper names v
proper_none names v none = record {
  named = λ file c. let P : List OutputFile → Type 0 = λ fs. Contains fs file in absurd (in_none file (subst P none c));
  distinct = let P : List OutputFile → Type 0 = λ fs. Distinct fs in subst P (sym none) tt;
}

proper_texts : (asked : Operands) (wanted : Result Texts Refusal) → IsProper (of_match asked) (unless_refused wanted (λ texts. files (files_of asked.out texts) texts.summary))
proper_texts asked (Err refusal) = proper_none (of_match asked) (refused refusal) refl
proper_texts asked (Ok texts) = record {
  named = λ file c. All-contains (IsNamed (of_match asked)) (files_of asked.out texts) file (all_named asked texts) c;
  distinct = all_distinct asked.out texts;
}

proper_grids : (asked : ChangeOperands) (wanted : Result GridTexts Refusal) → IsProper (of_change asked) (unless_refused wanted (λ texts. files (change_files_of asked.out texts) texts.summary))
proper_grids asked (Err refusal) = proper_none (of_change asked) (refused refusal) refl
proper_grids asked (Ok texts) = record {
  named = λ file c. All-contains (IsNamed (of_change asked)) (change_files_of asked.out texts) file (all_change_named asked texts) c;
  distinct = all_change_distinct asked.out texts;
}

proper_merged : (asked : MergeOperands) (listed : Option (List (List ℕ))) (plan : MergePlan) (entries : List Cells) → IsProper (of_merge asked listed) (merged_by asked.out plan entries)
proper_merged asked listed plan entries = record {
  named = λ file c. All-contains (IsNamed (of_merge asked listed)) (merge_files_of asked.out (merge_texts plan entries)) file (all_merge_named asked listed (merge_texts plan entries)) c;
  distinct = all_merge_distinct asked.out (merge_texts plan entries);
}

proper_alone : (names : FileNames) (wanted : Result (List ℕ) Refusal) → IsProper names (unless_refused wanted (λ summary. files [] summary))
proper_alone names (Err refusal) = proper_none names (refused refusal) refl
proper_alone names (Ok summary) = proper_none names (files [] summary) refl

proper_fetched : (names : FileNames) (i : Input) (held : Option (List ℕ)) (next : Verdict) → IsProper names next → IsProper names (fetched i held next)
proper_fetched names i None next later = proper_none names (absent i) refl
proper_fetched names i (Some bytes) next later = elim (nat_lt (most_bytes i) (length bytes)) as (λ t. IsProper names (if t then refused (TooLong i) else next)) [ true ↦ proper_none names (refused (TooLong i)) refl | false ↦ later ]

proper_calib_fetched : (names : FileNames) (plain : Bool) (held : Option (List ℕ)) (next : Verdict) → IsProper names next → IsProper names (calib_fetched plain held next)
proper_calib_fetched names true held next later = later
proper_calib_fetched names false held next later = proper_fetched names input.Calibration held next later

proper_pair : (names : FileNames) (asked : Operands) (held : Held) (next : Verdict) → IsProper names next → IsProper names (pair_fetched asked held next)
unfolding pair_fetched
proper_pair names asked held next later =
    proper_fetched names input.Left (held asked.left) _ (
    proper_fetched names input.Right (held asked.right) _ (
    proper_calib_fetched names (is_plain asked) (held asked.calib) _ later))

proper_changed : (asked : ChangeOperands) (held : Held) (next : Verdict) → IsProper (of_change asked) next → IsProper (of_change asked) (grids_fetched asked held next)
unfolding grids_fetched
proper_changed asked held next later =
    proper_fetched (of_change asked) input.Earlier (held asked.earlier) _ (
    proper_fetched (of_change asked) input.Later (held asked.later) _ later)

proper_unless : {T : Type 0} (names : FileNames) (wanted : Result T Refusal) (next : T → Verdict) → ((x : T) → IsProper names (next x)) → IsProper names (unless_refused wanted next)
proper_unless names (Ok x) next later = later x
proper_unless names (Err refusal) next later = proper_none names (refused refusal) refl

proper_entries : (names : FileNames) (spec : GridSpec) (k : ℕ) (wanted : List (List ℕ)) (held : Held) (next : List Cells → Verdict) → ((entries : List Cells) → IsProper names (next entries))
    → IsProper names (entries_fetched spec k wanted held next)
proper_entries names spec k [] held next later = later []
proper_entries names spec k (name ∷ wanted) held next later =
    proper_fetched names (input.Grid k) (held name) _ (proper_unless names (entry_for spec k (grid_reading (held name))) _ (λ entry.
    proper_entries names spec (k + 1) wanted held (λ entries. next (entry ∷ entries)) (λ entries. later (entry ∷ entries))))

proper_merge : (asked : MergeOperands) (listed : Option (List (List ℕ))) (held : Held) (planned : Result MergePlan Refusal)
    → IsProper (of_merge asked listed) (merge_fetched asked held (plan_carried_out asked.out held planned))
unfolding merge_fetched
proper_merge asked listed held planned =
    proper_fetched (of_merge asked listed) input.List (held asked.list) _ (
    proper_calib_fetched (of_merge asked listed) (is_plain_word asked.calib) (held asked.calib) _ (
    proper_unless (of_merge asked listed) planned _ (λ plan.
    proper_entries (of_merge asked listed) plan.spec 0 plan.names held (merged_by asked.out plan) (proper_merged asked listed plan))))

proper_along : (names : FileNames) (v w : Verdict) → v ≡ w → IsProper names v → IsProper names w
proper_along names v w same is = let P : Verdict → Type 0 = λ x. IsProper names x in subst P same is

proper_by : (options : Options) (words : List (List ℕ)) (told : Option Held) (held : Held) (v : Verdict) → (let read : Result Options UsageFault = Ok options in ReadCallsFor read words held v) → IsProper (run_names options words told) v
proper_by (options.Match strips workers refine) words told held v calls =
    let asked = operands words in
    proper_along (of_match asked) _ v calls.is (proper_pair (of_match asked) asked held _ (proper_texts asked (texts_for calls.readings.left calls.readings.right (calib_of asked calls.readings) refine)))
proper_by (options.Demo number strips workers refine) words told held v calls = proper_along of_none _ v calls (proper_alone of_none (demo_for number refine))
proper_by (options.Trace dir x y d) words told held v calls =
    let asked = operands words in
    proper_along (of_trace asked) _ v calls.is (proper_pair (of_trace asked) asked held _ (proper_alone (of_trace asked) (certificate_for calls.readings.left calls.readings.right (calib_of asked calls.readings) dir x y d)))
proper_by options.Change words told held v calls =
    let asked = change_operands words in
    proper_along (of_change asked) _ v calls (proper_changed asked held _ (proper_grids asked (change_for _ _)))
proper_by options.Merge words told held v calls = proper_along _ _ v calls.is (proper_merge (merge_operands words) _ held (plan_of (merge_operands words) held calls.calib))

pub distinct_verdict : (read : Result Options UsageFault) (words : List (List ℕ)) (held : Held) (v : Verdict) → ReadCallsFor read words held v → Distinct (outputs_of v)
distinct_verdict (Err fault) words held v calls = (proper_along of_none _ v calls (proper_none of_none (usage fault) refl)).distinct
distinct_verdict (Ok options) words held v calls = (proper_by options words None held v calls).distinct

-- an output has one name
one_name : (names : FileNames) (output : Output) (a b : List ℕ) → IsOutputName names output a → IsOutputName names output b → a ≡ b
one_name of_none output a b p q = absurd p
one_name (of_match asked) Disparity a b p q = p ∙ sym q
one_name (of_match asked) Heights a b p q = p ∙ sym q
one_name (of_match asked) Report a b p q = p ∙ sym q
one_name (of_match asked) Summary a b p q = absurd p
one_name (of_match asked) Difference a b p q = absurd p
one_name (of_match asked) Volumes a b p q = absurd p
one_name (of_trace asked) output a b p q = absurd p
one_name (of_change asked) Disparity a b p q = absurd p
one_name (of_change asked) Heights a b p q = absurd p
one_name (of_change asked) Report a b p q = absurd p
one_name (of_change asked) Summary a b p q = absurd p
one_name (of_change asked) Difference a b p q = p ∙ sym q
one_name (of_change asked) Volumes a b p q = p ∙ sym q
one_name (of_merge asked listed) Disparity a b p q = absurd p
one_name (of_merge asked listed) Heights a b p q = p ∙ sym q
one_name (of_merge asked listed) Report a b p q = p ∙ sym q
one_name (of_merge asked listed) Summary a b p q = absurd p
one_name (of_merge asked listed) Difference a b p q = absurd p
one_name (of_merge asked listed) Volumes a b p q = absurd p

-- the summary has none
no_summary_name : (names : FileNames) (name : List ℕ) → IsOutputName names Summary name → ⊥
no_summary_name of_none name is = is
no_summary_name (of_match asked) name is = is
no_summary_name (of_trace asked) name is = is
no_summary_name (of_change asked) name is = is
no_summary_name (of_merge asked listed) name is = is

no_refusal : (v : Verdict) (r : Refusal) → IsFiles v → v ≡ refused r → ⊥
no_refusal (files outputs summary) r is e = absurd (cc)
no_refusal (usage fault) r is e = is
no_refusal (absent i) r is e = is
no_refusal (refused r') r is e = is

no_absent : (v : Verdict) (i : Input) → IsFiles v → v ≡ absent i → ⊥
no_absent (files outputs summary) i is e = absurd (cc)
no_absent (usage fault) i is e = is
no_absent (absent i') i is e = is
no_absent (refused r) i is e = is

-- the file that the run stopped at is one of the verdict's, and its count didn't rise
no_write_fault : (names : FileNames) (v : Verdict) (output : Output) (old new : Held) (before now : Faults) → IsProper names v → FilesStand (WriteFault output) v old new →
    FileRose names output before now → NoWriteRose v before now → ⊥
no_write_fault names v output old new before now proper (inl s) rose writes =
    let P : List OutputFile → Type 0 = λ fs. Contains fs s.file in
    let among : Contains (outputs_of v) s.file = subst P (sym s.split) (Contains-append_right s.before (s.file ∷ s.later) s.file (0, omega arith, refl)) in
    let Q : Output → Type 0 = λ o. IsOutputName names o s.file.name in
    let same : rose.name ≡ s.file.name = one_name names output rose.name s.file.name rose.is_name (subst Q s.is_output (proper.named s.file among)) in
    let R : List ℕ → Type 0 = λ n. Rose (before.writes n) (now.writes n) in
    writes.file s.file among (subst R same rose.writes.rose)
no_write_fault names v output old new before now proper (inr summary) rose writes =
    let P : Output → Type 0 = λ o. IsOutputName names o rose.name in no_summary_name names rose.name (subst P summary.0 rose.is_name)

completes_files : (names : FileNames) (v : Verdict) (outcome : Outcome) (old new : Held) (before now : Faults) → IsProper names v → ShownBy v outcome → FilesStand outcome v old new → CountsShow names outcome before now →
    IsFiles v → NoReadRose names before now → NoWriteRose v before now → IsUnlessMemory outcome Done
completes_files names v Done old new before now proper shown stands counts is reads writes = inl refl
completes_files names v (Usage fault) old new before now proper shown stands counts is reads writes = absurd counts
completes_files names v (Refused refusal) old new before now proper shown stands counts is reads writes = absurd (no_refusal v refusal is shown)
completes_files names v (ReadFault i) old new before now proper shown stands counts is reads writes = absurd (reads i counts.name counts.is_name counts.reads.rose)
completes_files names v (WriteFault output) old new before now proper shown stands (inl rose) is reads writes = absurd (no_write_fault names v output old new before now proper stands rose writes)
completes_files names v (WriteFault output) old new before now proper shown stands (inr out) is reads writes = absurd (writes.out out.1.out)
completes_files names v NoMemory old new before now proper shown stands counts is reads writes = inr refl

completes_refused : (names : FileNames) (v : Verdict) (outcome : Outcome) (before now : Faults) → ShownBy v outcome → CountsShow names outcome before now →
    (r : Refusal) → v ≡ refused r → NoReadRose names before now → IsUnlessMemory outcome (Refused r)
completes_refused names v Done before now shown counts r is reads = absurd (no_refusal v r shown is)
completes_refused names v (Usage fault) before now shown counts r is reads = absurd counts
completes_refused names v (Refused refusal) before now shown counts r is reads = let same : refusal ≡ r = cc in inl (ap (λ (x : Refusal). Refused x) same)
completes_refused names v (ReadFault i) before now shown counts r is reads = absurd (reads i counts.name counts.is_name counts.reads.rose)
completes_refused names v (WriteFault output) before now shown counts r is reads = absurd (no_refusal v r shown is)
completes_refused names v NoMemory before now shown counts r is reads = inr refl

completes_absent : (names : FileNames) (v : Verdict) (outcome : Outcome) (before now : Faults) → ShownBy v outcome → CountsShow names outcome before now →
    (i : Input) → v ≡ absent i → ((at : Input) × (outcome ≡ ReadFault at)) ⊎ (outcome ≡ NoMemory)
completes_absent names v Done before now shown counts i is = absurd (no_absent v i shown is)
completes_absent names v (Usage fault) before now shown counts i is = absurd counts
completes_absent names v (Refused refusal) before now shown counts i is = absurd (cc)
completes_absent names v (ReadFault i') before now shown counts i is = inl (i', refl)
completes_absent names v (WriteFault output) before now shown counts i is = absurd (no_absent v i shown is)
completes_absent names v NoMemory before now shown counts i is = inr refl

-- the absent input of a run is the first that isn't held
first_absent_by : (options : Options) (words : List (List ℕ)) (held : Held) (v : Verdict) (which : Input) → (let read : Result Options UsageFault = Ok options in ReadCallsFor read words held v) → v ≡ absent which
    → IsFirstAbsent (run_names options words (Some held)) held which
first_absent_by (options.Match strips workers refine) words held v which calls is = first_absent (operands words) held _ which (present_matched _ refine _ _ _) (calls.is ∙ is)
first_absent_by (options.Demo number strips workers refine) words held v which calls is = absurd (never_absent (demo_for number refine) which (calls ∙ is))
  where
    never_absent : (wanted : Result (List ℕ) Refusal) (which : Input) → unless_refused wanted (λ summary. files [] summary) ≡ absent which → ⊥
    never_absent (Ok summary) which e = absurd (cc)
    never_absent (Err refusal) which e = absurd (cc)
first_absent_by (options.Trace dir x y d) words held v which calls is = of_a_trace (operands words) held which (first_absent (operands words) held _ which (present_traced dir x y d _ _ _) (calls.is ∙ is))
first_absent_by options.Change words held v which calls is = first_absent_grid (change_operands words) held _ which (present_changed (change_operands words) held) (calls ∙ is)
first_absent_by options.Merge words held v which calls is = first_absent_entry (merge_operands words) held calls.calib which (calls.is ∙ is)

-- both names differ, or they are one
decided : (a b : List ℕ) → (a ≡ b) ⊎ (a ≢ b)
decided a b = elim (bytes_eq a b) as (λ t. bytes_eq a b ≡ t → (a ≡ b) ⊎ (a ≢ b)) [
  | true ↦ λ e. inl ((bytes_eq-Decides a b).0 e)
  | false ↦ λ e. inr (λ same. let t : bytes_eq a b ≡ true = (bytes_eq-Decides a b).1 same in absurd (cc))
] refl

alone_files : (wanted : Result (List ℕ) Refusal) → outputs_of (unless_refused wanted (λ summary. files [] summary)) ≡ []
alone_files (Err refusal) = refl
alone_files (Ok summary) = refl

-- a demo writes no file
pub demo_outputs : (number : ℕ) (refine : Refining) (v : Verdict) → demoed number refine ≡ v → outputs_of v ≡ []
demo_outputs number refine v is = sym (ap (λ (x : Verdict). outputs_of x) is) ∙ alone_files (demo_for number refine)

outputs_fetched : (i : Input) (held : Option (List ℕ)) (next : Verdict) → outputs_of next ≡ [] → outputs_of (fetched i held next) ≡ []
outputs_fetched i None next none = refl
outputs_fetched i (Some bytes) next none = elim (nat_lt (most_bytes i) (length bytes)) as (λ t. outputs_of (if t then refused (TooLong i) else next) ≡ []) [ true ↦ refl | false ↦ none ]

outputs_calib : (plain : Bool) (held : Option (List ℕ)) (next : Verdict) → outputs_of next ≡ [] → outputs_of (calib_fetched plain held next) ≡ []
outputs_calib true held next none = none
outputs_calib false held next none = outputs_fetched input.Calibration held next none

-- a trace writes no file
outputs_traced : (asked : Operands) (held : Held) (next : Verdict) → outputs_of next ≡ [] → outputs_of (pair_fetched asked held next) ≡ []
unfolding pair_fetched
outputs_traced asked held next none =
    outputs_fetched input.Left (held asked.left) _ (outputs_fetched input.Right (held asked.right) _ (outputs_calib (is_plain asked) (held asked.calib) next none))

pub trace_outputs : (asked : Operands) (dir : Dir) (x y d : ℕ) (held : Held) (v : Verdict) → TraceCallsFor asked dir x y d held v → outputs_of v ≡ []
trace_outputs asked dir x y d held v calls =
    sym (ap (λ (w : Verdict). outputs_of w) calls.is)
    ∙ outputs_traced asked held _ (alone_files (certificate_for calls.readings.left calls.readings.right (calib_of asked calls.readings) dir x y d))

pub summary_alone : (outcome : Outcome) (before now : Faults) → OutCountsShow outcome before now → SummaryAlone outcome
summary_alone Done before now counts = tt
summary_alone (Usage fault) before now counts = tt
summary_alone (Refused refusal) before now counts = tt
summary_alone (ReadFault i) before now counts = tt
summary_alone (WriteFault output) before now counts = counts.0
summary_alone NoMemory before now counts = tt

-- the counts of a run that reads and writes no file show its outcome, whatever the names
pub out_counts : (names : FileNames) (outcome : Outcome) (before now : Faults) → OutCountsShow outcome before now → CountsShow names outcome before now
out_counts names Done before now counts = counts
out_counts names (Usage fault) before now counts = counts
out_counts names (Refused refusal) before now counts = counts
out_counts names (ReadFault i) before now counts = absurd counts
out_counts names (WriteFault output) before now counts = inr counts
out_counts names NoMemory before now counts = counts

-- the input whose count rose is the absent one
at_other : (names : FileNames) (held : Held) (v : Verdict) (i at : Input) (before now : Faults) → NoneBefore (order_of at) v → ReadRose names at before now → v ≡ absent i → IsFirstAbsent names held i → OnlyReadRose names i before now → at ≡ i
at_other names held v i at before now shown rose is first only = elim (decided rose.name first.asks.0) [
  | inl same ↦ same_order at i (elim (cases_lt (order_of at) (order_of i)) [
    | inl lt ↦ absurd (first.some at rose.name lt rose.is_name (ap (λ (n : List ℕ). held n) same ∙ first.none first.asks.0 first.asks.1))
    | inr ge ↦ elim (cases_lt (order_of i) (order_of at)) [
      | inl lt ↦ absurd (shown.present i lt is)
      | inr le ↦ omega arith
    ]
  ])
  | inr other ↦ absurd (only at first.asks.0 rose.name first.asks.1 rose.is_name other rose.reads.rose)
]

completes_only : (names : FileNames) (held : Held) (v : Verdict) (outcome : Outcome) (before now : Faults) → ((i : Input) → v ≡ absent i → IsFirstAbsent names held i) → ShownBy v outcome → CountsShow names outcome before now →
    (i : Input) → v ≡ absent i → OnlyReadRose names i before now → IsUnlessMemory outcome (ReadFault i)
completes_only names held v Done before now first shown counts i is only = absurd (no_absent v i shown is)
completes_only names held v (Usage fault) before now first shown counts i is only = absurd counts
completes_only names held v (Refused refusal) before now first shown counts i is only = absurd (cc)
completes_only names held v (ReadFault at) before now first shown counts i is only = inl (ap (λ (x : Input). ReadFault x) (at_other names held v i at before now shown counts is (first i is) only))
completes_only names held v (WriteFault output) before now first shown counts i is only = absurd (no_absent v i shown is)
completes_only names held v NoMemory before now first shown counts i is only = inr refl

-- over the words
pub completes_run : (read : Result Options UsageFault) (words : List (List ℕ)) (told : Option Held) (held new : Held) (v : Verdict) (outcome : Outcome) (before now : Faults) → told ≡ Some held → ReadCallsFor read words held v → ShownBy v outcome → FilesStand outcome v held new
    → RunCounts read words told outcome before now → RunComplete read words told v outcome before now
completes_run (Err fault) words told held new v outcome before now is_told calls shown stands counts = tt
completes_run (Ok options) words told held new v outcome before now is_told calls shown stands counts = record {
  files = completes_files (run_names options words told) v outcome held new before now (proper_by options words told held v calls) shown stands counts;
  refused_for = completes_refused (run_names options words told) v outcome before now shown counts;
  absent_one = completes_absent (run_names options words told) v outcome before now shown counts;
  absent_only = completes_only (run_names options words told) held v outcome before now (λ i is.
      let P : Option Held → Type 0 = λ t. IsFirstAbsent (run_names options words t) held i in
      subst P (sym is_told) (first_absent_by options words held v i calls is)) shown counts;
}

-- a shelf that tells what is held
pub is_told : (tells : Bool) (held : Held) → IsTrue tells → told_by tells held ≡ Some held
is_told true held tells = refl
is_told false held tells = absurd (cc)

-- where no count of the shelf rose there is no fault of a file
names_no_file : (names : FileNames) (outcome : Outcome) (before now : Faults) → NoneRose before.reads now.reads → NoneRose before.writes now.writes → CountsShow names outcome before now → IsNoFileFault outcome
names_no_file names Done before now reads writes counts = tt
names_no_file names (Usage fault) before now reads writes counts = tt
names_no_file names (Refused refusal) before now reads writes counts = tt
names_no_file names (ReadFault i) before now reads writes counts = reads counts.name counts.reads.rose
names_no_file names (WriteFault output) before now reads writes (inl rose) = absurd (writes rose.name rose.writes.rose)
names_no_file names (WriteFault output) before now reads writes (inr out) = out.0
names_no_file names NoMemory before now reads writes counts = tt

usage_no_file : (fault : UsageFault) (outcome : Outcome) → outcome ≡ Usage fault → IsNoFileFault outcome
usage_no_file fault outcome e = let P : Outcome → Type 0 = λ o. IsNoFileFault o in subst P (sym e) tt

pub no_file_fault : (read : Result Options UsageFault) (words : List (List ℕ)) (told : Option Held) (outcome : Outcome) (before now : Faults) → NoneRose before.reads now.reads → NoneRose before.writes now.writes → RunCounts read words told outcome before now → IsNoFileFault outcome
no_file_fault (Err fault) words told outcome before now reads writes counts = usage_no_file fault outcome counts.0
no_file_fault (Ok options) words told outcome before now reads writes counts = names_no_file (run_names options words told) outcome before now reads writes counts

-- a fault of the words is the outcome exactly where the words have it
never_usage : (names : FileNames) (outcome : Outcome) (fault : UsageFault) (before now : Faults) → CountsShow names outcome before now → outcome ≡ Usage fault → ⊥
never_usage names outcome fault before now counts is = let P : Outcome → Type 0 = λ o. CountsShow names o before now in subst P is counts

pub usage_by : (read : Result Options UsageFault) (words : List (List ℕ)) (told : Option Held) (outcome : Outcome) (before now : Faults) → RunCounts read words told outcome before now
    → (fault : UsageFault) → (outcome ≡ Usage fault) ↔ (read ≡ Err fault)
usage_by (Err other) words told outcome before now counts fault = (
  λ is. let same : other ≡ fault = cc (counts.0) in ap (λ (f : UsageFault). let read : Result Options UsageFault = Err f in read) same,
  λ is. let same : other ≡ fault = cc in counts.0 ∙ ap (λ (f : UsageFault). Usage f) same,
)
usage_by (Ok options) words told outcome before now counts fault =
    (λ is. absurd (never_usage (run_names options words told) outcome fault before now counts is), λ is. absurd (cc))
