-- The files of the turns, written one after the other, hold their texts: no two of them have one name.
use Rattle.std.proofs.Common.{◌≡◌, ◌≢◌, ℕ, zero, suc, ◌<◌, List, [], ◌∷◌, ◌++◌, take, length, Bool, false, ◌||◌, Some, None, refl, sym, ap, subst, ◌∙◌, arith, append_assoc, Contains}
use Rattle.std.specs.Prelude.{slice_get}
use Rattle.sgm_io.specs.Held.{Held, put}
use Rattle.sgm_outcome.specs.declared.outcome.Outcome.{Outcome}
use Rattle.sgm_list.specs.Entries.{EntryNames}
use Rattle.sgm_list.specs.Clashes.{first_clash}
use Rattle.sgm_stages.specs.Outputs.{OutputFile, is_named}
use Rattle.sgm_stages.specs.Verdict.{Verdict, outputs_of}
use Rattle.sgm_stages.specs.Deliver.{after_files, FilesPut}
use Rattle.sgm_stages.specs.Ends.{FilesStand}
use Rattle.sgm_stages.proofs.Holding.{Distinct, hold, stand, named-append, or_left}
use Rattle.sgm_series.specs.Plans.{EntryCallsFor, AreVerdicts}
use Rattle.sgm_series.specs.Turns.{files_for}
use Rattle.sgm_series.specs.Ends.{HoldTurns, HoldStop}
use Rattle.sgm_series.proofs.Places.{in_flat}
use Rattle.sgm_series.proofs.NoClash.{outs_differ}
use Rattle.sgm_series.proofs.Proper.{proper, ended, IsEnded, one_out}
use Rattle.sgm_series.proofs.Keeping.{entry_of_verdict, unnamed}

-- no two entries have one OUT
abbrev pub OutsDiffer : List EntryNames → Type 0
OutsDiffer entries = (one other : ℕ) (a b : EntryNames) → slice_get entries one ≡ Some a → slice_get entries other ≡ Some b → one < other → a.out ≢ b.out

-- files of which the first have no name of the others
distinct-append : (xs ys : List OutputFile) → Distinct xs → Distinct ys → ((file : OutputFile) → Contains xs file → is_named ys file.name ≡ false) → Distinct (xs ++ ys)
distinct-append [] ys here later apart = later
distinct-append (x ∷ xs) ys here later apart = (
  named-append xs ys x.name ∙ ap (λ (b : Bool). b || is_named ys x.name) here.0 ∙ apart x (0, omega arith, refl),
  distinct-append xs ys here.1 later (λ file c. let within = c.1 in apart file (suc c.0, omega (arith, within), c.2)),
)

abbrev pub Each : List EntryNames → Held → List Verdict → Type 0
Each entries held verdicts = (place : ℕ) (entry : EntryNames) (v : Verdict) → slice_get entries place ≡ Some entry → slice_get verdicts place ≡ Some v → EntryCallsFor entry held v

distinct_files : (entries : List EntryNames) (held : Held) (verdicts : List Verdict) → length verdicts ≡ length entries → Each entries held verdicts → OutsDiffer entries → Distinct (files_for verdicts)
distinct_files [] held [] count each outs = tt
distinct_files [] held (v ∷ verdicts) count each outs = absurd (omega (arith, count))
distinct_files (entry ∷ entries) held [] count each outs = tt
distinct_files (entry ∷ entries) held (v ∷ verdicts) count each outs =
    let here = proper entry held v (each 0 entry v refl refl) in
    distinct-append (outputs_of v) (files_for verdicts) here.distinct
    (distinct_files entries held verdicts (omega (arith, count)) (λ place e w at of. each (suc place) e w at of) (λ one other a b at_one at_other lt. outs (suc one) (suc other) a b at_one at_other (omega (arith, lt))))
    (λ file c. unnamed (files_for verdicts) file.name (λ other d same.
    let found = in_flat outputs_of verdicts other d in
    let theirs = entry_of_verdict entries verdicts found.0 found.1 (omega (arith, count)) found.2 in
    let there = proper theirs.0 held found.1 (each (suc found.0) theirs.0 found.1 theirs.1 found.2) in
    let P : List ℕ → Type 0 = λ x. IsEnded theirs.0.out x in
    outs 0 (suc found.0) entry theirs.0 refl theirs.1 (omega arith)
    (one_out entry.out theirs.0.out file.name (ended entry file.output file.name (here.named file c)) (subst P (sym same) (ended theirs.0 other.output other.name (there.named other found.3))))))

distinct_before : (before more : List OutputFile) → Distinct (before ++ more) → Distinct before
distinct_before [] more d = tt
distinct_before (x ∷ before) more d = (or_left (is_named before x.name) (is_named more x.name) (sym (named-append before more x.name) ∙ d.0), distinct_before before more d.1)

-- the files of the first verdicts are the first of all
files_split : (n : ℕ) (verdicts : List Verdict) → (more : List OutputFile) × (files_for verdicts ≡ files_for (take n verdicts) ++ more)
files_split zero verdicts = (files_for verdicts, refl)
files_split (suc n) [] = ([], refl)
files_split (suc n) (v ∷ verdicts) =
    let rest = files_split n verdicts in
    (rest.0, ap (λ (fs : List OutputFile). outputs_of v ++ fs) rest.1 ∙ sym (append_assoc (outputs_of v) (files_for (take n verdicts)) rest.0))

-- files written one after the other, and then more
pub after-append : (xs ys : List OutputFile) (held : Held) → after_files (xs ++ ys) held ≡ after_files ys (after_files xs held)
after-append [] ys held = refl
after-append (x ∷ xs) ys held = after-append xs ys (put x.name x.text held)

module _ (list : List ℕ) (entries : List EntryNames) (none : first_clash list entries ≡ None) (held : Held) (verdicts : List Verdict) (are : AreVerdicts entries held verdicts) where
  pub distinct_turns : (n : ℕ) → Distinct (files_for (take n verdicts))
  distinct_turns n =
      let split = files_split n verdicts in
      let P : List OutputFile → Type 0 = λ fs. Distinct fs in
      distinct_before (files_for (take n verdicts)) split.0 (subst P split.1 (distinct_files entries held verdicts are.count are.each (outs_differ list entries none)))

  -- the turns of the first n entries
  pub hold_turns : (n : ℕ) (old new : Held) → new ≡ after_files (files_for (take n verdicts)) old → HoldTurns n verdicts old new
  hold_turns n old new is = hold (files_for (take n verdicts)) old new (distinct_turns n) is

  -- those, and a turn that ended so
  pub hold_stop : (n : ℕ) (outcome : Outcome) (v : Verdict) (old new : Held) → slice_get verdicts n ≡ Some v → FilesPut outcome v (after_files (files_for (take n verdicts)) old) new
      → HoldStop n verdicts (FilesStand outcome) old new
  hold_stop n outcome v old new at is =
      let between = after_files (files_for (take n verdicts)) old in
      let entry = entry_of_verdict entries verdicts n v are.count at in
      let distinct = (proper entry.0 held v (are.each n entry.0 v entry.1 at)).distinct in
      (between, hold_turns n old between refl, (v, at, stand outcome v between new distinct is))
