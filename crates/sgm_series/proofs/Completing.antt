-- What the outcome must be, from what the plan and the counts show.
use Rattle.std.proofs.Common.{◌≡◌, ◌≢◌, ◌⊎◌, inl, inr, ℕ, zero, suc, ◌<◌, List, [], ◌∷◌, length, take, nat_lt, if◌then◌else◌, Bool, true, false, Option, Some, None, Result, Ok, Err, refl, sym, ap, subst, ◌∙◌, arith, Contains, All}
use Rattle.std.specs.Prelude.{slice_get, count_by, ⊤}
use Rattle.std.proofs.lemmas.Option.{get_or_from_slice_get}
use Rattle.std.proofs.lemmas.Bool.{cases_lt}
use Rattle.std.proofs.lemmas.List.Elements.{Contains-append_left, Contains-append_right}
use Rattle.sgm_io.specs.Held.{Held}
use Rattle.sgm_io.specs.Counts.{Rose}
use Rattle.sgm_base.specs.Refining.{plain}
use Rattle.sgm_words.specs.Operands.{Operands, IsPairInput, IsInputName, IsOutputName}
use Rattle.sgm_words.specs.declared.files.Input.{Input}
use Rattle.sgm_words.specs.declared.files.Input.TheVariants as input
use Rattle.sgm_words.specs.declared.files.Output.{Output}
use Rattle.sgm_words.specs.declared.files.Output.TheVariants.{Disparity, Heights, Report, Summary, Difference, Volumes}
use Rattle.sgm_outcome.specs.declared.outcome.Refusal.TheVariants.{TooLong}
use Rattle.sgm_outcome.specs.declared.outcome.Outcome.TheVariants as run
use Rattle.sgm_list.specs.Entries.{EntryNames}
use Rattle.sgm_stages.specs.Outputs.{OutputFile}
use Rattle.sgm_stages.specs.Verdict.{Verdict, IsFiles, usage, absent, refused, files, fetched, calib_fetched, most_bytes, pair_fetched, outputs_of}
use Rattle.sgm_stages.specs.Ends.{Faults, NoneBefore, order_of}
use Rattle.sgm_stages.proofs.FirstAbsent.{first_absent}
use Rattle.sgm_app.proofs.VerdictLaws.{present_matched}
use Rattle.sgm_series.specs.Words.{ListWords, series_words}
use Rattle.sgm_series.specs.Plans.{Plan, usage as misused, no_list, faulty, series, asked_for, names_for, EntryCallsFor, AreVerdicts, EntriesCallFor, ListCallsFor, ReadCallsFor, SeriesCallsFor, entries_in, is_refused, IsJudged}
use Rattle.sgm_series.specs.Turns.{files_for, IsReached, AtEntry, HasOutput}
use Rattle.sgm_series.specs.Ends.{EntriesShow, SeriesShownBy}
use Rattle.sgm_series.specs.Counted.{SeriesCounts, EntryCounts, EntryShows}
use Rattle.sgm_series.specs.Complete.{IsEntryInput, OnlyReadsRose, NoReadsRose, NoWritesRose, IsUnlessMemory, EntriesComplete, SeriesComplete}
use Rattle.sgm_series.specs.declared.words.SeriesUsage.{SeriesUsage}
use Rattle.sgm_series.specs.declared.outcome.SeriesOutcome.{SeriesOutcome}
use Rattle.sgm_series.specs.declared.outcome.SeriesOutcome.TheVariants.{Done, Usage, RefusedList, SomeRefused, ListUnread, ReadFault, WriteFault, NoMemory}
use Rattle.sgm_series.proofs.Places.{in_take, in_length, element_at}
use Rattle.sgm_series.proofs.Proper.{proper}

-- ---- verdicts by their places

pub all_at : {X : Type 0} (P : X → Type 0) (xs : List X) (place : ℕ) (x : X) → All P xs → slice_get xs place ≡ Some x → P x
all_at P xs place x all at = subst P (get_or_from_slice_get xs place x x at) (all place x (in_length xs place x at))

-- the verdict at a place before one that is reached
reached_at : (verdicts : List Verdict) (entry place : ℕ) (v : Verdict) → IsReached entry verdicts → place < entry → slice_get verdicts place ≡ Some v → IsJudged v
reached_at verdicts entry place v reached lt at = all_at (λ w. IsJudged w) (take entry verdicts) place v reached (in_take entry verdicts place v lt at)

same_at : {X : Type 0} (xs : List X) (place : ℕ) (x y : X) → slice_get xs place ≡ Some x → slice_get xs place ≡ Some y → x ≡ y
same_at xs place x y one other = let both : Some x ≡ Some y = sym one ∙ other in (cc)

no_absent : (i : Input) → IsJudged (absent i) → ⊥
no_absent i is = is

-- no entry is refused where all files are called for
none_refused : (verdicts : List Verdict) → All IsFiles verdicts → count_by is_refused verdicts ≡ 0
none_refused [] all = refl
none_refused (v ∷ verdicts) all = first v (all 0 v (omega arith)) (none_refused verdicts (λ k d lt. all (suc k) d (omega (arith, lt))))
  where
    first : (v : Verdict) → IsFiles v → count_by is_refused verdicts ≡ 0 → count_by is_refused (v ∷ verdicts) ≡ 0
    first (files outputs summary) is rest = rest
    first (usage fault) is rest = absurd is
    first (absent i) is rest = absurd is
    first (refused r) is rest = absurd is

-- ---- an absent input

-- over an input that is held and isn't too long
step_past : (i : Input) (held : Option (List ℕ)) (next v : Verdict) → fetched i held next ≡ v → v ≢ absent i → v ≢ refused (TooLong i) → next ≡ v
step_past i None next v is present fit = absurd (present (sym is))
step_past i (Some bytes) next v is present fit = elim (nat_lt (most_bytes i) (length bytes)) as (λ t. (if t then refused (TooLong i) else next) ≡ v → next ≡ v) [
  | true ↦ λ long. absurd (fit (sym long))
  | false ↦ λ on. on
] is

gone : (i : Input) (held : Option (List ℕ)) (next v : Verdict) → held ≡ None → fetched i held next ≡ v → v ≡ absent i
gone i None next v none is = sym is
gone i (Some bytes) next v none is = absurd (cc)

-- a match calls for an absent input where that isn't held, and no earlier one is absent or too long
absent_of_pair : (asked : Operands) (held : Held) (next v : Verdict) (i : Input) (name : List ℕ) → pair_fetched asked held next ≡ v → IsPairInput asked i name → held name ≡ None → NoneBefore (order_of i) v → v ≡ absent i
unfolding pair_fetched
absent_of_pair asked held next v input.Left name is named none before = gone input.Left (held asked.left) _ v (ap held (sym named) ∙ none) is
absent_of_pair asked held next v input.Right name is named none before =
    let second = step_past input.Left (held asked.left) _ v is (before.present input.Left (omega arith)) (before.sound (TooLong input.Left) (omega arith)) in
    gone input.Right (held asked.right) _ v (ap held (sym named) ∙ none) second
absent_of_pair asked held next v input.Calibration name is named none before =
    let second = step_past input.Left (held asked.left) _ v is (before.present input.Left (omega arith)) (before.sound (TooLong input.Left) (omega arith)) in
    let third = step_past input.Right (held asked.right) _ v second (before.present input.Right (omega arith)) (before.sound (TooLong input.Right) (omega arith)) in
    let own : calib_fetched false (held asked.calib) next ≡ v = ap (λ (b : Bool). calib_fetched b (held asked.calib) next) (sym named.0) ∙ third in
    gone input.Calibration (held asked.calib) next v (ap held (sym named.1) ∙ none) own
absent_of_pair asked held next v input.Earlier name is named none before = absurd named
absent_of_pair asked held next v input.Later name is named none before = absurd named
absent_of_pair asked held next v input.List name is named none before = absurd named
absent_of_pair asked held next v (input.Grid k) name is named none before = absurd named

absent_of : (entry : EntryNames) (held : Held) (v : Verdict) (i : Input) (name : List ℕ) → EntryCallsFor entry held v → IsInputName (names_for entry) i name → held name ≡ None → NoneBefore (order_of i) v → v ≡ absent i
absent_of entry held v i name calls named none before = absent_of_pair (asked_for entry) held _ v i name calls.is named none before

-- an input that is called absent isn't held
not_held : (entry : EntryNames) (held : Held) (i : Input) (name : List ℕ) → EntryCallsFor entry held (absent i) → IsInputName (names_for entry) i name → held name ≡ None
not_held entry held i name calls named = (first_absent (asked_for entry) held _ i (present_matched entry.out plain _ _ _) calls.is).none name named

-- ---- faults of writing

one_name : (entry : EntryNames) (output : Output) (a b : List ℕ) → IsOutputName (names_for entry) output a → IsOutputName (names_for entry) output b → a ≡ b
one_name entry Disparity a b p q = p ∙ sym q
one_name entry Heights a b p q = p ∙ sym q
one_name entry Report a b p q = p ∙ sym q
one_name entry Summary a b p q = absurd p
one_name entry Difference a b p q = absurd p
one_name entry Volumes a b p q = absurd p

in_files : (verdicts : List Verdict) (place : ℕ) (v : Verdict) (file : OutputFile) → slice_get verdicts place ≡ Some v → Contains (outputs_of v) file → Contains (files_for verdicts) file
in_files [] place v file at c = absurd (cc)
in_files (w ∷ verdicts) zero v file at c =
    let same : w ≡ v = cc in
    let P : Verdict → Type 0 = λ x. Contains (outputs_of x) file in
    Contains-append_left (outputs_of w) (files_for verdicts) file (subst P (sym same) c)
in_files (w ∷ verdicts) (suc place) v file at c = Contains-append_right (outputs_of w) (files_for verdicts) file (in_files verdicts place v file at c)

module _ (list : List ℕ) (entries : List EntryNames) (held : Held) (verdicts : List Verdict) (are : AreVerdicts entries held verdicts) (before now : Faults) where
  -- the count of a file of the verdicts, or that of `out`, rose
  no_write_fault : (entry : ℕ) (output : Output) → AtEntry entry verdicts (HasOutput output) → EntryShows entries entry (run.WriteFault output) before now → NoWritesRose verdicts before now → ⊥
  no_write_fault entry output (v, at, has) (asked, named, inr out) writes = writes.out out.1.out
  no_write_fault entry output (v, at, has) (asked, named, inl rose) writes = by_file has.has
    where
      by_file : (output ≡ Summary) ⊎ ((file : OutputFile) × Contains (outputs_of v) file × (file.output ≡ output)) → ⊥
      by_file (inl summary) = let P : Output → Type 0 = λ o. IsOutputName (names_for asked) o rose.name in subst P summary rose.is_name
      by_file (inr (file, c, is)) =
          let P : Output → Type 0 = λ o. IsOutputName (names_for asked) o file.name in
          let mine : IsOutputName (names_for asked) output file.name = subst P is ((proper asked held v (are.each entry asked v named at)).named file c) in
          let same : rose.name ≡ file.name = one_name asked output rose.name file.name rose.is_name mine in
          let R : List ℕ → Type 0 = λ n. Rose (before.writes n) (now.writes n) in
          writes.file file (in_files verdicts entry v file at c) (subst R same rose.writes.rose)

  -- a count of an input's name rose
  rose_input : (entry : ℕ) (i : Input) → EntryShows entries entry (run.ReadFault i) before now → (name : List ℕ) × IsEntryInput entries name × Rose (before.reads name) (now.reads name)
  rose_input entry i (asked, at, rose) = (rose.name, (asked, i, element_at entries entry asked at, rose.is_name), rose.reads.rose)

  done : (outcome : SeriesOutcome) → EntriesShow verdicts outcome → SeriesCounts list outcome before now → EntryCounts entries outcome before now
      → All IsFiles verdicts → (Rose (before.reads list) (now.reads list) → ⊥) → NoReadsRose entries before now → NoWritesRose verdicts before now → IsUnlessMemory outcome Done
  done Done shown counts mine all listed reads writes = inl refl
  done (Usage fault) shown counts mine all listed reads writes = absurd shown
  done (RefusedList fault) shown counts mine all listed reads writes = absurd shown
  done (SomeRefused n) shown counts mine all listed reads writes =
      let none = none_refused verdicts all in let count = shown.1 in let some = shown.2 in absurd (omega (arith, none, count, some))
  done ListUnread shown counts mine all listed reads writes = absurd (listed counts.reads.rose)
  done (ReadFault entry i) shown counts mine all listed reads writes = let rose = rose_input entry i mine in absurd (reads rose.0 rose.1 rose.2)
  done (WriteFault entry output) shown counts mine all listed reads writes = absurd (no_write_fault entry output shown.1 mine writes)
  done NoMemory shown counts mine all listed reads writes = inr refl

  some_refused : (outcome : SeriesOutcome) → EntriesShow verdicts outcome → SeriesCounts list outcome before now → EntryCounts entries outcome before now
      → (n : ℕ) → count_by is_refused verdicts ≡ n → 0 < n → (Rose (before.reads list) (now.reads list) → ⊥) → NoReadsRose entries before now → NoWritesRose verdicts before now
      → IsUnlessMemory outcome (SomeRefused n)
  some_refused Done shown counts mine n is some listed reads writes = let none = none_refused verdicts shown in absurd (omega (arith, none, is, some))
  some_refused (Usage fault) shown counts mine n is some listed reads writes = absurd shown
  some_refused (RefusedList fault) shown counts mine n is some listed reads writes = absurd shown
  some_refused (SomeRefused m) shown counts mine n is some listed reads writes = let same : m ≡ n = sym shown.1 ∙ is in inl (ap (λ (k : ℕ). SomeRefused k) same)
  some_refused ListUnread shown counts mine n is some listed reads writes = absurd (listed counts.reads.rose)
  some_refused (ReadFault entry i) shown counts mine n is some listed reads writes = let rose = rose_input entry i mine in absurd (reads rose.0 rose.1 rose.2)
  some_refused (WriteFault entry output) shown counts mine n is some listed reads writes = absurd (no_write_fault entry output shown.1 mine writes)
  some_refused NoMemory shown counts mine n is some listed reads writes = inr refl

  -- the fault of reading is that of the first absent input
  same_fault : (at which : ℕ) (asked : EntryNames) (i j : Input) (name : List ℕ) → IsReached at verdicts → slice_get entries at ≡ Some asked → slice_get verdicts at ≡ Some (absent i) → IsInputName (names_for asked) i name
      → OnlyReadsRose entries (λ other. other ≡ name) before now
      → IsReached which verdicts → AtEntry which verdicts (NoneBefore (order_of j)) → EntryShows entries which (run.ReadFault j) before now → (which ≡ at) × (j ≡ i)
  same_fault at which asked i j name reached named is called reads reached_which (w, at_which, none) (theirs, named_which, rose) =
      let same : rose.name ≡ name = reads rose.name (theirs, j, element_at entries which theirs named_which, rose.is_name) rose.reads.rose in
      let missing : held rose.name ≡ None = ap held same ∙ not_held asked held i name (are.each at asked (absent i) named is) called in
      let also : w ≡ absent j = absent_of theirs held w j rose.name (are.each which theirs w named_which at_which) rose.is_name missing none in
      let J : Verdict → Type 0 = λ x. IsJudged x in
      let later : which < at → ⊥ = λ lt. subst J also (reached_at verdicts at which w reached lt at_which) in
      let sooner : at < which → ⊥ = λ lt. reached_at verdicts which at (absent i) reached_which lt is in
      let one : which ≡ at = one_place which at later sooner in
      let both : absent j ≡ absent i = sym also ∙ same_at verdicts at w (absent i) (ap (slice_get verdicts) (sym one) ∙ at_which) is in
      (one, (cc))
    where
      one_place : (a b : ℕ) → (a < b → ⊥) → (b < a → ⊥) → a ≡ b
      one_place a b less more = elim (cases_lt a b) [
        | inl lt ↦ absurd (less lt)
        | inr le ↦ elim (cases_lt b a) [ inl lt ↦ absurd (more lt) | inr ge ↦ omega (arith, le, ge) ]
      ]

  absent_one : (outcome : SeriesOutcome) → EntriesShow verdicts outcome → SeriesCounts list outcome before now → EntryCounts entries outcome before now
      → (at : ℕ) (asked : EntryNames) (i : Input) (name : List ℕ) → IsReached at verdicts → slice_get entries at ≡ Some asked → slice_get verdicts at ≡ Some (absent i) → IsInputName (names_for asked) i name
      → (Rose (before.reads list) (now.reads list) → ⊥) → OnlyReadsRose entries (λ other. other ≡ name) before now → NoWritesRose verdicts before now → IsUnlessMemory outcome (ReadFault at i)
  absent_one Done shown counts mine at asked i name reached named is called listed reads writes = absurd (all_at (λ w. IsFiles w) verdicts at (absent i) shown is)
  absent_one (Usage fault) shown counts mine at asked i name reached named is called listed reads writes = absurd shown
  absent_one (RefusedList fault) shown counts mine at asked i name reached named is called listed reads writes = absurd shown
  absent_one (SomeRefused n) shown counts mine at asked i name reached named is called listed reads writes = absurd (all_at (λ w. IsJudged w) verdicts at (absent i) shown.0 is)
  absent_one ListUnread shown counts mine at asked i name reached named is called listed reads writes = absurd (listed counts.reads.rose)
  absent_one (ReadFault which j) shown counts mine at asked i name reached named is called listed reads writes =
      let same = same_fault at which asked i j name reached named is called reads shown.0 shown.1 mine in
      inl (ap (λ (e : ℕ). ReadFault e j) same.0 ∙ ap (λ (x : Input). ReadFault at x) same.1)
  absent_one (WriteFault which output) shown counts mine at asked i name reached named is called listed reads writes = absurd (no_write_fault which output shown.1 mine writes)
  absent_one NoMemory shown counts mine at asked i name reached named is called listed reads writes = inr refl

  entries_complete : (outcome : SeriesOutcome) → EntriesShow verdicts outcome → SeriesCounts list outcome before now → EntryCounts entries outcome before now → EntriesComplete list entries verdicts outcome before now
  entries_complete outcome shown counts mine = record {
    done = λ all listed reads writes. done outcome shown counts mine all listed reads writes;
    some_refused = λ n all is some listed reads writes. some_refused outcome shown counts mine n is some listed reads writes;
    absent = λ at asked i name reached named is called listed reads writes. absent_one outcome shown counts mine at asked i name reached named is called listed reads writes;
  }

-- ---- the plan

-- where entries are matched, the verdicts are theirs
abbrev pub AreOf : Held → Plan → Type 0
AreOf held (misused fault) = ⊤
AreOf held no_list = ⊤
AreOf held (faulty fault) = ⊤
AreOf held (series entries verdicts) = AreVerdicts entries held verdicts

pub are_of : (words : List (List ℕ)) (held : Held) (plan : Plan) → SeriesCallsFor words held plan → AreOf held plan
are_of words held plan calls = by_words (series_words words) calls
  where
    along : (p q : Plan) → p ≡ q → AreOf held q → AreOf held p
    along p q same are = let P : Plan → Type 0 = λ x. AreOf held x in subst P (sym same) are

    by_fault : (fault : _) (entries : List EntryNames) → EntriesCallFor fault entries held plan → AreOf held plan
    by_fault (Some fault) entries calls = along plan (faulty fault) calls tt
    by_fault None entries (verdicts, are, is) = along plan (series entries verdicts) is are

    by_list : (list : List ℕ) (bytes : Option (List ℕ)) → ListCallsFor list bytes held plan → AreOf held plan
    by_list list None calls = along plan no_list calls tt
    by_list list (Some bytes) calls = by_fault _ _ calls

    by_words : (read : Result ListWords SeriesUsage) → ReadCallsFor read held plan → AreOf held plan
    by_words (Err fault) calls = along plan (misused fault) calls tt
    by_words (Ok words) calls = by_list words.list (held words.list) calls

faulty_complete : (list : List ℕ) (outcome wanted : SeriesOutcome) (before now : Faults) → (outcome ≡ wanted) ⊎ ((outcome ≡ ListUnread) ⊎ (outcome ≡ NoMemory)) → SeriesCounts list outcome before now
    → (Rose (before.reads list) (now.reads list) → ⊥) → IsUnlessMemory outcome wanted
faulty_complete list outcome wanted before now (inl is) counts listed = inl is
faulty_complete list outcome wanted before now (inr (inl is)) counts listed =
    let P : SeriesOutcome → Type 0 = λ o. SeriesCounts list o before now in
    let unread : SeriesCounts list ListUnread before now = subst P is counts in absurd (listed unread.reads.rose)
faulty_complete list outcome wanted before now (inr (inr is)) counts listed = inr is

pub complete_by : (list : List ℕ) (held : Held) (plan : Plan) (outcome : SeriesOutcome) (before now : Faults) → AreOf held plan → SeriesShownBy plan outcome → SeriesCounts list outcome before now
    → EntryCounts (entries_in plan) outcome before now → SeriesComplete list plan outcome before now
complete_by list held (misused fault) outcome before now are shown counts mine = tt
complete_by list held no_list outcome before now are shown counts mine = tt
complete_by list held (faulty fault) outcome before now are shown counts mine = λ listed. faulty_complete list outcome (RefusedList fault) before now shown counts listed
complete_by list held (series entries verdicts) outcome before now are shown counts mine = entries_complete list entries held verdicts are before now outcome shown counts mine

-- the outcome that is called for
pub complete : (list : List ℕ) (words : List (List ℕ)) (held : Held) (plan : Plan) (outcome : SeriesOutcome) (before now : Faults) → SeriesCallsFor words held plan → SeriesShownBy plan outcome → SeriesCounts list outcome before now
    → EntryCounts (entries_in plan) outcome before now → SeriesComplete list plan outcome before now
complete list words held plan outcome before now calls shown counts mine = complete_by list held plan outcome before now (are_of words held plan calls) shown counts mine
