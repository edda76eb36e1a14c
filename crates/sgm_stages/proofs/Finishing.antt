-- Names that are begun and finished, one file after the other.
use Rattle.std.proofs.Common.{◌≡◌, ◌⊎◌, inl, inr, ℕ, suc, ◌+◌, ◌<◌, arith, List, [], ◌∷◌, ◌++◌, length, take, drop, get_or, add-one, refl, sym, ap, subst, ◌∙◌, Option, Some, true, false, ◌||◌, cond, All, Contains}
use Rattle.std.specs.Str.{bytes_eq}
use Rattle.std.proofs.lemmas.Slice.Eq.{bytes_eq-Decides}
use Rattle.std.proofs.lemmas.List.{take-append-drop}
use Rattle.std.proofs.lemmas.List.Elements.{All-contains, Contains-append_right}
use Rattle.std.proofs.Math.Seq.{take-suc, drop-cons}
use Rattle.sgm_io.specs.Keep.{name_of}
use Rattle.sgm_io.specs.Unfinished.{NameSet, with_name, without_name}
use Rattle.sgm_io.proofs.UnfinishedLaws.{without_name-same, without_name-false, without_name-with_name}
use Rattle.sgm_words.specs.Operands.{FileNames, IsOutputName}
use Rattle.sgm_words.specs.declared.files.Output.{Output}
use Rattle.sgm_outcome.specs.declared.outcome.Outcome.{Outcome}
use Rattle.sgm_outcome.specs.declared.outcome.Outcome.TheVariants.{Done, Usage, Refused, ReadFault, WriteFault, NoMemory}
use Rattle.sgm_stages.specs.Outputs.{OutputFile, IsNamed, is_named}
use Rattle.sgm_stages.specs.Verdict.{Verdict, outputs_of}
use Rattle.sgm_stages.specs.Unfinished.{AreFinished, LeavesUnfinished, UnfinishedStands}
use Rattle.sgm_stages.specs.Deliver.{after_finishing, LeavesFile, LeavesOne, IsStopAt}
use Rattle.sgm_stages.specs.Stops.{write_outcome}
use Rattle.sgm_stages.specs.declared.stops.WriteStop.{WriteStop}
use Rattle.sgm_stages.specs.declared.stops.WriteStop.TheVariants as write
use Rattle.sgm_stages.proofs.Holding.{in_cases, in_none, or_left, or_right, named-append}

-- ---- one name

without_other : (name other : List ℕ) (names : NameSet) → bytes_eq other name ≡ false → without_name name names other ≡ names other
unfolding without_name
without_other name other names e = rw e refl

with_other : (name other : List ℕ) (names : NameSet) → bytes_eq other name ≡ false → with_name name names other ≡ names other
unfolding with_name
with_other name other names e = rw e refl

without_true : (name other : List ℕ) (names : NameSet) → without_name name names other ≡ true → names other ≡ true
unfolding without_name
without_true name other names e = elim (bytes_eq other name) as (λ b. cond b false (names other) ≡ true → names other ≡ true) [ true ↦ λ no. absurd (cc) | false ↦ λ yes. yes ] e

with_true : (name other : List ℕ) (names : NameSet) → with_name name names other ≡ true → (names other ≡ true) ⊎ (other ≡ name)
unfolding with_name
with_true name other names e = elim (bytes_eq other name) as (λ b. bytes_eq other name ≡ b → cond b true (names other) ≡ true → (names other ≡ true) ⊎ (other ≡ name)) [
  | true ↦ λ same on. inr ((bytes_eq-Decides other name).0 same)
  | false ↦ λ apart on. inl on
] refl e

-- a file that was begun and finished
pub finished_one : (file : OutputFile) (opened writing : Option (List ℕ)) (name : List ℕ) (old begun grown new : NameSet) →
    name ≡ file.name → opened ≡ Some name → writing ≡ opened → begun ≡ with_name name old → grown ≡ begun → new ≡ without_name (name_of writing) grown → new ≡ without_name file.name old
finished_one file opened writing name old begun grown new named open_ stays begins grows finishes =
    let at : name_of writing ≡ file.name = ap (λ (w : Option (List ℕ)). name_of w) (stays ∙ open_) ∙ named in
    finishes
    ∙ ap (λ (n : List ℕ). without_name n grown) at
    ∙ ap (λ (u : NameSet). without_name file.name u) (grows ∙ begins ∙ ap (λ (n : List ℕ). with_name n old) named)
    ∙ without_name-with_name file.name old

-- ---- one file after the other

after_finishing-append : (fs gs : List OutputFile) (names : NameSet) → after_finishing (fs ++ gs) names ≡ after_finishing gs (after_finishing fs names)
after_finishing-append [] gs names = refl
after_finishing-append (f ∷ fs) gs names = after_finishing-append fs gs (without_name f.name names)

-- one file more
pub finishing_more : (wanted : List OutputFile) (i : ℕ) (file : OutputFile) (old now new : NameSet) → i < length wanted → file ≡ get_or wanted i file →
    now ≡ after_finishing (take i wanted) old → new ≡ without_name file.name now → new ≡ after_finishing (take (i + 1) wanted) old
finishing_more wanted i file old now new lt is before step =
    let more : take (i + 1) wanted ≡ take i wanted ++ file ∷ [] = rw add-one (take-suc wanted i file lt) ∙ ap (λ (x : OutputFile). take i wanted ++ x ∷ []) (sym is) in
    step ∙ ap (λ (u : NameSet). without_name file.name u) before ∙ sym (after_finishing-append (take i wanted) (file ∷ []) old) ∙ sym (ap (λ (x : List OutputFile). after_finishing x old) more)

-- the run stopped at this file
pub leaves_one : (wanted : List OutputFile) (i : ℕ) (file : OutputFile) (stop : WriteStop) (old now new : NameSet) → i < length wanted → file ≡ get_or wanted i file →
    now ≡ after_finishing (take i wanted) old → IsStopAt file.output stop → LeavesFile file now new → LeavesOne wanted stop old new
leaves_one wanted i file stop old now new lt is before end left = record {
  before = take i wanted;
  file = file;
  later = drop (suc i) wanted;
  split = sym (take-append-drop i wanted) ∙ ap (λ (x : List OutputFile). take i wanted ++ x) (drop-cons wanted i file lt ∙ ap (λ (x : OutputFile). x ∷ drop (suc i) wanted) (sym is));
  is_stop = end;
  left = let P : NameSet → Type 0 = λ u. LeavesFile file u new in subst P before left;
}

stays_finished : (files : List OutputFile) (names : NameSet) (name : List ℕ) → names name ≡ false → after_finishing files names name ≡ false
stays_finished [] names name e = e
stays_finished (f ∷ files) names name e = stays_finished files (without_name f.name names) name (without_name-false f.name name names e)

each_finished : (files : List OutputFile) (names : NameSet) → AreFinished files (after_finishing files names)
each_finished [] names = λ file c. absurd (in_none file c)
each_finished (f ∷ files) names = λ file c. elim (in_cases f files file c) [
  | inl same ↦ let P : OutputFile → Type 0 = λ g. after_finishing files (without_name f.name names) g.name ≡ false in
      subst P same (stays_finished files (without_name f.name names) f.name (without_name-same f.name names))
  | inr later ↦ each_finished files (without_name f.name names) file later
]

pub all_finished : (files : List OutputFile) (old new : NameSet) → new ≡ after_finishing files old → AreFinished files new
all_finished files old new is = λ file c. ap (λ (u : NameSet). u file.name) is ∙ each_finished files old file c

no_more : (files : List OutputFile) (names : NameSet) (name : List ℕ) → after_finishing files names name ≡ true → names name ≡ true
no_more [] names name e = e
no_more (f ∷ files) names name e = without_true f.name name names (no_more files (without_name f.name names) name e)

others_same : (files : List OutputFile) (names : NameSet) (name : List ℕ) → is_named files name ≡ false → after_finishing files names name ≡ names name
others_same [] names name e = refl
others_same (f ∷ files) names name e =
    others_same files (without_name f.name names) name (or_right (bytes_eq name f.name) (is_named files name) e)
    ∙ without_other f.name name names (or_left (bytes_eq name f.name) (is_named files name) e)

-- ---- in terms of the outputs

-- a name that none of the files has
none_named : (files : List OutputFile) (name : List ℕ) → ((file : OutputFile) → Contains files file → ¬ (name ≡ file.name)) → is_named files name ≡ false
none_named [] name none = refl
none_named (f ∷ files) name none = elim (bytes_eq name f.name) as (λ b. bytes_eq name f.name ≡ b → (b || is_named files name) ≡ false) [
  | true ↦ λ same. absurd (none f (0, omega arith, refl) ((bytes_eq-Decides name f.name).0 same))
  | false ↦ λ apart. none_named files name (λ file c. none file (later f files file c))
] refl
  where
    later : (f : OutputFile) (files : List OutputFile) (file : OutputFile) → Contains files file → Contains (f ∷ files) file
    later f files file (k, lt, e) = (suc k, omega arith, e)

no_output : (names : FileNames) (files : List OutputFile) (name : List ℕ) → All (IsNamed names) files → ((output : Output) → ¬ IsOutputName names output name) → is_named files name ≡ false
no_output names files name named none = none_named files name (λ file c same.
    let P : List ℕ → Type 0 = λ n. IsOutputName names file.output n in
    none file.output (subst P (sym same) (All-contains (IsNamed names) files file named c)))

pub finished_stands : (names : FileNames) (IsLeft : List ℕ → Type 0) (files : List OutputFile) (old new : NameSet) → All (IsNamed names) files → new ≡ after_finishing files old → LeavesUnfinished names IsLeft old new
finished_stands names IsLeft files old new named is = record {
  no_more = λ name e. inl (no_more files old name (sym (ap (λ (u : NameSet). u name) is) ∙ e));
  others = λ name none. ap (λ (u : NameSet). u name) is ∙ others_same files old name (no_output names files name named none);
}

left_true : (file : OutputFile) (before : List OutputFile) (old new : NameSet) (name : List ℕ) → LeavesFile file (after_finishing before old) new → new name ≡ true → (old name ≡ true) ⊎ (name ≡ file.name)
left_true file before old new name (inl same) e = inl (no_more before old name (sym (ap (λ (u : NameSet). u name) same) ∙ e))
left_true file before old new name (inr begun) e = elim (with_true file.name name (after_finishing before old) (sym (ap (λ (u : NameSet). u name) begun) ∙ e)) [
  | inl on ↦ inl (no_more before old name on)
  | inr same ↦ inr same
]

left_other : (file : OutputFile) (before : List OutputFile) (old new : NameSet) (name : List ℕ) → LeavesFile file (after_finishing before old) new →
    is_named before name ≡ false → bytes_eq name file.name ≡ false → new name ≡ old name
left_other file before old new name (inl same) none apart = ap (λ (u : NameSet). u name) same ∙ others_same before old name none
left_other file before old new name (inr begun) none apart =
    ap (λ (u : NameSet). u name) begun ∙ with_other file.name name (after_finishing before old) apart ∙ others_same before old name none

stopped_stands : (names : FileNames) (files : List OutputFile) (stop : WriteStop) (old new : NameSet) (IsLeft : List ℕ → Type 0) → All (IsNamed names) files → (left : LeavesOne files stop old new) →
    ((name : List ℕ) → IsOutputName names left.file.output name → IsLeft name) → LeavesUnfinished names IsLeft old new
stopped_stands names files stop old new IsLeft named left as_left = record {
  no_more = λ name e. elim (left_true left.file left.before old new name left.left e) [
    | inl on ↦ inl on
    | inr same ↦ let P : List ℕ → Type 0 = λ n. IsOutputName names left.file.output n in inr (as_left name (subst P (sym same) is_file))
  ];
  others = λ name none.
      let apart : (is_named left.before name || (bytes_eq name left.file.name || is_named left.later name)) ≡ false =
      sym (named-append left.before (left.file ∷ left.later) name) ∙ sym (ap (λ (fs : List OutputFile). is_named fs name) left.split) ∙ no_output names files name named none in
      left_other left.file left.before old new name left.left
      (or_left (is_named left.before name) _ apart)
      (or_left (bytes_eq name left.file.name) (is_named left.later name) (or_right (is_named left.before name) _ apart));
} where
  among : Contains files left.file
  among = let P : List OutputFile → Type 0 = λ fs. Contains fs left.file in subst P (sym left.split) (Contains-append_right left.before (left.file ∷ left.later) left.file (0, omega arith, refl))

  is_file : IsOutputName names left.file.output left.file.name
  is_file = All-contains (IsNamed names) files left.file named among

pub stop_stands : (names : FileNames) (files : List OutputFile) (stop : WriteStop) (old new : NameSet) → All (IsNamed names) files → LeavesOne files stop old new → UnfinishedStands names (write_outcome stop) old new
stop_stands names files (write.Unwritten output) old new named left =
    stopped_stands names files (write.Unwritten output) old new (IsOutputName names output) named left
    (λ name is. let P : Output → Type 0 = λ o. IsOutputName names o name in subst P (sym left.is_stop) is)
stop_stands names files write.NoMemory old new named left =
    stopped_stands names files write.NoMemory old new (λ name. (output : Output) × IsOutputName names output name) named left (λ name is. (left.file.output, is))

pub leaves_along : (files wanted : List OutputFile) (stop : WriteStop) (old new : NameSet) → files ≡ wanted → LeavesOne files stop old new → LeavesOne wanted stop old new
leaves_along files wanted stop old new same left = let P : List OutputFile → Type 0 = λ fs. LeavesOne fs stop old new in subst P same left

-- ---- where nothing was written

pub none_left : (names : FileNames) (IsLeft : List ℕ → Type 0) (old new : NameSet) → new ≡ old → LeavesUnfinished names IsLeft old new
none_left names IsLeft old new same = record {
  no_more = λ name e. inl (sym (ap (λ (u : NameSet). u name) same) ∙ e);
  others = λ name none. ap (λ (u : NameSet). u name) same;
}

-- whatever the outcome
pub same_stands : (names : FileNames) (outcome : Outcome) (old new : NameSet) → new ≡ old → UnfinishedStands names outcome old new
same_stands names Done old new same = none_left names _ old new same
same_stands names (Usage fault) old new same = same
same_stands names (Refused refusal) old new same = same
same_stands names (ReadFault input) old new same = same
same_stands names (WriteFault output) old new same = none_left names _ old new same
same_stands names NoMemory old new same = none_left names _ old new same

pub none_finished : (v : Verdict) (names : NameSet) → outputs_of v ≡ [] → AreFinished (outputs_of v) names
none_finished v names none = λ file c. let P : List OutputFile → Type 0 = λ fs. Contains fs file in absurd (in_none file (subst P none c))
