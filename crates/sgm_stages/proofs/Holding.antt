-- Files that were written one after the other hold their texts, where their names differ.
use Rattle.std.proofs.Common.{◌≡◌, inl, inr, ◌⊎◌, ℕ, zero, suc, arith, List, [], ◌∷◌, ◌++◌, refl, sym, ap, subst, ◌∙◌, Some, Bool, true, false, ◌||◌, Contains}
use Rattle.std.specs.Str.{bytes_eq}
use Rattle.std.proofs.lemmas.Slice.Eq.{bytes_eq-Decides}
use Rattle.sgm_io.specs.Held.{Held, put}
use Rattle.sgm_words.specs.declared.files.Output.{Output}
use Rattle.sgm_outcome.specs.declared.outcome.Outcome.{Outcome}
use Rattle.sgm_stages.specs.Outputs.{OutputFile, is_named}
use Rattle.sgm_stages.specs.Verdict.{Verdict, outputs_of}
use Rattle.sgm_stages.specs.Ends.{Hold, StoppedIn, FilesStand}
use Rattle.sgm_stages.specs.Deliver.{after_files, BeginsFile, EndsIn, FilesPut}
use Rattle.sgm_outcome.specs.declared.outcome.Outcome.TheVariants.{Done, Usage, Refused, ReadFault, WriteFault, NoMemory}

-- no two of the files have one name
abbrev pub Distinct : List OutputFile → Type 0
Distinct [] = Unit {0}
Distinct (file ∷ files) = (is_named files file.name ≡ false) × Distinct files

pub put_same : (name bytes : List ℕ) (held : Held) → put name bytes held name ≡ Some bytes
unfolding put
put_same name bytes held = rw ((bytes_eq-Decides name name).1 refl) refl

pub put_other : (name bytes other : List ℕ) (held : Held) → bytes_eq other name ≡ false → put name bytes held other ≡ held other
unfolding put
put_other name bytes other held e = rw e refl

pub or_left : (a b : Bool) → (a || b) ≡ false → a ≡ false
or_left true b e = absurd (cc)
or_left false b e = refl

pub or_right : (a b : Bool) → (a || b) ≡ false → b ≡ false
or_right true b e = absurd (cc)
or_right false b e = e

or_groups : (a b c : Bool) → (a || (b || c)) ≡ ((a || b) || c)
or_groups true b c = refl
or_groups false b c = refl

-- names that none of the files has are as before
pub others_stay : (files : List OutputFile) (name : List ℕ) (held : Held) → is_named files name ≡ false → after_files files held name ≡ held name
others_stay [] name held e = refl
others_stay (file ∷ files) name held e =
    others_stay files name (put file.name file.text held) (or_right (bytes_eq name file.name) (is_named files name) e)
    ∙ put_other file.name file.text name held (or_left (bytes_eq name file.name) (is_named files name) e)

-- an element of a list is the first or one of the others
pub in_cases : {X : Type 0} (y : X) (ys : List X) (x : X) → Contains (y ∷ ys) x → (y ≡ x) ⊎ Contains ys x
in_cases y ys x (zero, lt, e) = inl e
in_cases y ys x (suc k, lt, e) = inr (k, omega arith, e)

pub in_none : {X : Type 0} (x : X) → Contains [] x → ⊥
in_none x (k, lt, e) = absurd (omega arith)

-- each file holds its text
pub texts_hold : (files : List OutputFile) (held : Held) → Distinct files → (file : OutputFile) → Contains files file → after_files files held file.name ≡ Some file.text
texts_hold [] held distinct file c = absurd (in_none file c)
texts_hold (first ∷ files) held distinct file c = elim (in_cases first files file c) [
  | inl same ↦ let P : OutputFile → Type 0 = λ f. after_files files (put first.name first.text held) f.name ≡ Some f.text in
      subst P same (others_stay files first.name (put first.name first.text held) distinct.0 ∙ put_same first.name first.text held)
  | inr later ↦ texts_hold files (put first.name first.text held) distinct.1 file later
]

pub hold : (wanted : List OutputFile) (old new : Held) → Distinct wanted → new ≡ after_files wanted old → Hold wanted old new
hold wanted old new distinct is = record {
  texts = λ file c. ap (λ (h : Held). h file.name) is ∙ texts_hold wanted old distinct file c;
  others = λ name none. ap (λ (h : Held). h name) is ∙ others_stay wanted name old none;
}

pub named-append : (xs ys : List OutputFile) (name : List ℕ) → is_named (xs ++ ys) name ≡ (is_named xs name || is_named ys name)
named-append [] ys name = refl
named-append (x ∷ xs) ys name = ap (λ (b : Bool). bytes_eq name x.name || b) (named-append xs ys name) ∙ or_groups (bytes_eq name x.name) (is_named xs name) (is_named ys name)

eq_sym : (a b : List ℕ) → bytes_eq a b ≡ false → bytes_eq b a ≡ false
eq_sym a b e = elim (bytes_eq b a) as (λ t. bytes_eq b a ≡ t → bytes_eq b a ≡ false) [
  | true ↦ λ same. let back : bytes_eq a b ≡ true = (bytes_eq-Decides a b).1 (sym ((bytes_eq-Decides b a).0 same)) in absurd (cc)
  | false ↦ λ other. other
] refl

-- none of the files before has this one's name
named_before : (before : List OutputFile) (file : OutputFile) (later : List OutputFile) → Distinct (before ++ file ∷ later) → is_named before file.name ≡ false
named_before [] file later d = refl
named_before (x ∷ before) file later d =
    let all : (is_named before x.name || is_named (file ∷ later) x.name) ≡ false = sym (named-append before (file ∷ later) x.name) ∙ d.0 in
    let here : bytes_eq x.name file.name ≡ false = or_left (bytes_eq x.name file.name) (is_named later x.name) (or_right (is_named before x.name) (is_named (file ∷ later) x.name) all) in
    ap (λ (b : Bool). b || is_named before file.name) (eq_sym x.name file.name here) ∙ named_before before file later d.1

distinct_before : (before more : List OutputFile) → Distinct (before ++ more) → Distinct before
distinct_before [] more d = tt
distinct_before (x ∷ before) more d = (or_left (is_named before x.name) (is_named more x.name) (sym (named-append before more x.name) ∙ d.0), distinct_before before more d.1)

-- a file before has another name
before_other : (before : List OutputFile) (name : List ℕ) → is_named before name ≡ false → (earlier : OutputFile) → Contains before earlier → bytes_eq earlier.name name ≡ false
before_other [] name none earlier c = absurd (in_none earlier c)
before_other (x ∷ before) name none earlier c = elim (in_cases x before earlier c) [
  | inl same ↦ let P : OutputFile → Type 0 = λ f. bytes_eq f.name name ≡ false in subst P same (eq_sym name x.name (or_left (bytes_eq name x.name) (is_named before name) none))
  | inr later ↦ before_other before name (or_right (bytes_eq name x.name) (is_named before name) none) earlier later
]

ends_at : (output : Output) (before : List OutputFile) (file : OutputFile) (later : List OutputFile) (wanted : List OutputFile) (old new : Held) → wanted ≡ before ++ file ∷ later → file.output ≡ output
    → Distinct before → is_named before file.name ≡ false → BeginsFile file (after_files before old) new → StoppedIn output wanted old new
ends_at output before file later wanted old new split is distinct none (inl same) = record {
  before = before;
  file = file;
  later = later;
  split = split;
  is_output = is;
  texts = λ earlier c. ap (λ (h : Held). h earlier.name) same ∙ texts_hold before old distinct earlier c;
  begun = inl (ap (λ (h : Held). h file.name) same ∙ others_stay before file.name old none);
  others = λ name e. ap (λ (h : Held). h name) same ∙ others_stay before name old (or_left (is_named before name) (is_named (file ∷ []) name) (sym (named-append before (file ∷ []) name) ∙ e));
}
ends_at output before file later wanted old new split is distinct none (inr begun) = record {
  before = before;
  file = file;
  later = later;
  split = split;
  is_output = is;
  texts = λ earlier c. ap (λ (h : Held). h earlier.name) begun.2 ∙ put_other file.name begun.0 earlier.name (after_files before old) (before_other before file.name none earlier c) ∙ texts_hold before old distinct earlier c;
  begun = inr (begun.0, begun.1, ap (λ (h : Held). h file.name) begun.2 ∙ put_same file.name begun.0 (after_files before old));
  others = λ name e. let apart : (is_named before name || (bytes_eq name file.name || false)) ≡ false = sym (named-append before (file ∷ []) name) ∙ e in
      ap (λ (h : Held). h name) begun.2
      ∙ put_other file.name begun.0 name (after_files before old) (or_left (bytes_eq name file.name) false (or_right (is_named before name) (bytes_eq name file.name || false) apart))
      ∙ others_stay before name old (or_left (is_named before name) (bytes_eq name file.name || false) apart);
}

stopped : (output : Output) (wanted : List OutputFile) (old new : Held) → Distinct wanted → EndsIn output wanted old new → StoppedIn output wanted old new
stopped output wanted old new distinct e =
    let P : List OutputFile → Type 0 = λ w. Distinct w in
    let d : Distinct (e.before ++ e.file ∷ e.later) = subst P e.split distinct in
    ends_at output e.before e.file e.later wanted old new e.split e.is_output (distinct_before e.before (e.file ∷ e.later) d) (named_before e.before e.file e.later d) e.begun

-- what is held, in words of the names
pub stand : (outcome : Outcome) (v : Verdict) (old new : Held) → Distinct (outputs_of v) → FilesPut outcome v old new → FilesStand outcome v old new
stand Done v old new d is = hold (outputs_of v) old new d is
stand (Usage fault) v old new d is = is
stand (Refused refusal) v old new d is = is
stand (ReadFault input) v old new d is = is
stand (WriteFault output) v old new d (inl ends) = inl (stopped output (outputs_of v) old new d ends)
stand (WriteFault output) v old new d (inr done) = inr (done.0, hold (outputs_of v) old new d done.1)
stand NoMemory v old new d (inl same) = inl same
stand NoMemory v old new d (inr ends) = inr (ends.0, stopped ends.0 (outputs_of v) old new d ends.1)
