-- The files of an entry's verdict have the names of its outputs, which differ.
use Rattle.std.proofs.Common.{◌≡◌, ℕ, ◌+◌, List, [], ◌++◌, take, length, Bool, true, false, ◌||◌, if◌then◌else◌, nat_lt, Option, Some, None, Result, Ok, Err, refl, sym, ap, subst, ◌∙◌, arith, Contains}
use Rattle.std.specs.Prelude.{codes}
use Rattle.std.specs.Str.{bytes_eq}
use Rattle.std.proofs.lemmas.Slice.Eq.{bytes_eq-Decides}
use Rattle.std.proofs.lemmas.List.{take_at, length-append}
use Rattle.std.proofs.lemmas.List.Elements.{All-contains}
use Rattle.sgm_io.specs.Held.{Held}
use Rattle.sgm_base.specs.Refining.{plain}
use Rattle.sgm_words.specs.Operands.{Operands, IsOutputName, is_plain}
use Rattle.sgm_words.specs.declared.files.Input.{Input}
use Rattle.sgm_words.specs.declared.files.Input.TheVariants as input
use Rattle.sgm_words.specs.declared.files.Output.{Output}
use Rattle.sgm_words.specs.declared.files.Output.TheVariants.{Disparity, Heights, Report, Summary, Difference, Volumes}
use Rattle.sgm_outcome.specs.declared.outcome.Refusal.{Refusal}
use Rattle.sgm_outcome.specs.declared.outcome.Refusal.TheVariants.{TooLong}
use Rattle.sgm_list.specs.Entries.{EntryNames}
use Rattle.sgm_list.specs.Clashes.{is_output_of}
use Rattle.sgm_stages.specs.Texts.{Texts}
use Rattle.sgm_stages.specs.Outputs.{OutputFile, IsNamed, files_of}
use Rattle.sgm_stages.specs.Verdict.{Verdict, absent, refused, files, fetched, calib_fetched, most_bytes, pair_fetched, unless_refused, calib_of, outputs_of}
use Rattle.sgm_app.specs.Verdict.{texts_for}
use Rattle.sgm_stages.proofs.Holding.{Distinct, in_none}
use Rattle.sgm_stages.proofs.Named.{all_named, all_distinct}
use Rattle.sgm_series.specs.Plans.{asked_for, names_for, EntryCallsFor}
use Rattle.sgm_series.proofs.Places.{or_true}

pub record IsProper (entry : EntryNames) (v : Verdict) : Type 0 where
  pub named : (file : OutputFile) → Contains (outputs_of v) file → IsNamed (names_for entry) file
  pub distinct : Distinct (outputs_of v)

proper_none : (entry : EntryNames) (v : Verdict) → outputs_of v ≡ [] → IsProper entry v
proper_none entry v none = record {
  named = λ file c. let P : List OutputFile → Type 0 = λ fs. Contains fs file in absurd (in_none file (subst P none c));
  distinct = let P : List OutputFile → Type 0 = λ fs. Distinct fs in subst P (sym none) tt;
}

proper_texts : (entry : EntryNames) (wanted : Result Texts Refusal) → IsProper entry (unless_refused wanted (λ texts. files (files_of entry.out texts) texts.summary))
proper_texts entry (Err refusal) = proper_none entry (refused refusal) refl
proper_texts entry (Ok texts) = record {
  named = λ file c. All-contains (IsNamed (names_for entry)) (files_of entry.out texts) file (all_named (asked_for entry) texts) c;
  distinct = all_distinct entry.out texts;
}

proper_fetched : (entry : EntryNames) (i : Input) (held : Option (List ℕ)) (next : Verdict) → IsProper entry next → IsProper entry (fetched i held next)
proper_fetched entry i None next later = proper_none entry (absent i) refl
proper_fetched entry i (Some bytes) next later = elim (nat_lt (most_bytes i) (length bytes)) as (λ t. IsProper entry (if t then refused (TooLong i) else next)) [
  | true ↦ proper_none entry (refused (TooLong i)) refl
  | false ↦ later
]

proper_calib : (entry : EntryNames) (is : Bool) (held : Option (List ℕ)) (next : Verdict) → IsProper entry next → IsProper entry (calib_fetched is held next)
proper_calib entry true held next later = later
proper_calib entry false held next later = proper_fetched entry input.Calibration held next later

proper_pair : (entry : EntryNames) (asked : Operands) (held : Held) (next : Verdict) → IsProper entry next → IsProper entry (pair_fetched asked held next)
unfolding pair_fetched
proper_pair entry asked held next later =
    proper_fetched entry input.Left (held asked.left) _ (
    proper_fetched entry input.Right (held asked.right) _ (
    proper_calib entry (is_plain asked) (held asked.calib) _ later))

pub proper : (entry : EntryNames) (held : Held) (v : Verdict) → EntryCallsFor entry held v → IsProper entry v
proper entry held v calls =
    let asked = asked_for entry in
    let P : Verdict → Type 0 = λ w. IsProper entry w in
    subst P calls.is (proper_pair entry asked held _ (proper_texts entry (texts_for calls.readings.left calls.readings.right (calib_of asked calls.readings) plain)))

-- ---- the names

-- the name is OUT and four bytes
pub record IsEnded (out name : List ℕ) : Type 0 where
  pub ending : List ℕ
  pub four : length ending ≡ 4
  pub is : name ≡ out ++ ending

pub ended : (entry : EntryNames) (output : Output) (name : List ℕ) → IsOutputName (names_for entry) output name → IsEnded entry.out name
ended entry Disparity name is = record { ending = codes ".pgm"; four = refl; is = is }
ended entry Heights name is = record { ending = codes ".asc"; four = refl; is = is }
ended entry Report name is = record { ending = codes ".csv"; four = refl; is = is }
ended entry Summary name is = absurd is
ended entry Difference name is = absurd is
ended entry Volumes name is = absurd is

-- it is that of an output in the sense of the list
pub is_listed : (entry : EntryNames) (output : Output) (name : List ℕ) → IsOutputName (names_for entry) output name → is_output_of entry name ≡ true
is_listed entry Disparity name is = ap (λ (b : Bool). b || (bytes_eq name (entry.out ++ codes ".asc") || (bytes_eq name (entry.out ++ codes ".csv") || false))) ((bytes_eq-Decides name (entry.out ++ codes ".pgm")).1 is)
is_listed entry Heights name is =
    or_true (bytes_eq name (entry.out ++ codes ".pgm")) _ (ap (λ (b : Bool). b || (bytes_eq name (entry.out ++ codes ".csv") || false)) ((bytes_eq-Decides name (entry.out ++ codes ".asc")).1 is))
is_listed entry Report name is =
    or_true (bytes_eq name (entry.out ++ codes ".pgm")) _ (or_true (bytes_eq name (entry.out ++ codes ".asc")) _ (ap (λ (b : Bool). b || false) ((bytes_eq-Decides name (entry.out ++ codes ".csv")).1 is)))
is_listed entry Summary name is = absurd is
is_listed entry Difference name is = absurd is
is_listed entry Volumes name is = absurd is

-- names that are equal have one OUT
pub one_out : (a b name : List ℕ) → IsEnded a name → IsEnded b name → a ≡ b
one_out a b name one other =
    let joined : a ++ one.ending ≡ b ++ other.ending = sym one.is ∙ other.is in
    let lengths : length a + length one.ending ≡ length b + length other.ending = sym (length-append a one.ending) ∙ ap length joined ∙ length-append b other.ending in
    let four = one.four in let fours = other.four in
    let same : length b ≡ length a = omega (arith, lengths, four, fours) in
    sym (take_at a one.ending (length a) refl) ∙ ap (take (length a)) joined ∙ take_at b other.ending (length a) same
