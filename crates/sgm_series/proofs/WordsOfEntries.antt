-- The words `match LEFT RIGHT CALIB OUT` of an entry of a list without a fault have none themselves.
use Rattle.std.proofs.Common.{◌≡◌, ℕ, zero, suc, ◌+◌, List, [], ◌∷◌, ◌++◌, length, Bool, true, false, cond, if◌then◌else◌, ◌||◌, Option, Some, None, Result, Ok, refl, sym, ap, subst, ◌∙◌, arith}
use Rattle.std.specs.Prelude.{slice_get, codes, unwrap_or, filter}
use Rattle.std.specs.List.{filter_map, slice_split, cons_option}
use Rattle.std.specs.Option.{option_or}
use Rattle.std.specs.Str.{bytes_eq}
use Rattle.std.proofs.lemmas.Slice.Eq.{bytes_eq-Decides}
use Rattle.std.proofs.lemmas.List.{length-append}
use Rattle.sgm_base.specs.Refining.{plain}
use Rattle.sgm_io.specs.Held.{Held}
use Rattle.sgm_words.specs.Commands.{command_named}
use Rattle.sgm_words.specs.Faults.{first_fault, name_fault, output_fault, fault_of}
use Rattle.sgm_words.specs.OptionTable.{given}
use Rattle.sgm_words.specs.Words.{read_of, unless_fault, asked_of}
use Rattle.sgm_words.specs.declared.commands.Command.TheVariants as command
use Rattle.sgm_words.specs.declared.options.Options.{Options}
use Rattle.sgm_words.specs.declared.options.Options.TheVariants as options
use Rattle.sgm_words.specs.declared.usage.UsageFault.{UsageFault}
use Rattle.sgm_words.specs.declared.usage.UsageFault.TheVariants.{EmptyName, OutputIsInput}
use Rattle.sgm_text.specs.Words.{has_bytes, words_of, lines_of, is_space}
use Rattle.sgm_list.specs.Entries.{EntryNames, calib_named, entry_of, entry_in, entries_of}
use Rattle.sgm_list.specs.Faults.{list_fault}
use Rattle.sgm_list.specs.Clashes.{is_output_of}
use Rattle.sgm_stages.specs.Verdict.{Verdict}
use Rattle.sgm_app.specs.Calls.{ReadCallsFor, CallsFor}
use Rattle.sgm_series.specs.EntryWords.{match_words}
use Rattle.sgm_series.specs.Plans.{EntryCallsFor}
use Rattle.sgm_series.proofs.Places.{any_false, is_false}
use Rattle.sgm_series.proofs.NoClash.{no_clash, left_apart, right_apart, calib_apart}

-- ---- the names of an entry have bytes

abbrev Filled : List (List ℕ) → Type 0
Filled [] = Unit {0}
Filled (word ∷ words) = (has_bytes word ≡ true) × Filled words

filled_filter : (words : List (List ℕ)) → Filled (filter has_bytes words)
filled_filter [] = tt
filled_filter (word ∷ words) = first (has_bytes word) refl (filled_filter words)
  where
    first : (b : Bool) → has_bytes word ≡ b → Filled (filter has_bytes words) → Filled (cond b (word ∷ filter has_bytes words) (filter has_bytes words))
    first true is rest = (is, rest)
    first false is rest = rest

abbrev some_bytes : List ℕ → Type 0
some_bytes word = bytes_eq word [] ≡ false

filled : (word : List ℕ) → has_bytes word ≡ true → some_bytes word
filled [] is = absurd (cc)
filled (b ∷ word) is = refl

-- none of the four words is empty
record HasBytes (entry : EntryNames) : Type 0 where
  pub left : some_bytes entry.left
  pub right : some_bytes entry.right
  pub calib : some_bytes (unwrap_or entry.calib (codes "-"))
  pub out : some_bytes entry.out

calib_filled : (word : List ℕ) → has_bytes word ≡ true → some_bytes (unwrap_or (calib_named word) (codes "-"))
calib_filled word is = elim (bytes_eq word (codes "-")) as (λ t. some_bytes (unwrap_or (if t then None else Some word) (codes "-"))) [
  | true ↦ refl
  | false ↦ filled word is
]

filled_entry : (words : List (List ℕ)) (entry : EntryNames) → Filled words → entry_in words ≡ Some entry → HasBytes entry
filled_entry [] entry are is = absurd (cc)
filled_entry (left ∷ []) entry are is = absurd (cc)
filled_entry (left ∷ right ∷ []) entry are is = absurd (cc)
filled_entry (left ∷ right ∷ calib ∷ []) entry are is = absurd (cc)
filled_entry (left ∷ right ∷ calib ∷ out ∷ []) entry are is =
    let same : entry_of left right calib out ≡ entry = cc in
    let P : EntryNames → Type 0 = λ e. HasBytes e in
    subst P same (record { left = filled left are.0; right = filled right are.1.0; calib = calib_filled calib are.1.1.0; out = filled out are.1.1.1.0 })
filled_entry (left ∷ right ∷ calib ∷ out ∷ next ∷ more) entry are is = absurd (cc)

-- an element that was made comes from one
made_from : {X Y : Type 0} (h : X → Option Y) (xs : List X) (place : ℕ) (y : Y) → slice_get (filter_map h xs) place ≡ Some y → (x : X) × (h x ≡ Some y)
made_from h [] place y at = absurd (cc)
made_from h (x ∷ xs) place y at = first (h x) refl place at (made_from h xs)
  where
    first : (o : Option _) → h x ≡ o → (place : ℕ) → slice_get (cons_option o (filter_map h xs)) place ≡ Some y
        → ((place : ℕ) (z : _) → slice_get (filter_map h xs) place ≡ Some z → (w : _) × (h w ≡ Some z)) → (w : _) × (h w ≡ Some y)
    first None is place at later = later place y at
    first (Some z) is zero at later = (x, is ∙ at)
    first (Some z) is (suc place) at later = later place y at

has_names : (bytes : List ℕ) (place : ℕ) (entry : EntryNames) → slice_get (entries_of bytes) place ≡ Some entry → HasBytes entry
has_names bytes place entry at =
    let line = made_from (λ line. entry_in (words_of line)) (lines_of bytes) place entry at in
    filled_entry (words_of line.0) entry (filled_filter (slice_split is_space line.0)) line.1

-- ---- no input is an output of the entry

short_apart : (out ending : List ℕ) → length ending ≡ 4 → bytes_eq (codes "-") (out ++ ending) ≡ false
short_apart out ending four = is_false (bytes_eq (codes "-") (out ++ ending)) (λ t.
    let lengths : 1 ≡ length out + length ending = ap length ((bytes_eq-Decides (codes "-") (out ++ ending)).0 t) ∙ length-append out ending in
    omega (arith, four, lengths))

dash_apart : (entry : EntryNames) → is_output_of entry (codes "-") ≡ false
dash_apart entry =
    ap (λ (b : Bool). b || (bytes_eq (codes "-") (entry.out ++ codes ".asc") || (bytes_eq (codes "-") (entry.out ++ codes ".csv") || false))) (short_apart entry.out (codes ".pgm") refl)
    ∙ ap (λ (b : Bool). b || (bytes_eq (codes "-") (entry.out ++ codes ".csv") || false)) (short_apart entry.out (codes ".asc") refl)
    ∙ ap (λ (b : Bool). b || false) (short_apart entry.out (codes ".csv") refl)

record HasApart (entry : EntryNames) : Type 0 where
  pub left : is_output_of entry entry.left ≡ false
  pub right : is_output_of entry entry.right ≡ false
  pub calib : is_output_of entry (unwrap_or entry.calib (codes "-")) ≡ false

apart_from : (list bytes : List ℕ) (place : ℕ) (entry : EntryNames) → list_fault list bytes ≡ None → slice_get (entries_of bytes) place ≡ Some entry → HasApart entry
apart_from list bytes place entry none at =
    let entries = entries_of bytes in
    let clear = no_clash list bytes none in
    record {
      left = any_false (λ e. is_output_of e entry.left) entries place entry (left_apart list entries clear place entry at) at;
      right = any_false (λ e. is_output_of e entry.right) entries place entry (right_apart list entries clear place entry at) at;
      calib = by_calib entry.calib refl;
    }
  where
    by_calib : (calib : Option (List ℕ)) → entry.calib ≡ calib → is_output_of entry (unwrap_or calib (codes "-")) ≡ false
    by_calib None is = dash_apart entry
    by_calib (Some calib) is =
        any_false (λ e. is_output_of e calib) (entries_of bytes) place entry (calib_apart list (entries_of bytes) (no_clash list bytes none) place entry calib at is) at

-- ---- the words have no fault

no_names : (entry : EntryNames) → HasBytes entry → first_fault (name_fault (match_words entry)) 1 4 ≡ None
unfolding first_fault
no_names entry has = λ i. slice_get (
    cons_option (if has.left i then Some (EmptyName 1) else None)
    (cons_option (if has.right i then Some (EmptyName 2) else None)
    (cons_option (if has.calib i then Some (EmptyName 3) else None)
    (cons_option (if has.out i then Some (EmptyName 4) else None) [])))) 0

no_outputs : (entry : EntryNames) → HasApart entry → first_fault (output_fault command.Match (match_words entry)) 1 3 ≡ None
unfolding first_fault
no_outputs entry has = λ i. slice_get (
    cons_option (if has.left i then Some (OutputIsInput 1) else None)
    (cons_option (if has.right i then Some (OutputIsInput 2) else None)
    (cons_option (if has.calib i then Some (OutputIsInput 3) else None) []))) 0

no_fault : (entry : EntryNames) → HasBytes entry → HasApart entry → fault_of command.Match (match_words entry) ≡ None
unfolding first_fault
no_fault entry has apart = λ i. option_or (option_or (no_names entry has i) None) (no_outputs entry apart i)

pub reads : (list bytes : List ℕ) (place : ℕ) (entry : EntryNames) → list_fault list bytes ≡ None → slice_get (entries_of bytes) place ≡ Some entry → read_of (match_words entry) ≡ Ok (options.Match 1 1 plain)
unfolding read_of command_named given
reads list bytes place entry none at =
    let asked = asked_of command.Match (match_words entry) in
    ap (λ (o : Option UsageFault). unless_fault o asked) (no_fault entry (has_names bytes place entry at) (apart_from list bytes place entry none at))

-- so the entry's verdict is that of the words
pub calls_by_words : (list bytes : List ℕ) (place : ℕ) (entry : EntryNames) (held : Held) (v : Verdict) → list_fault list bytes ≡ None → slice_get (entries_of bytes) place ≡ Some entry
    → EntryCallsFor entry held v → CallsFor (match_words entry) held v
calls_by_words list bytes place entry held v none at calls =
    let P : Result Options UsageFault → Type 0 = λ r. ReadCallsFor r (match_words entry) held v in
    subst P (sym (reads list bytes place entry none at)) calls

pub calls_by_operands : (list bytes : List ℕ) (place : ℕ) (entry : EntryNames) (held : Held) (v : Verdict) → list_fault list bytes ≡ None → slice_get (entries_of bytes) place ≡ Some entry
    → CallsFor (match_words entry) held v → EntryCallsFor entry held v
calls_by_operands list bytes place entry held v none at calls =
    let P : Result Options UsageFault → Type 0 = λ r. ReadCallsFor r (match_words entry) held v in
    subst P (reads list bytes place entry none at) calls
