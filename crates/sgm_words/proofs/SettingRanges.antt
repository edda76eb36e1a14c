-- What the options are set to is in their ranges.
use Rattle.std.proofs.Common.{◌≡◌, ℕ, suc, zero, ◌+◌, ◌<◌, ◌≤◌, List, [], ◌∷◌, length, take, drop, get_or, Option, None, Some, option_map, unwrap_or, Bool, true, false, ◌&&◌, nat_le, cond, eqb, if◌then◌else◌, refl, sym, ap, subst, ◌∙◌, arith, find}
use Rattle.std.specs.List.{filter_map, cons_option, list_all}
use Rattle.std.specs.Option.{option_or}
use Rattle.std.specs.Str.{bytes_eq}
use Rattle.std.proofs.lemmas.Bool.Decides.{nat_tests}
use Rattle.sgm_words.specs.Numbers.{number_within, is_number, value_of}
use Rattle.sgm_words.specs.OptionTable.{OptionEntry, option_entry, option_table, entry_at, value_for, set_among, set_by, given, setting_of}
use Rattle.sgm_words.specs.Settings.{AreGiven}
use Rattle.sgm_words.specs.declared.option_table.Setting.{Setting}
use Rattle.sgm_words.specs.declared.option_table.TheConstants.{OPTION_COUNT}

-- the value is in the entry's range
pub record IsWithin (entry : OptionEntry) (value : ℕ) : Type 0 where
  pub low : entry.least ≤ value
  pub high : value ≤ entry.greatest

number_in : (entry : OptionEntry) (text : List ℕ) (v : ℕ) → number_within entry.least entry.greatest text ≡ Some v → IsWithin entry v
unfolding number_within
number_in entry text v e =
    elim (is_number text && (nat_le entry.least (value_of text) && nat_le (value_of text) entry.greatest)) as
    (λ t. (is_number text && (nat_le entry.least (value_of text) && nat_le (value_of text) entry.greatest)) ≡ t → (if t then Some (value_of text) else None) ≡ Some v → IsWithin entry v) [
      | true ↦ λ right is. let same : value_of text ≡ v = cc in record { low = grind (arith, nat_tests); high = grind (arith, nat_tests) }
      | false ↦ λ wrong is. absurd (cc)
    ] refl e

value_in : (entry : OptionEntry) (text : List ℕ) (v : ℕ) → value_for text entry ≡ Some v → IsWithin entry v
unfolding value_for
value_in entry text v e =
    elim (bytes_eq (take (length entry.name) text) entry.name) as (λ t. (if t then number_within entry.least entry.greatest (drop (length entry.name) text) else None) ≡ Some v → IsWithin entry v) [
      | true ↦ λ is. number_in entry (drop (length entry.name) text) v is
      | false ↦ λ is. absurd (cc)
    ] e

abbrev none : OptionEntry
none = option_entry [] 0 0 0

-- what is set is one of the entries, and its value is in that entry's range
record IsOfEntry (place : ℕ) (entries : List OptionEntry) (s : Setting) : Type 0 where
  behind : ℕ
  is : s.place ≡ place + behind
  there : behind < length entries
  within : IsWithin (get_or entries behind none) s.value

of_first : (place : ℕ) (entry : OptionEntry) (later : List OptionEntry) (s : Setting) (v : ℕ) → IsWithin entry v → s.place ≡ place → s.value ≡ v → IsOfEntry place (entry ∷ later) s
of_first place entry later s v within at is = record {
  behind = 0;
  is = omega arith;
  there = omega arith;
  within = let P : ℕ → Type 0 = λ n. IsWithin entry n in subst P (sym is) within;
}

of_later : (place : ℕ) (entry : OptionEntry) (later : List OptionEntry) (s : Setting) → IsOfEntry (place + 1) later s → IsOfEntry place (entry ∷ later) s
of_later place entry later s of = record { behind = suc of.behind; is = omega arith; there = omega arith; within = of.within }

of_entry : (place : ℕ) (entries : List OptionEntry) (text : List ℕ) (s : Setting) → set_among place entries text ≡ Some s → IsOfEntry place entries s
of_entry place [] text s e = absurd (cc)
of_entry place (entry ∷ later) text s e =
    elim (value_for text entry) as
    (λ o. value_for text entry ≡ o → option_or (option_map (λ value. record { place = place; value = value }) o) (set_among (place + 1) later text) ≡ Some s → IsOfEntry place (entry ∷ later) s) [
      | (Some v) ↦ λ is m. of_first place entry later s v (value_in entry text v is) (cc) (cc)
      | None ↦ λ is m. of_later place entry later s (of_entry (place + 1) later text s m)
    ] refl e

set_within : (text : List ℕ) (s : Setting) → set_by text ≡ Some s → IsWithin (entry_at s.place) s.value
unfolding set_by
set_within text s e =
    let of = of_entry 0 option_table text s e in
    let same : of.behind ≡ s.place = omega (arith, of.is) in
    let P : ℕ → Type 0 = λ k. IsWithin (entry_at k) s.value in subst P same of.within

given_within : (place : ℕ) (words : List (List ℕ)) (v : ℕ) → given place words ≡ Some v → IsWithin (entry_at place) v
unfolding given
given_within place [] v e = absurd (cc)
given_within place (text ∷ later) v e =
    elim (set_by text) as
    (λ o. set_by text ≡ o → option_map (λ s. s.value) (find (λ s. eqb s.place place) (cons_option o (filter_map set_by later))) ≡ Some v → IsWithin (entry_at place) v) [
      | None ↦ λ is m. given_within place later v m
      | (Some s) ↦ λ is m. elim (eqb s.place place) as
          (λ t. eqb s.place place ≡ t → option_map (λ s. s.value) (cond t (Some s) (find (λ s. eqb s.place place) (filter_map set_by later))) ≡ Some v → IsWithin (entry_at place) v) [
            | true ↦ λ at found.
                let same : s.place ≡ place = grind (arith, nat_tests) in let value : s.value ≡ v = cc in
                let P : ℕ → Type 0 = λ k. IsWithin (entry_at k) s.value in let Q : ℕ → Type 0 = λ n. IsWithin (entry_at place) n in
                subst Q value (subst P same (set_within text s is))
            | false ↦ λ at found. given_within place later v found
          ] refl m
    ] refl e

-- each missing value is in its range
missing_right : OptionEntry → Bool
missing_right entry = nat_le entry.least entry.missing && nat_le entry.missing entry.greatest

and_left : (a b : Bool) → (a && b) ≡ true → a ≡ true
and_left true b e = refl
and_left false b e = absurd (cc)

and_right : (a b : Bool) → (a && b) ≡ true → b ≡ true
and_right true b e = e
and_right false b e = absurd (cc)

missing_among : (entries : List OptionEntry) (k : ℕ) → list_all missing_right entries ≡ true → k < length entries → IsWithin (get_or entries k none) (get_or entries k none).missing
unfolding missing_right
missing_among [] k all lt = absurd (omega arith)
missing_among (entry ∷ later) zero all lt =
    let here = and_left (missing_right entry) (list_all missing_right later) all in
    let low = and_left (nat_le entry.least entry.missing) (nat_le entry.missing entry.greatest) here in
    let high = and_right (nat_le entry.least entry.missing) (nat_le entry.missing entry.greatest) here in
    record { low = grind (arith, nat_tests); high = grind (arith, nat_tests) }
missing_among (entry ∷ later) (suc k) all lt = missing_among later k (and_right (missing_right entry) (list_all missing_right later) all) (omega arith)

missing_within : (place : ℕ) → place < OPTION_COUNT → IsWithin (entry_at place) (entry_at place).missing
unfolding missing_right
missing_within place lt = missing_among option_table place refl lt

setting_within : (place : ℕ) (words : List (List ℕ)) → place < OPTION_COUNT → IsWithin (entry_at place) (setting_of place words)
setting_within place words lt = elim (given place words) as (λ o. given place words ≡ o → IsWithin (entry_at place) (unwrap_or o (entry_at place).missing)) [
  | None ↦ λ e. missing_within place lt
  | (Some v) ↦ λ e. given_within place words v e
] refl

-- the value that is read for the option at a place
pub value_read : (place : ℕ) (words : List (List ℕ)) (settings : List (Option ℕ)) (n : ℕ) → place < OPTION_COUNT → AreGiven words settings
    → n ≡ unwrap_or (get_or settings place None) (entry_at place).missing → ((entry_at place).least ≤ n) × (n ≤ (entry_at place).greatest)
value_read place words settings n lt so is =
    let same : setting_of place words ≡ n = sym (is ∙ ap (λ (o : Option ℕ). unwrap_or o (entry_at place).missing) (so.at place lt)) in
    let P : ℕ → Type 0 = λ v. IsWithin (entry_at place) v in
    let w = subst P same (setting_within place words lt) in (w.low, w.high)

pub value_is : (place : ℕ) (words : List (List ℕ)) (settings : List (Option ℕ)) (n : ℕ) → place < OPTION_COUNT → AreGiven words settings
    → n ≡ unwrap_or (get_or settings place None) (entry_at place).missing → n ≡ setting_of place words
value_is place words settings n lt so is = is ∙ ap (λ (o : Option ℕ). unwrap_or o (entry_at place).missing) (so.at place lt)
