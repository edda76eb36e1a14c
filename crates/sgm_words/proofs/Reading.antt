-- Reading the options, word by word.
use Rattle.std.proofs.Common.{◌≡◌, ℕ, zero, suc, ◌+◌, ◌-◌, ◌<◌, ◌≤◌, List, [], ◌∷◌, ◌++◌, length, take, drop, get_or, set, replicate, Option, None, Some, is_some, Bool, true, false, if◌then◌else◌, refl, sym, ap, subst, ◌∙◌, arith, length-set}
use Rattle.std.proofs.lemmas.List.{take_more, take_all, get_or-drop, length-drop}
use Rattle.sgm_words.specs.Commands.{entry_of}
use Rattle.sgm_words.specs.Faults.{first_fault, options_at, set_for, setting_fault, option_fault, options_fault}
use Rattle.sgm_words.specs.Operands.{word}
use Rattle.sgm_words.specs.OptionTable.{set_by}
use Rattle.sgm_words.specs.Settings.{AreGiven}
use Rattle.sgm_words.proofs.FirstFaults.{first_next, first_here, first_end, none_by}
use Rattle.sgm_words.proofs.Given.{given_none, given_set}
use Rattle.sgm_words.specs.declared.commands.Command.{Command}
use Rattle.sgm_words.specs.declared.option_table.Setting.{Setting}
use Rattle.sgm_words.specs.declared.option_table.TheConstants.{OPTION_COUNT}
use Rattle.sgm_words.specs.declared.usage.UsageFault.TheVariants.{BadOption, RepeatedOption}

-- the options before a position
abbrev pub before : Command → List (List ℕ) → ℕ → List (List ℕ)
before command words position = take (position - options_at command) (drop (options_at command) words)

-- the options before this position are none of them wrong, and give these settings
pub record SoFar (command : Command) (words : List (List ℕ)) (position : ℕ) (settings : List (Option ℕ)) : Type 0 where
  pub after : options_at command ≤ position
  pub right : first_fault (option_fault command words) position (length words - position) ≡ options_fault command words
  pub given : AreGiven (before command words position) settings
  pub long : length settings ≡ OPTION_COUNT

-- no option is set
abbrev pub unset : List (Option ℕ)
unset = replicate OPTION_COUNT None

none_among : (n place : ℕ) → get_or (replicate {A = Option ℕ} n None) place None ≡ None
none_among zero place = refl
none_among (suc n) zero = refl
none_among (suc n) (suc place) = none_among n place

none_set : (place : ℕ) → get_or unset place None ≡ None
none_set place = none_among OPTION_COUNT place

pub so_first : (command : Command) (words : List (List ℕ)) → SoFar command words (options_at command) unset
so_first command words =
    let zero_many : 0 ≡ options_at command - options_at command = omega arith in
    record {
      after = omega arith;
      right = refl;
      given = let P : ℕ → Type 0 = λ n. AreGiven (take n (drop (options_at command) words)) unset in subst P zero_many (given_none unset none_set);
      long = refl;
    }

set_by_for : (command : Command) (text : List ℕ) (s : Setting) → set_for command text ≡ Some s → set_by text ≡ Some s
set_by_for command text s e = elim ((entry_of command).has_options) as (λ t. (if t then set_by text else None) ≡ Some s → set_by text ≡ Some s) [
  | true ↦ λ is. is
  | false ↦ λ is. absurd (cc)
] e

-- one option more
before_more : (command : Command) (words : List (List ℕ)) (position : ℕ) → options_at command ≤ position → position < length words
    → before command words position ++ word words position ∷ [] ≡ before command words (position + 1)
before_more command words position le lt =
    let start = options_at command in let later = drop start words in let k = position - start in
    let there : k < length later = omega (arith, length-drop start words) in
    let sum : start + k ≡ position = omega arith in
    let here : get_or later k [] ≡ word words position = get_or-drop start words k [] ∙ ap (λ (n : ℕ). word words n) sum in
    let next : k + 1 ≡ (position + 1) - start = omega arith in
    sym (take_more later k [] there ∙ ap (λ (text : List ℕ). take k later ++ text ∷ []) here) ∙ ap (λ (n : ℕ). take n later) next

-- a word that sets an option
abbrev at_setting : Command → List (List ℕ) → ℕ → Setting → Type 0
at_setting command words position s = set_for command (word words position) ≡ Some s

fault_is : (command : Command) (words : List (List ℕ)) (position : ℕ) (s : Setting) (settings : List (Option ℕ)) (t : Bool) → SoFar command words position settings → at_setting command words position s → s.place < OPTION_COUNT
    → is_some (get_or settings s.place None) ≡ t → option_fault command words position ≡ (if t then Some (RepeatedOption position) else None)
fault_is command words position s settings t so sets lt is =
    ap (λ (o : Option Setting). setting_fault (before command words position) o position) sets
    ∙ ap (λ (o : Option ℕ). if is_some o then Some (RepeatedOption position) else None) (sym (so.given.at s.place lt))
    ∙ ap (λ (b : Bool). if b then Some (RepeatedOption position) else None) is

pub so_next : (command : Command) (words : List (List ℕ)) (position : ℕ) (settings : List (Option ℕ)) (s : Setting) → SoFar command words position settings → position < length words → at_setting command words position s → s.place < OPTION_COUNT
    → is_some (get_or settings s.place None) ≡ false → SoFar command words (position + 1) (set settings s.place (Some s.value))
so_next command words position settings s so lt sets within free = record {
  after = let le = so.after in omega arith;
  right = first_next (option_fault command words) position (length words) _ lt (fault_is command words position s settings false so sets within free) so.right;
  given =
      let P : List (List ℕ) → Type 0 = λ ws. AreGiven ws (set settings s.place (Some s.value)) in
      subst P (before_more command words position so.after lt)
      (given_set (before command words position) settings (word words position) s so.given so.long within (set_by_for command (word words position) s sets) (none_by _ free));
  long = length-set settings s.place (Some s.value) ∙ so.long;
}

-- an option that is set again
pub so_repeated : (command : Command) (words : List (List ℕ)) (position : ℕ) (settings : List (Option ℕ)) (s : Setting) → SoFar command words position settings → position < length words → at_setting command words position s → s.place < OPTION_COUNT
    → is_some (get_or settings s.place None) ≡ true → options_fault command words ≡ Some (RepeatedOption position)
so_repeated command words position settings s so lt sets within again =
    sym (first_here (option_fault command words) position (length words) _ (Some (RepeatedOption position)) lt (fault_is command words position s settings true so sets within again) refl so.right)

-- a word that is no option
pub so_bad : (command : Command) (words : List (List ℕ)) (position : ℕ) (settings : List (Option ℕ)) → SoFar command words position settings → position < length words → set_for command (word words position) ≡ None
    → options_fault command words ≡ Some (BadOption position)
so_bad command words position settings so lt none =
    sym (first_here (option_fault command words) position (length words) _ (Some (BadOption position)) lt (ap (λ (o : Option Setting). setting_fault (before command words position) o position) none) refl so.right)

-- no word is left
pub so_last : (command : Command) (words : List (List ℕ)) (position : ℕ) (settings : List (Option ℕ)) → SoFar command words position settings → length words ≤ position → options_fault command words ≡ None
so_last command words position settings so le = sym (first_end (option_fault command words) position (length words) _ le so.right)

pub all_given : (command : Command) (words : List (List ℕ)) (position : ℕ) (settings : List (Option ℕ)) → SoFar command words position settings → length words ≤ position → AreGiven (drop (options_at command) words) settings
all_given command words position settings so le =
    let start = options_at command in
    let whole : length (drop start words) ≤ position - start = omega (arith, length-drop start words) in
    let P : List (List ℕ) → Type 0 = λ ws. AreGiven ws settings in subst P (take_all (position - start) (drop start words) whole) so.given
