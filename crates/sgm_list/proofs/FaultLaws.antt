-- The first fault, check by check.
use Rattle.std.proofs.Common.{◌≡◌, ℕ, ◌<◌, ◌≤◌, List, length, Bool, false, cond, Option, Some, None, sym, ap, ◌∙◌, arith}
use Rattle.std.specs.List.{position_from}
use Rattle.std.specs.Prelude.{nat_lt}
use Rattle.std.specs.Option.{option_map, option_or}
use Rattle.std.specs.Str.{IsUtf8, is_utf8}
use Rattle.std.proofs.lemmas.Bool.{le-ltb, lt-ltb}
use Rattle.std.proofs.lemmas.Str.{IsUtf8-from_is_utf8, is_utf8-from_IsUtf8}
use Rattle.sgm_list.specs.declared.fault.ListFault.{ListFault}
use Rattle.sgm_list.specs.declared.fault.ListFault.TheVariants.{TooLong, NotText, Line, TooMany, Clash}
use Rattle.sgm_base.specs.declared.limits.TheConstants.{MAX_LIST_BYTES}
use Rattle.sgm_list.specs.declared.limits.TheConstants.{MAX_ENTRIES}
use Rattle.sgm_text.specs.Words.{lines_of}
use Rattle.sgm_list.specs.Entries.{entries_of}
use Rattle.sgm_list.specs.Clashes.{first_clash}
use Rattle.sgm_list.specs.Faults.{clash_fault, count_fault, is_faulty, length_fault, line_fault, list_fault, text_fault}
use Rattle.sgm_list.proofs.Joins.{is_false}

module _ (list bytes : List ℕ) (short : length bytes ≤ MAX_LIST_BYTES) where
  not_long : length_fault bytes ≡ None
  not_long = ap (λ (b : Bool). cond b (Some TooLong) None) (le-ltb MAX_LIST_BYTES (length bytes) short)

  behind : (o : Option ListFault) → option_or (text_fault bytes) (option_or (line_fault bytes) (option_or (count_fault bytes) (clash_fault list bytes))) ≡ o → list_fault list bytes ≡ o
  unfolding list_fault
  behind o so = ap (λ (f : Option ListFault). option_or f (option_or (text_fault bytes) (option_or (line_fault bytes) (option_or (count_fault bytes) (clash_fault list bytes))))) not_long ∙ so

  pub no_text : ¬ (IsUtf8 bytes) → list_fault list bytes ≡ Some NotText
  no_text other =
      let none : false ≡ is_utf8 bytes = is_false (is_utf8 bytes) (λ h. other (IsUtf8-from_is_utf8 bytes h)) in
      behind (Some NotText) (ap (λ (b : Bool). option_or (cond b None (Some NotText)) (option_or (line_fault bytes) (option_or (count_fault bytes) (clash_fault list bytes)))) (sym none))

  module _ (text : IsUtf8 bytes) where
    lines_first : (o : Option ListFault) → option_or (line_fault bytes) (option_or (count_fault bytes) (clash_fault list bytes)) ≡ o → list_fault list bytes ≡ o
    lines_first o so =
        behind o (ap (λ (b : Bool). option_or (cond b None (Some NotText)) (option_or (line_fault bytes) (option_or (count_fault bytes) (clash_fault list bytes)))) (is_utf8-from_IsUtf8 bytes text) ∙ so)

    pub bad_line : (number : ℕ) → position_from (is_faulty 4) 1 (lines_of bytes) ≡ Some number → list_fault list bytes ≡ Some (Line number)
    bad_line number first =
        lines_first (Some (Line number)) (ap (λ (o : Option ℕ). option_or (option_map Line o) (option_or (count_fault bytes) (clash_fault list bytes))) first)

    module _ (lines : position_from (is_faulty 4) 1 (lines_of bytes) ≡ None) where
      count_first : (o : Option ListFault) → option_or (count_fault bytes) (clash_fault list bytes) ≡ o → list_fault list bytes ≡ o
      count_first o so =
          lines_first o (ap (λ (o : Option ℕ). option_or (option_map Line o) (option_or (count_fault bytes) (clash_fault list bytes))) lines ∙ so)

      pub too_many : (count : ℕ) → count ≡ length (entries_of bytes) → MAX_ENTRIES < count → list_fault list bytes ≡ Some (TooMany count)
      too_many count is many =
          count_first (Some (TooMany count)) (
          sym (ap (λ (n : ℕ). option_or (cond (nat_lt MAX_ENTRIES n) (Some (TooMany n)) None) (clash_fault list bytes)) is)
          ∙ ap (λ (b : Bool). option_or (cond b (Some (TooMany count)) None) (clash_fault list bytes)) (lt-ltb MAX_ENTRIES count many))

      -- what is left to find
      pub clash_left : (count : ℕ) (first : Option ℕ) → count ≡ length (entries_of bytes) → count ≤ MAX_ENTRIES → first ≡ first_clash list (entries_of bytes)
          → list_fault list bytes ≡ option_map Clash first
      clash_left count first is few found =
          count_first (option_map Clash first) (
          ap (λ (b : Bool). option_or (cond b (Some (TooMany (length (entries_of bytes)))) None) (clash_fault list bytes)) (le-ltb MAX_ENTRIES (length (entries_of bytes)) (let l : length (entries_of bytes) ≤ MAX_ENTRIES = omega arith in l))
          ∙ ap (λ (o : Option ℕ). option_map Clash o) (sym found))
