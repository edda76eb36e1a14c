-- The first fault of a list of names, check by check.
use Rattle.std.proofs.Common.{◌≡◌, ℕ, ◌≤◌, ◌==◌, List, length, Bool, false, cond, inl, inr, Option, Some, None, Err, ne_eqb, sym, ap, ◌∙◌, arith}
use Rattle.std.specs.List.{position_from}
use Rattle.std.specs.Prelude.{nat_lt}
use Rattle.std.specs.Option.{option_map, option_or}
use Rattle.std.specs.Str.{IsUtf8, is_utf8}
use Rattle.std.proofs.lemmas.Bool.{cases_lt, lt-ltb}
use Rattle.std.proofs.lemmas.Str.{IsUtf8-from_is_utf8, is_utf8-from_IsUtf8}
use Rattle.sgm_list.specs.declared.names.NamesFault.{NamesFault}
use Rattle.sgm_list.specs.declared.names.NamesFault.TheVariants.{NotText, Line, NoEntries, TooMany, Output}
use Rattle.sgm_list.specs.declared.limits.TheConstants.{MAX_ENTRIES}
use Rattle.sgm_text.specs.Words.{lines_of}
use Rattle.sgm_list.specs.Faults.{is_faulty}
use Rattle.sgm_list.specs.Names.{count_fault, fault_of_count, is_written, line_fault, names_fault, names_in, names_reading, output_fault, unless_fault}
use Rattle.sgm_list.proofs.Joins.{is_false}

module _ (out bytes : List ℕ) where
  -- what is read where this is the first fault
  reads : (fault : Option NamesFault) → names_fault out bytes ≡ fault → names_reading out bytes ≡ unless_fault fault (names_in bytes)
  reads fault = ap (λ (f : Option NamesFault). unless_fault f (names_in bytes))

  pub no_text : ¬ (IsUtf8 bytes) → names_reading out bytes ≡ Err NotText
  unfolding names_fault
  no_text other =
      let none : false ≡ is_utf8 bytes = is_false (is_utf8 bytes) (λ h. other (IsUtf8-from_is_utf8 bytes h)) in
      reads (Some NotText) (ap (λ (b : Bool). option_or (cond b None (Some NotText)) (option_or (line_fault bytes) (option_or (count_fault bytes) (output_fault out bytes)))) (sym none))

  module _ (text : IsUtf8 bytes) where
    lines_first : (o : Option NamesFault) → option_or (line_fault bytes) (option_or (count_fault bytes) (output_fault out bytes)) ≡ o → names_fault out bytes ≡ o
    unfolding names_fault
    lines_first o so =
        ap (λ (b : Bool). option_or (cond b None (Some NotText)) (option_or (line_fault bytes) (option_or (count_fault bytes) (output_fault out bytes)))) (is_utf8-from_IsUtf8 bytes text) ∙ so

    pub bad_line : (number : ℕ) → position_from (is_faulty 1) 1 (lines_of bytes) ≡ Some number → names_reading out bytes ≡ Err (Line number)
    bad_line number first =
        reads (Some (Line number)) (lines_first (Some (Line number)) (ap (λ (o : Option ℕ). option_or (option_map Line o) (option_or (count_fault bytes) (output_fault out bytes))) first))

    module _ (lines : position_from (is_faulty 1) 1 (lines_of bytes) ≡ None) (count : ℕ) (is : count ≡ length (names_in bytes)) where
      count_first : (o : Option NamesFault) → option_or (fault_of_count count) (output_fault out bytes) ≡ o → names_fault out bytes ≡ o
      count_first o so =
          lines_first o (
          ap (λ (o : Option ℕ). option_or (option_map Line o) (option_or (count_fault bytes) (output_fault out bytes))) lines
          ∙ sym (ap (λ (n : ℕ). option_or (fault_of_count n) (output_fault out bytes)) is)
          ∙ so)

      pub bad_count : (fault : NamesFault) → Some fault ≡ fault_of_count count → names_reading out bytes ≡ Err fault
      bad_count fault at =
          reads (Some fault) (count_first (Some fault) (ap (λ (o : Option NamesFault). option_or o (output_fault out bytes)) (sym at)))

      -- what is left to find
      pub output_left : (first : Option ℕ) → None ≡ fault_of_count count → first ≡ position_from (is_written out) 0 (names_in bytes)
          → names_reading out bytes ≡ unless_fault (option_map Output first) (names_in bytes)
      output_left first at found =
          reads (option_map Output first) (count_first (option_map Output first) (
          ap (λ (o : Option NamesFault). option_or o (output_fault out bytes)) (sym at)
          ∙ ap (λ (o : Option ℕ). option_map Output o) (sym found)))

-- so many names that nothing is wrong with are few
pub few_names : (count : ℕ) → None ≡ fault_of_count count → count ≤ MAX_ENTRIES
few_names count at = elim (cases_lt MAX_ENTRIES count) [
  | inl many ↦
      let some : (count == 0) ≡ false = ne_eqb count 0 (λ (e : count ≡ 0). omega arith) in
      let is : fault_of_count count ≡ Some TooMany =
      ap (λ (b : Bool). cond b (Some NoEntries) (cond (nat_lt MAX_ENTRIES count) (Some TooMany) None)) some
      ∙ ap (λ (b : Bool). cond b (Some TooMany) None) (lt-ltb MAX_ENTRIES count many)
      in absurd (cc (at, is))
  | inr few ↦ few
]
