-- What it says of a list that none of its entries clashes.
use Rattle.std.proofs.Common.{◌≡◌, ◌≢◌, ℕ, ◌+◌, ◌<◌, List, take, length, true, false, Option, Some, None, refl, sym, ap, ◌∙◌, arith}
use Rattle.std.specs.Prelude.{slice_get}
use Rattle.std.specs.Option.{option_or, option_map, option_map_or}
use Rattle.std.specs.Str.{bytes_eq}
use Rattle.std.proofs.lemmas.Slice.Eq.{bytes_eq-Decides}
use Rattle.sgm_list.specs.Entries.{EntryNames, entries_of}
use Rattle.sgm_list.specs.Clashes.{is_output_of, is_output, overwrites, repeats, clashes_at, clashes, first_clash}
use Rattle.sgm_list.specs.Faults.{length_fault, text_fault, line_fault, count_fault, clash_fault, list_fault}
use Rattle.sgm_list.specs.declared.fault.ListFault.TheVariants.{Clash}
use Rattle.sgm_stages.proofs.Holding.{or_left, or_right}
use Rattle.sgm_series.proofs.Places.{in_take, in_length, any_false, none_found}

-- a list without a fault
pub no_clash : (list bytes : List ℕ) → list_fault list bytes ≡ None → first_clash list (entries_of bytes) ≡ None
unfolding list_fault
no_clash list bytes none =
    let fourth = last (count_fault bytes) (clash_fault list bytes) in
    let third = last (line_fault bytes) (option_or (count_fault bytes) (clash_fault list bytes)) in
    let second = last (text_fault bytes) (option_or (line_fault bytes) (option_or (count_fault bytes) (clash_fault list bytes))) in
    let first = last (length_fault bytes) _ none in
    unmapped (first_clash list (entries_of bytes)) (fourth (third (second first)))
  where
    last : {X : Type 0} (a b : Option X) → option_or a b ≡ None → b ≡ None
    last None b e = e
    last (Some x) b e = absurd (cc)

    unmapped : (o : Option ℕ) → option_map Clash o ≡ None → o ≡ None
    unmapped None e = refl
    unmapped (Some x) e = absurd (cc)

module _ (list : List ℕ) (entries : List EntryNames) (none : first_clash list entries ≡ None) where
  not_clashing : (place : ℕ) (entry : EntryNames) → slice_get entries place ≡ Some entry → clashes_at list entries place entry ≡ false
  not_clashing place entry at =
      sym (ap (λ (o : Option EntryNames). option_map_or (clashes_at list entries place) o false) at)
      ∙ ap (clashes list entries) (let e : place ≡ 0 + place = omega arith in e)
      ∙ none_found (clashes list entries) 0 (length entries) none place (in_length entries place entry at)

  -- OUT is that of no earlier entry
  pub outs_differ : (one other : ℕ) (a b : EntryNames) → slice_get entries one ≡ Some a → slice_get entries other ≡ Some b → one < other → a.out ≢ b.out
  outs_differ one other a b at_one at_other lt same =
      let fails : repeats entries other b.out ≡ false = or_left (repeats entries other b.out) _ (not_clashing other b at_other) in
      let apart : bytes_eq b.out a.out ≡ false = any_false (λ earlier. bytes_eq b.out earlier.out) (take other entries) one a fails (in_take other entries one a lt at_one) in
      let equal : bytes_eq b.out a.out ≡ true = (bytes_eq-Decides b.out a.out).1 (sym same) in
      absurd (cc)

  untouched : (place : ℕ) (entry : EntryNames) → slice_get entries place ≡ Some entry → overwrites entries entry ≡ false
  untouched place entry at =
      or_left (overwrites entries entry) (is_output_of entry list) (or_right (repeats entries place entry.out) _ (not_clashing place entry at))

  -- no input is an output
  pub left_apart : (place : ℕ) (entry : EntryNames) → slice_get entries place ≡ Some entry → is_output entries entry.left ≡ false
  left_apart place entry at = or_left (is_output entries entry.left) _ (untouched place entry at)

  pub right_apart : (place : ℕ) (entry : EntryNames) → slice_get entries place ≡ Some entry → is_output entries entry.right ≡ false
  right_apart place entry at = or_left (is_output entries entry.right) _ (or_right (is_output entries entry.left) _ (untouched place entry at))

  pub calib_apart : (place : ℕ) (entry : EntryNames) (calib : List ℕ) → slice_get entries place ≡ Some entry → entry.calib ≡ Some calib → is_output entries calib ≡ false
  calib_apart place entry calib at is =
      sym (ap (λ (o : Option (List ℕ)). option_map_or (is_output entries) o false) is)
      ∙ or_right (is_output entries entry.right) _ (or_right (is_output entries entry.left) _ (untouched place entry at))
