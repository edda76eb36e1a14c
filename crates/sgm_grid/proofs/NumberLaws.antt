-- The numbers that words write.
use Rattle.std.proofs.Common.{◌≡◌, ℕ, zero, suc, ◌+◌, ◌-◌, ◌*◌, ◌<◌, min, List, [], ◌∷◌, ◌++◌, length, take, drop, get_or, Bool, true, false, ◌&&◌, Option, Some, None, pos, neg_ℤ, if◌then◌else◌, refl, sym, ap, ◌∙◌, arith, length-drop}
use Rattle.std.specs.Char.{is_ascii_digit, digit_value}
use Rattle.std.specs.Option.{option_map}
use Rattle.std.specs.Str.{all_ascii_digits}
use Rattle.std.specs.Str.Parse.{digits_value, starts_with_minus}
use Rattle.std.proofs.lemmas.Bool.Decides.{nat_tests}
use Rattle.std.proofs.lemmas.Int.{ints, clamps}
use Rattle.std.proofs.lemmas.Int.Digits.{digits_value_more}
use Rattle.std.proofs.lemmas.List.{take_all, take_more}
use Rattle.sgm_grid.specs.declared.numbers.TheConstants.{TOO_GREAT}
use Rattle.sgm_grid.specs.Capped.{capped, capped_size}
use Rattle.sgm_grid.specs.Numbers.{digits_of, number_of}

and_intro : (x y : Bool) → x ≡ true → y ≡ true → (x && y) ≡ true
and_intro x y p q = ap (λ (t : Bool). t && y) p ∙ q

and_no_right : (x y : Bool) → y ≡ false → (x && y) ≡ false
and_no_right true y q = q
and_no_right false y q = refl

pub not_digits : (digits : List ℕ) (k : ℕ) → k < length digits → is_ascii_digit (get_or digits k 0) ≡ false → all_ascii_digits digits ≡ false
not_digits [] k inside other = absurd (omega arith)
not_digits (d ∷ digits) zero inside other = ap (λ (t : Bool). t && all_ascii_digits digits) other
not_digits (d ∷ digits) (suc k) inside other = and_no_right (is_ascii_digit d) (all_ascii_digits digits) (not_digits digits k (omega arith) other)

pub no_size : (digits : List ℕ) → all_ascii_digits digits ≡ false → None ≡ option_map capped_size (digits_of digits)
no_size [] other = refl
no_size (d ∷ digits) other = sym (ap (λ (t : Bool). option_map capped_size (if t then Some (digits_value 10 (d ∷ digits)) else None)) other)

digits_push : (digits : List ℕ) (d : ℕ) → all_ascii_digits digits ≡ true → is_ascii_digit d ≡ true → all_ascii_digits (digits ++ d ∷ []) ≡ true
digits_push [] d all digit = and_intro (is_ascii_digit d) true digit refl
digits_push (c ∷ digits) d all digit =
    and_intro (is_ascii_digit c) (all_ascii_digits (digits ++ d ∷ [])) (and_left _ _ all) (digits_push digits d (and_right _ _ all) digit)
  where
    and_left : (x y : Bool) → (x && y) ≡ true → x ≡ true
    and_left true y h = refl
    and_left false y h = absurd cc

    and_right : (x y : Bool) → (x && y) ≡ true → y ≡ true
    and_right true y h = h
    and_right false y h = absurd cc

pub digits_more : (digits : List ℕ) (k : ℕ) → k < length digits → all_ascii_digits (take k digits) ≡ true → is_ascii_digit (get_or digits k 0) ≡ true
    → all_ascii_digits (take (k + 1) digits) ≡ true
digits_more digits k inside all digit = ap all_ascii_digits (take_more digits k 0 inside) ∙ digits_push (take k digits) (get_or digits k 0) all digit

digit_value_is : (b : ℕ) → is_ascii_digit b ≡ true → digit_value b ≡ b - 48
digit_value_is b digit = grind (arith, nat_tests)

capped_more : (n b : ℕ) → is_ascii_digit b ≡ true → min (10 * min n TOO_GREAT + (b - 48)) TOO_GREAT ≡ min (n * 10 + digit_value b) TOO_GREAT
capped_more n b digit = omega (arith, digit_value_is b digit)

pub value_more : (digits : List ℕ) (k value next : ℕ) → k < length digits → is_ascii_digit (get_or digits k 0) ≡ true → value ≡ capped_size (digits_value 10 (take k digits))
    → next ≡ min (10 * value + (get_or digits k 0 - 48)) TOO_GREAT → next ≡ capped_size (digits_value 10 (take (k + 1) digits))
value_more digits k value next inside digit is more =
    more ∙ ap (λ (n : ℕ). min (10 * n + (get_or digits k 0 - 48)) TOO_GREAT) is
    ∙ capped_more (digits_value 10 (take k digits)) (get_or digits k 0) digit
    ∙ ap capped_size (sym (digits_value_more 10 digits k inside))

negated : (size : Option ℕ) → option_map (λ n. neg_ℤ (pos n)) (option_map capped_size size) ≡ option_map capped (option_map (λ n. neg_ℤ (pos n)) size)
negated None = refl
negated (Some n) = let same : neg_ℤ (pos (capped_size n)) ≡ capped (neg_ℤ (pos n)) = omega (arith, ints, clamps) in ap Some same

-- the number of a word that begins with `-`, from the size of what follows
pub minus_number : (word : List ℕ) (size : Option ℕ) → starts_with_minus word ≡ true
    → size ≡ option_map capped_size (digits_of (take (length word - 1) (drop 1 word)))
    → option_map (λ n. neg_ℤ (pos n)) size ≡ option_map capped (number_of word)
minus_number word size minus is =
    let rest : take (length word - 1) (drop 1 word) ≡ drop 1 word = take_all (length word - 1) (drop 1 word) (omega (arith, length-drop 1 word)) in
    let negative = option_map (λ n. neg_ℤ (pos n)) (digits_of (drop 1 word)) in
    ap (option_map (λ n. neg_ℤ (pos n))) is
    ∙ ap (λ (digits : List ℕ). option_map (λ n. neg_ℤ (pos n)) (option_map capped_size (digits_of digits))) rest
    ∙ negated (digits_of (drop 1 word))
    ∙ sym (ap (λ (b : Bool). option_map capped (if b then negative else option_map pos (digits_of word))) minus)
