-- The whole numbers that words write.
use Rattle.std.specs.Prelude.{ℕ, List, ℤ, pos, neg_ℤ, drop, Option, Some, None, if◌then◌else◌}
use Rattle.std.specs.Option.{option_map}
use Rattle.std.specs.Str.{all_ascii_digits}
use Rattle.std.specs.Str.Parse.{digits_value, starts_with_minus}
use Rattle.sgm_text.specs.Words.{has_bytes}

-- the number that one or more digits write, as many as stand there, or none
abbrev pub digits_of : List ℕ → Option ℕ
digits_of digits =
    if has_bytes digits then (if all_ascii_digits digits then Some (digits_value 10 digits)
    else None) else None

-- the number that a word writes: one or more digits, or `-` and one or more digits; or none
abbrev pub number_of : List ℕ → Option ℤ
number_of word =
    if starts_with_minus word then option_map (λ n. neg_ℤ (pos n)) (digits_of (drop 1 word))
    else option_map pos (digits_of word)
