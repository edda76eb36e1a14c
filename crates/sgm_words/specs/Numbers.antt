-- Decimal numbers among the words.
use Rattle.std.specs.Prelude.{ℕ, ◌+◌, ◌-◌, ◌*◌, List, Bool, not, ◌&&◌, nat_le, ◌==◌, if◌then◌else◌}
use Rattle.std.specs.Prelude.{Option, None, Some, fold, length}
use Rattle.std.specs.List.{list_all}
use Rattle.std.specs.Char.{is_ascii_digit}

-- the value of decimal digits
abbrev pub value_of : List ℕ → ℕ
value_of digits = fold (λ n c. 10 * n + (c - 48)) 0 digits

-- one or more decimal digits and nothing else
abbrev pub is_number : List ℕ → Bool
is_number text = not (length text == 0) && list_all is_ascii_digit text

-- the value of a text that is a number from low to high
unfoldable pub number_within : ℕ → ℕ → List ℕ → Option ℕ
number_within low high text = if is_number text
    && (nat_le low (value_of text) && nat_le (value_of text) high) then Some (value_of text)
    else None

-- the value of an operand that is a number
abbrev pub number_of : List ℕ → Option ℕ
number_of text = number_within 0 4294967295 text
