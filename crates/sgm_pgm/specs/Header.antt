-- The header of a PGM text.
use Rattle.std.specs.Prelude.{◌≡◌, ◌≢◌, ◌⊎◌, ℕ, ◌+◌, ◌<◌, List, [], ◌∷◌, ◌++◌, Bool, false, ◌==◌}
use Rattle.std.specs.Prelude.{◌||◌, nat_le, ◌&&◌, IsTrue, codes, length, take}
use Rattle.std.specs.List.{AllByRecursion, concat}
use Rattle.std.specs.Str.{all_ascii_digits}
use Rattle.std.specs.Str.Parse.{digits_value}

-- space, TAB, LF, VT, FF or CR
abbrev pub is_white : ℕ → Bool
is_white b = b == 32 || (nat_le 9 b && nat_le b 13)

-- LF or CR
abbrev pub ends_line : ℕ → Bool
ends_line b = b == 10 || b == 13

-- `#`, and all bytes up to and with the next LF or CR
pub record IsComment (bytes : List ℕ) : Type 0 where
  pub text : List ℕ
  pub last : ℕ
  pub is : bytes ≡ 35 ∷ (text ++ last ∷ [])
  pub within : AllByRecursion (λ b. ends_line b ≡ false) text
  pub ended : IsTrue (ends_line last)

-- a white byte or a comment
abbrev pub IsPiece : List ℕ → Type 0
IsPiece bytes = ((b : ℕ) × IsTrue (is_white b) × (bytes ≡ b ∷ [])) ⊎ IsComment bytes

-- one or more white bytes and comments, in any order
pub record IsGap (bytes : List ℕ) : Type 0 where
  pub pieces : List (List ℕ)
  pub some : pieces ≢ []
  pub each : AllByRecursion IsPiece pieces
  pub is : bytes ≡ concat pieces

-- one or more ASCII digits, and the number that they write
pub record IsNumber (digits : List ℕ) (value : ℕ) : Type 0 where
  pub some : digits ≢ []
  pub each : IsTrue (all_ascii_digits digits)
  pub is : value ≡ digits_value 10 digits

-- One after the other: `P5`, a Gap, the width, a Gap, the height, a Gap, maxval, and one white
-- byte. A digit stands after each Gap, and none after a number, so each is as long as it can be.
pub record IsHeader (bytes : List ℕ) (width height maxval : ℕ) : Type 0 where
  pub before_width : List ℕ
  pub width_digits : List ℕ
  pub before_height : List ℕ
  pub height_digits : List ℕ
  pub before_maxval : List ℕ
  pub maxval_digits : List ℕ
  pub last : ℕ
  pub is : bytes ≡ concat (codes "P5" ∷ before_width ∷ width_digits ∷ before_height ∷ height_digits
      ∷ before_maxval ∷ maxval_digits ∷ (last ∷ []) ∷ [])
  pub width_gap : IsGap before_width
  pub width_is : IsNumber width_digits width
  pub height_gap : IsGap before_height
  pub height_is : IsNumber height_digits height
  pub maxval_gap : IsGap before_maxval
  pub maxval_is : IsNumber maxval_digits maxval
  pub ended : IsTrue (is_white last)

-- the bytes are a header
abbrev pub HasHeaderForm : List ℕ → Type 0
HasHeaderForm bytes = (width height maxval : ℕ) × IsHeader bytes width height maxval

-- a header begins with these bytes
abbrev pub BeginsHeader : List ℕ → Type 0
BeginsHeader bytes = (more : List ℕ) × HasHeaderForm (bytes ++ more)

-- a header begins with these bytes and goes on behind them
abbrev pub IsUnfinished : List ℕ → Type 0
IsUnfinished bytes = (next : ℕ) × (more : List ℕ) × HasHeaderForm (bytes ++ next ∷ more)

-- the bytes before `at` are an unfinished header, and with the byte at `at` no header begins with
-- them
pub record IsWrongAt (bytes : List ℕ) (at : ℕ) : Type 0 where
  pub inside : at < length bytes
  pub before : IsUnfinished (take at bytes)
  pub here : ¬ BeginsHeader (take (at + 1) bytes)

-- the bytes are a header and what stands behind it
pub record HasHeader (bytes : List ℕ) (width height maxval : ℕ) (behind : List ℕ) : Type 0 where
  pub header : List ℕ
  pub is : bytes ≡ header ++ behind
  pub form : IsHeader header width height maxval
