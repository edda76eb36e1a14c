-- The head of a text, line by line.
use Rattle.std.proofs.Common.{◌≡◌, ℕ, ◌+◌, List, [], ◌∷◌, Bool, true, false, ℤ, pos, neg_ℤ, Option, Some, None, codes, is_some, if◌then◌else◌, refl, sym, ap, ◌∙◌, subst, arith, ◌≤◌, unsigned_abs, FitsSigned, Fits, w32, w64, to_z, of_z, ◌⊎◌, inl, inr, drop, unwrap_or, Result, Err}
use Rattle.std.specs.Option.{option_map}
use Rattle.std.proofs.lemmas.Int.{ints, clamps, to_z-of_z}
use Rattle.sgm_base.specs.Ranges.{IsFromTo}
use Rattle.sgm_grid.specs.Capped.{capped}
use lib.Dec.{T}
use lib.Signed.{non_neg}
use Rattle.std.specs.Str.{str_eq_ignore_ascii_case}
use Rattle.sgm_base.specs.declared.limits.TheConstants.{MAX_GRID_LINES}
use Rattle.sgm_grid.specs.declared.asc_fault.AscFault.{AscFault}
use Rattle.sgm_grid.specs.declared.asc_fault.AscFault.TheVariants.{Word, Range, Count, Height}
use Rattle.sgm_grid.specs.declared.limits.TheConstants.{MAX_PLACE, MAX_CELL, NO_HEIGHT}
use Rattle.sgm_grid.specs.declared.grid_spec.GridSpec.{GridSpec}
use Rattle.sgm_grid.specs.declared.head.Numbers.{Numbers}
use Rattle.sgm_grid.specs.Asc.{Place, named, number, head, first_failing, first_of, grid_of, is_in_range, is_kind, is_from_to, number_at, spec_in, told_by}
use Rattle.sgm_grid.specs.Cells.{Cells}
use Rattle.sgm_grid.specs.Numbers.{number_of}
use Rattle.sgm_grid.specs.Head.{HasLine, HasNumbers, IsRangeFault, IsWordFault, LacksAt, LacksNumber, LacksLine, first_out, out_of, spec_told}

-- over a line
pub over_line : {name : List ℕ} {words rest : List (List ℕ)} {value : ℤ} (at : ℕ) (low high : ℤ) (places : List Place) → HasLine name words value rest
    → first_failing is_kind at (named name ∷ number low high ∷ places) words ≡ first_failing is_kind (at + 1 + 1) places rest
over_line {name} {words} {rest} {value} at low high places line =
    ap (first_failing is_kind at (named name ∷ number low high ∷ places)) line.is
    ∙ ap (λ (t : Bool). if t then first_failing is_kind (at + 1) (number low high ∷ places) line.more else Some at) line.named
    ∙ ap (first_failing is_kind (at + 1) (number low high ∷ places)) line.number.is
    ∙ ap (λ (o : Option ℤ). if is_some o then first_failing is_kind (at + 1 + 1) places rest else Some (at + 1)) line.number.writes

pub over : {name : List ℕ} {words rest : List (List ℕ)} {value : ℤ} (at : ℕ) (low high : ℤ) (places : List Place) (fault : AscFault) → HasLine name words value rest
    → LacksAt (at + 1 + 1) places rest fault → LacksAt at (named name ∷ number low high ∷ places) words fault
over at low high places (Word k) line lacks = over_line at low high places line ∙ lacks
over at low high places (Range k) line lacks = lacks
over at low high places (Count have need) line lacks = lacks
over at low high places (Height index) line lacks = lacks

-- what stands in a head behind each of its lines
abbrev pub after_cell : List Place
after_cell = named (codes "nodata_value") ∷ number NO_HEIGHT NO_HEIGHT ∷ []

abbrev pub after_south : List Place
after_south = named (codes "cellsize") ∷ number (pos 1) MAX_CELL ∷ after_cell

abbrev pub after_west : List Place
after_west = named (codes "yllcorner") ∷ number (neg_ℤ MAX_PLACE) MAX_PLACE ∷ after_south

abbrev pub after_rows : List Place
after_rows = named (codes "xllcorner") ∷ number (neg_ℤ MAX_PLACE) MAX_PLACE ∷ after_west

abbrev pub after_cols : List Place
after_cols = named (codes "nrows") ∷ number (pos 1) (pos MAX_GRID_LINES) ∷ after_rows

pub over_cols : {words rest : List (List ℕ)} {value : ℤ} (fault : AscFault) → HasLine (codes "ncols") words value rest → LacksAt 2 after_cols rest fault → IsWordFault words fault
over_cols fault line lacks = over 0 (pos 1) (pos MAX_GRID_LINES) after_cols fault line lacks

pub over_rows : {words rest : List (List ℕ)} {value : ℤ} (fault : AscFault) → HasLine (codes "nrows") words value rest → LacksAt 4 after_rows rest fault → LacksAt 2 after_cols words fault
over_rows fault line lacks = over 2 (pos 1) (pos MAX_GRID_LINES) after_rows fault line lacks

pub over_west : {words rest : List (List ℕ)} {value : ℤ} (fault : AscFault) → HasLine (codes "xllcorner") words value rest → LacksAt 6 after_west rest fault → LacksAt 4 after_rows words fault
over_west fault line lacks = over 4 (neg_ℤ MAX_PLACE) MAX_PLACE after_west fault line lacks

pub over_south : {words rest : List (List ℕ)} {value : ℤ} (fault : AscFault) → HasLine (codes "yllcorner") words value rest → LacksAt 8 after_south rest fault → LacksAt 6 after_west words fault
over_south fault line lacks = over 6 (neg_ℤ MAX_PLACE) MAX_PLACE after_south fault line lacks

pub over_cell : {words rest : List (List ℕ)} {value : ℤ} (fault : AscFault) → HasLine (codes "cellsize") words value rest → LacksAt 10 after_cell rest fault → LacksAt 8 after_south words fault
over_cell fault line lacks = over 8 (pos 1) MAX_CELL after_cell fault line lacks

-- a name without its number
pub lacks_line : (name word : List ℕ) (at : ℕ) (words more : List (List ℕ)) (fault : AscFault) → words ≡ word ∷ more → str_eq_ignore_ascii_case word name ≡ true
    → LacksNumber (at + 1) more fault → LacksLine name at words fault
lacks_line name word at words more (Word k) is same lacks low high places =
    ap (first_failing is_kind at (named name ∷ number low high ∷ places)) is
    ∙ ap (λ (t : Bool). if t then first_failing is_kind (at + 1) (number low high ∷ places) more else Some at) same
    ∙ lacks low high places
lacks_line name word at words more (Range k) is same lacks low high places = lacks low high places
lacks_line name word at words more (Count have need) is same lacks low high places = lacks low high places
lacks_line name word at words more (Height index) is same lacks low high places = lacks low high places

-- no word is there
pub lacks_word : (at : ℕ) (words : List (List ℕ)) → words ≡ [] → LacksNumber at words (Word at)
lacks_word at words is low high places = ap (first_failing is_kind at (number low high ∷ places)) is

not_some : (o : Option ℤ) → option_map capped o ≡ None → is_some o ≡ false
not_some None e = refl
not_some (Some real) e = absurd cc

-- the word there writes no number
pub lacks_number : (word : List ℕ) (at : ℕ) (words more : List (List ℕ)) → words ≡ word ∷ more → option_map capped (number_of word) ≡ None → LacksNumber at words (Word at)
lacks_number word at words more is none low high places =
    ap (first_failing is_kind at (number low high ∷ places)) is
    ∙ ap (λ (t : Bool). if t then first_failing is_kind (at + 1) places more else Some at) (not_some (number_of word) none)

-- ---- ranges

pub out_past : (low high value : ℤ) (at : ℕ) (others : Option ℕ) → is_from_to low high value ≡ true → out_of low high value at others ≡ others
out_past low high value at others inside = ap (λ (t : Bool). if t then others else Some at) inside

pub out_here : (low high value : ℤ) (at : ℕ) (others : Option ℕ) → is_from_to low high value ≡ false → out_of low high value at others ≡ Some at
out_here low high value at others outside = ap (λ (t : Bool). if t then others else Some at) outside

pub real_test : (low high value : ℤ) (b : Bool) → FitsSigned w64 value → is_from_to low high (to_z w64 (of_z w64 value)) ≡ b → is_from_to low high value ≡ b
real_test low high value b fits e = simp to_z-of_z at e

-- a number that has been found in a range, as the code hands it on
pub stays : (low high value : ℤ) → IsFromTo low high value → FitsSigned w64 value → IsFromTo low high (to_z w64 (of_z w64 value))
stays low high value within fits = let P : ℤ → Type 0 = IsFromTo low high in subst P (sym (to_z-of_z w64 value fits)) within

pub whole_lines : (value : ℤ) → IsFromTo (pos 1) (pos MAX_GRID_LINES) value → T (non_neg (to_z w64 (of_z w64 value))) × Fits w32 (unsigned_abs (to_z w64 (of_z w64 value)))
whole_lines value (from, to) = (omega (arith, ints), omega (arith, ints))

pub lines : (value : ℤ) → IsFromTo (pos 1) (pos MAX_GRID_LINES) value
    → (1 ≤ unsigned_abs (to_z w64 (of_z w64 value))) × (unsigned_abs (to_z w64 (of_z w64 value)) ≤ MAX_GRID_LINES)
lines value (from, to) = (omega (arith, ints), omega (arith, ints))

-- ---- numbers

pub some_capped : (o : Option ℤ) (value : ℤ) → option_map capped o ≡ Some value → (real : ℤ) × (o ≡ Some real) × (value ≡ capped real)
some_capped None value e = absurd cc
some_capped (Some real) value e = (real, refl, cc)

pub capped_fits : (real : ℤ) → to_z w64 (of_z w64 (capped real)) ≡ capped real
capped_fits real = omega (arith, ints, clamps)

-- ---- the whole head

pub line_words : {name : List ℕ} {words rest : List (List ℕ)} {value : ℤ} (line : HasLine name words value rest) → words ≡ line.word ∷ line.number.word ∷ rest
line_words {rest = rest} line = line.is ∙ ap (λ (t : List (List ℕ)). line.word ∷ t) line.number.is

pub all_words : (words rest : List (List ℕ)) (numbers : Numbers) (h : HasNumbers words numbers rest) → words ≡
    h.cols.word ∷ h.cols.number.word ∷ h.rows.word ∷ h.rows.number.word ∷ h.west.word ∷ h.west.number.word
    ∷ h.south.word ∷ h.south.number.word ∷ h.cell.word ∷ h.cell.number.word ∷ h.no_height.word ∷ h.no_height.number.word ∷ rest
all_words words rest numbers h =
    line_words h.cols
    ∙ ap (λ (t : List (List ℕ)). h.cols.word ∷ h.cols.number.word ∷ t) (line_words h.rows
    ∙ ap (λ (t : List (List ℕ)). h.rows.word ∷ h.rows.number.word ∷ t) (line_words h.west
    ∙ ap (λ (t : List (List ℕ)). h.west.word ∷ h.west.number.word ∷ t) (line_words h.south
    ∙ ap (λ (t : List (List ℕ)). h.south.word ∷ h.south.number.word ∷ t) (line_words h.cell
    ∙ ap (λ (t : List (List ℕ)). h.cell.word ∷ h.cell.number.word ∷ t) (line_words h.no_height)))))

words_stand : (words rest : List (List ℕ)) (numbers : Numbers) → HasNumbers words numbers rest → first_failing is_kind 0 head words ≡ None
words_stand words rest numbers h =
    over_line 0 (pos 1) (pos MAX_GRID_LINES) after_cols h.cols
    ∙ over_line 2 (pos 1) (pos MAX_GRID_LINES) after_rows h.rows
    ∙ over_line 4 (neg_ℤ MAX_PLACE) MAX_PLACE after_west h.west
    ∙ over_line 6 (neg_ℤ MAX_PLACE) MAX_PLACE after_south h.south
    ∙ over_line 8 (pos 1) MAX_CELL after_cell h.cell
    ∙ over_line 10 NO_HEIGHT NO_HEIGHT [] h.no_height

-- a range that no number that is too great is in
abbrev IsNear : ℤ → ℤ → Type 0
IsNear low high = IsFromTo (neg_ℤ (pos 4000000000)) (pos 4000000000) low × IsFromTo (neg_ℤ (pos 4000000000)) (pos 4000000000) high

which : (b : Bool) → (b ≡ true) ⊎ (b ≡ false)
which true = inl refl
which false = inr refl

pub from_to : (low high z : ℤ) → is_from_to low high z ≡ true → IsFromTo low high z
from_to low high z e = (grind (arith, ints), grind (arith, ints))

pub test_true : (low high z : ℤ) → IsFromTo low high z → is_from_to low high z ≡ true
test_true low high z (from, to) = grind (arith, ints)

-- a number in such a range isn't too great
pub real_one : (low high z : ℤ) → IsNear low high → IsFromTo low high (capped z) → capped z ≡ z
real_one low high z near within = omega (arith, ints, clamps, near.0.0, near.0.1, near.1.0, near.1.1, within.0, within.1)

not_capped : (low high z : ℤ) → IsNear low high → IsFromTo low high z → capped z ≡ z
not_capped low high z near within = omega (arith, ints, clamps, near.0.0, near.0.1, near.1.0, near.1.1, within.0, within.1)

test_capped : (low high z : ℤ) → IsNear low high → is_from_to low high z ≡ is_from_to low high (capped z)
test_capped low high z near =
    elim (which (is_from_to low high z)) [
      | inl inside ↦ ap (is_from_to low high) (sym (not_capped low high z near (from_to low high z inside)))
      | inr outside ↦ elim (which (is_from_to low high (capped z))) [
        | inl inside ↦ ap (is_from_to low high) (sym (real_one low high z near (from_to low high (capped z) inside)))
        | inr still ↦ outside ∙ sym still
      ]
    ]

in_line : {name : List ℕ} {words rest : List (List ℕ)} {value : ℤ} (at : ℕ) (low high : ℤ) (places : List Place) → IsNear low high → HasLine name words value rest
    → first_failing is_in_range at (named name ∷ number low high ∷ places) words ≡ out_of low high value (at + 1) (first_failing is_in_range (at + 1 + 1) places rest)
in_line {name} {words} {rest} {value} at low high places near line =
    let others = first_failing is_in_range (at + 1 + 1) places rest in
    ap (first_failing is_in_range at (named name ∷ number low high ∷ places)) (line_words line)
    ∙ ap (λ (o : Option ℤ). if is_from_to low high (unwrap_or o (pos 0)) then others else Some (at + 1)) line.number.writes
    ∙ ap (λ (b : Bool). if b then others else Some (at + 1)) (test_capped low high line.number.real near ∙ ap (is_from_to low high) (sym line.number.value_is))

near_lines : IsNear (pos 1) (pos MAX_GRID_LINES)
near_lines = ((omega (arith, ints), omega (arith, ints)), (omega (arith, ints), omega (arith, ints)))

near_place : IsNear (neg_ℤ MAX_PLACE) MAX_PLACE
near_place = ((omega (arith, ints), omega (arith, ints)), (omega (arith, ints), omega (arith, ints)))

near_cell : IsNear (pos 1) MAX_CELL
near_cell = ((omega (arith, ints), omega (arith, ints)), (omega (arith, ints), omega (arith, ints)))

near_none : IsNear NO_HEIGHT NO_HEIGHT
near_none = ((omega (arith, ints), omega (arith, ints)), (omega (arith, ints), omega (arith, ints)))

ranges_stand : (words rest : List (List ℕ)) (numbers : Numbers) → HasNumbers words numbers rest → first_failing is_in_range 0 head words ≡ first_out numbers
unfolding first_out
ranges_stand words rest numbers h =
    in_line 0 (pos 1) (pos MAX_GRID_LINES) after_cols near_lines h.cols
    ∙ ap (out_of (pos 1) (pos MAX_GRID_LINES) numbers.cols 1) (in_line 2 (pos 1) (pos MAX_GRID_LINES) after_rows near_lines h.rows
    ∙ ap (out_of (pos 1) (pos MAX_GRID_LINES) numbers.rows 3) (in_line 4 (neg_ℤ MAX_PLACE) MAX_PLACE after_west near_place h.west
    ∙ ap (out_of (neg_ℤ MAX_PLACE) MAX_PLACE numbers.west 5) (in_line 6 (neg_ℤ MAX_PLACE) MAX_PLACE after_south near_place h.south
    ∙ ap (out_of (neg_ℤ MAX_PLACE) MAX_PLACE numbers.south 7) (in_line 8 (pos 1) MAX_CELL after_cell near_cell h.cell
    ∙ ap (out_of (pos 1) MAX_CELL numbers.cell 9) (in_line 10 NO_HEIGHT NO_HEIGHT [] near_none h.no_height)))))

none_out : (low high value : ℤ) (at : ℕ) (others : Option ℕ) → out_of low high value at others ≡ None → (is_from_to low high value ≡ true) × (others ≡ None)
none_out low high value at others e = from (is_from_to low high value) e
  where
    from : (b : Bool) → (if b then others else Some at) ≡ None → (b ≡ true) × (others ≡ None)
    from true none = (refl, none)
    from false none = absurd cc

line_real : {name : List ℕ} {words rest : List (List ℕ)} {value : ℤ} (low high : ℤ) → IsNear low high → (line : HasLine name words value rest) → is_from_to low high value ≡ true
    → unwrap_or (number_of line.number.word) (pos 0) ≡ value
line_real {value = value} low high near line inside =
    let within : IsFromTo low high (capped line.number.real) = from_to low high (capped line.number.real) (ap (is_from_to low high) (sym line.number.value_is) ∙ inside) in
    ap (λ (o : Option ℤ). unwrap_or o (pos 0)) line.number.writes ∙ sym (real_one low high line.number.real near within) ∙ sym line.number.value_is

-- what a text tells whose head has these numbers, all in their ranges
pub told : (words rest : List (List ℕ)) (numbers : Numbers) → HasNumbers words numbers rest → first_out numbers ≡ None → told_by words ≡ grid_of (spec_told numbers) rest
unfolding told_by first_out
told words rest numbers h none =
    let a = none_out (pos 1) (pos MAX_GRID_LINES) numbers.cols 1 _ none in
    let b = none_out (pos 1) (pos MAX_GRID_LINES) numbers.rows 3 _ a.1 in
    let c = none_out (neg_ℤ MAX_PLACE) MAX_PLACE numbers.west 5 _ b.1 in
    let d = none_out (neg_ℤ MAX_PLACE) MAX_PLACE numbers.south 7 _ c.1 in
    let e = none_out (pos 1) MAX_CELL numbers.cell 9 _ d.1 in
    let all = all_words words rest numbers h in
    let cols : number_at words 1 ≡ numbers.cols = ap (λ (t : List (List ℕ)). number_at t 1) all ∙ line_real (pos 1) (pos MAX_GRID_LINES) near_lines h.cols a.0 in
    let rows : number_at words 3 ≡ numbers.rows = ap (λ (t : List (List ℕ)). number_at t 3) all ∙ line_real (pos 1) (pos MAX_GRID_LINES) near_lines h.rows b.0 in
    let west : number_at words 5 ≡ numbers.west = ap (λ (t : List (List ℕ)). number_at t 5) all ∙ line_real (neg_ℤ MAX_PLACE) MAX_PLACE near_place h.west c.0 in
    let south : number_at words 7 ≡ numbers.south = ap (λ (t : List (List ℕ)). number_at t 7) all ∙ line_real (neg_ℤ MAX_PLACE) MAX_PLACE near_place h.south d.0 in
    let cell : number_at words 9 ≡ numbers.cell = ap (λ (t : List (List ℕ)). number_at t 9) all ∙ line_real (pos 1) MAX_CELL near_cell h.cell e.0 in
    let spec : spec_in words ≡ spec_told numbers =
    ap (λ (z : ℤ). spec_with z (number_at words 7) (number_at words 9) (number_at words 1) (number_at words 3)) west
    ∙ ap (λ (z : ℤ). spec_with numbers.west z (number_at words 9) (number_at words 1) (number_at words 3)) south
    ∙ ap (λ (z : ℤ). spec_with numbers.west numbers.south z (number_at words 1) (number_at words 3)) cell
    ∙ ap (λ (z : ℤ). spec_with numbers.west numbers.south numbers.cell z (number_at words 3)) cols
    ∙ ap (λ (z : ℤ). spec_with numbers.west numbers.south numbers.cell numbers.cols z) rows in
    ap (λ (o : Option ℕ). first_of o (first_failing is_in_range 0 head words) (grid_of (spec_in words) (drop 12 words))) (words_stand words rest numbers h)
    ∙ ap (λ (o : Option ℕ). first_of None o (grid_of (spec_in words) (drop 12 words))) (ranges_stand words rest numbers h ∙ none)
    ∙ ap (λ (s : GridSpec). grid_of s (drop 12 words)) spec
    ∙ ap (λ (t : List (List ℕ)). grid_of (spec_told numbers) (drop 12 t)) all
  where
    spec_with : ℤ → ℤ → ℤ → ℤ → ℤ → GridSpec
    spec_with west south cell cols rows = record { west = west; south = south; cell = cell; cols = unsigned_abs cols; rows = unsigned_abs rows }

-- what it tells where one is out of its range
pub told_range : (words rest : List (List ℕ)) (numbers : Numbers) (at : ℕ) → HasNumbers words numbers rest → first_out numbers ≡ Some at → told_by words ≡ Err (Range at)
unfolding told_by
told_range words rest numbers at h out =
    ap (λ (o : Option ℕ). first_of o (first_failing is_in_range 0 head words) (grid_of (spec_in words) (drop 12 words))) (words_stand words rest numbers h)
    ∙ ap (λ (o : Option ℕ). first_of None o (grid_of (spec_in words) (drop 12 words))) (ranges_stand words rest numbers h ∙ out)

-- and where a word isn't of its kind
pub told_word : (words : List (List ℕ)) (fault : AscFault) → IsWordFault words fault → told_by words ≡ Err fault
unfolding told_by
told_word words (Word at) lacks = ap (λ (o : Option ℕ). first_of o (first_failing is_in_range 0 head words) (grid_of (spec_in words) (drop 12 words))) lacks
told_word words (Range at) lacks = absurd lacks
told_word words (Count have need) lacks = absurd lacks
told_word words (Height index) lacks = absurd lacks

pub told_range_fault : (words rest : List (List ℕ)) (numbers : Numbers) (fault : AscFault) → HasNumbers words numbers rest → IsRangeFault numbers fault → told_by words ≡ Err fault
told_range_fault words rest numbers fault h (at, is, out) = told_range words rest numbers at h out ∙ ap (λ (f : AscFault). faulty f) (sym is)
  where
    faulty : AscFault → Result Cells AscFault
    faulty f = Err f
