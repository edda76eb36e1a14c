-- What is written is read again.
use Rattle.std.proofs.Common.{◌≡◌, ℕ, zero, suc, ◌+◌, ◌*◌, ◌^◌, ◌<◌, ◌≤◌, List, [], ◌∷◌, ◌++◌, map, flat_map, length, take, drop, codes, Bool, true, false, ◌==◌, ◌&&◌, ℤ, pos, negsuc, neg_ℤ, unsigned_abs, Option, Some, None, Ok, if◌then◌else◌, refl, sym, ap, ◌∙◌, arith, rules, append_assoc}
use Rattle.std.specs.Prelude.{decimal}
use Rattle.std.specs.Char.{is_ascii_digit}
use Rattle.std.specs.Fmt.{signed_decimal}
use Rattle.std.specs.List.{AllByRecursion, join_with_byte, range_with_len}
use Rattle.std.specs.Option.{ForSome, option_map, option_and_then}
use Rattle.std.specs.Str.{all_ascii_digits}
use Rattle.std.specs.Str.Parse.{digits_value, starts_with_minus}
use Rattle.std.proofs.lemmas.Bool.Decides.{nat_tests}
use Rattle.std.proofs.lemmas.Fmt.{digits_decimal, digits_value-decimal, decimal_nonempty}
use Rattle.std.proofs.lemmas.Int.{ints}
use Rattle.std.proofs.lemmas.List.Elements.{All-from_recursion, recursion_from_All}
use Rattle.std.proofs.lemmas.Str.Parse.{IsNumeralModel, numerals_by_value, tells_all_ascii_digits}
use Rattle.std.specs.Ordering.{int_eq}
use Rattle.std.specs.Str.{str_eq_ignore_ascii_case}
use Rattle.std.proofs.lemmas.Bool.Decides.{Decides-int_eq}
use Rattle.std.proofs.lemmas.Int.{clamps}
use Rattle.std.proofs.lemmas.List.{drop_all, drop-drop, length-drop, length-map, length-take-le}
use Rattle.sgm_base.specs.Ranges.{IsFromTo}
use Rattle.sgm_grid.specs.declared.head.Numbers.{Numbers}
use Rattle.sgm_base.specs.declared.limits.TheConstants.{MAX_GRID_LINES}
use Rattle.sgm_grid.specs.declared.limits.TheConstants.{MAX_HEIGHT, MAX_PLACE, MAX_CELL, NO_HEIGHT}
use Rattle.sgm_grid.specs.Asc.{asc_reading, cell_in, cell_told, heights_in, is_from_to, told_by, with_cell, with_spec}
use Rattle.sgm_grid.specs.Capped.{capped}
use Rattle.sgm_grid.specs.Head.{HasLine, HasNumbers, first_out, out_of}
use Rattle.sgm_grid.proofs.HeadLaws.{out_past, test_true, told}
use Rattle.sgm_grid.proofs.HeightLaws.{enough}
use Rattle.sgm_grid.specs.declared.grid_spec.GridSpec.{GridSpec}
use Rattle.sgm_grid.specs.Cells.{Cells, IsCells, IsGridSpec, IsHeight, row_of}
use Rattle.sgm_grid.specs.Text.{grid_text, head_text, height_text, row_text, rows_text}
use Rattle.sgm_text.specs.Texts.{line}
use Rattle.sgm_text.specs.Words.{has_bytes, is_space, words_of}
use Rattle.sgm_grid.specs.Numbers.{digits_of, number_of}
use Rattle.sgm_text.proofs.WordLaws.{word_before}

own : IsNumeralModel (λ ds. all_ascii_digits ds ≡ true) (digits_value 10)
own = numerals_by_value (λ ds. all_ascii_digits ds ≡ true) tells_all_ascii_digits

-- ---- a word and the byte behind it

abbrev pub no_space : List ℕ → Bool
no_space [] = true
no_space (b ∷ bytes) = if is_space b then false else no_space bytes

black : (word : List ℕ) → no_space word ≡ true → AllByRecursion (λ b. is_space b ≡ false) word
black [] e = tt
black (b ∷ word) e =
    elim (is_space b) as (λ s. is_space b ≡ s → (if s then false else no_space word) ≡ true → AllByRecursion (λ b. is_space b ≡ false) (b ∷ word)) [
      | true ↦ λ is no. absurd cc
      | false ↦ λ is more. (is, black word more)
    ] refl e

some_bytes : (word : List ℕ) → has_bytes word ≡ true → 0 < length word
some_bytes [] e = absurd cc
some_bytes (b ∷ word) e = omega arith

pub over_word : (word : List ℕ) (b : ℕ) (rest : List ℕ) → has_bytes word ≡ true → no_space word ≡ true → is_space b ≡ true → words_of (word ++ b ∷ rest) ≡ word ∷ words_of rest
over_word word b rest some whole space = word_before word b rest (some_bytes word some) (All-from_recursion (λ b. is_space b ≡ false) word (black word whole)) space

-- ---- numbers

digit_no_space : (b : ℕ) → is_ascii_digit b ≡ true → is_space b ≡ false
digit_no_space b digit = grind (arith, nat_tests)

digit_no_minus : (b : ℕ) → is_ascii_digit b ≡ true → (b == 45) ≡ false
digit_no_minus b digit = grind (arith, nat_tests)

and_left : (x y : Bool) → (x && y) ≡ true → x ≡ true
and_left true y h = refl
and_left false y h = absurd cc

and_right : (x y : Bool) → (x && y) ≡ true → y ≡ true
and_right true y h = h
and_right false y h = absurd cc

digits_black : (digits : List ℕ) → all_ascii_digits digits ≡ true → no_space digits ≡ true
digits_black [] e = refl
digits_black (d ∷ digits) e =
    ap (λ (s : Bool). if s then false else no_space digits) (digit_no_space d (and_left (is_ascii_digit d) (all_ascii_digits digits) e))
    ∙ digits_black digits (and_right (is_ascii_digit d) (all_ascii_digits digits) e)

no_minus : (digits : List ℕ) → all_ascii_digits digits ≡ true → starts_with_minus digits ≡ false
no_minus [] e = refl
no_minus (d ∷ digits) e = digit_no_minus d (and_left (is_ascii_digit d) (all_ascii_digits digits) e)

has_some : (n : ℕ) → n < 2 ^ 64 → has_bytes (decimal n) ≡ true
has_some n small = from (decimal n) (decimal_nonempty n small)
  where
    from : (digits : List ℕ) → 0 < length digits → has_bytes digits ≡ true
    from [] some = absurd (omega arith)
    from (d ∷ digits) some = refl

digits_of_decimal : (n : ℕ) → n < 2 ^ 64 → digits_of (decimal n) ≡ Some n
digits_of_decimal n small =
    ap (λ (b : Bool). if b then (if all_ascii_digits (decimal n) then Some (digits_value 10 (decimal n)) else None) else None) (has_some n small)
    ∙ ap (λ (b : Bool). if b then Some (digits_value 10 (decimal n)) else None) (digits_decimal own n small)
    ∙ ap (λ (v : ℕ). some v) (digits_value-decimal own n small)
  where
    some : ℕ → Option ℕ
    some v = Some v

-- a number that was written is read again
pub number_of_signed : (z : ℤ) → unsigned_abs z < 2 ^ 63 → number_of (signed_decimal z) ≡ Some z
number_of_signed (pos n) small =
    ap (λ (b : Bool). if b then option_map (λ n. neg_ℤ (pos n)) (digits_of (drop 1 (decimal n))) else option_map pos (digits_of (decimal n))) (no_minus (decimal n) (digits_decimal own n (omega arith)))
    ∙ ap (λ (o : Option ℕ). option_map pos o) (digits_of_decimal n (omega arith))
number_of_signed (negsuc n) small = ap (λ (o : Option ℕ). option_map (λ n. neg_ℤ (pos n)) o) (digits_of_decimal (suc n) (omega arith))

pub signed_some : (z : ℤ) → unsigned_abs z < 2 ^ 63 → has_bytes (signed_decimal z) ≡ true
signed_some (pos n) small = has_some n (omega arith)
signed_some (negsuc n) small = refl

pub signed_black : (z : ℤ) → unsigned_abs z < 2 ^ 63 → no_space (signed_decimal z) ≡ true
signed_black (pos n) small = digits_black (decimal n) (digits_decimal own n (omega arith))
signed_black (negsuc n) small = digits_black (decimal (suc n)) (digits_decimal own (suc n) (omega arith))

-- ---- a line of the head

-- a name, a number and what stands behind them
pub over_field : (name digits rest : List ℕ) → has_bytes name ≡ true → no_space name ≡ true → has_bytes digits ≡ true → no_space digits ≡ true
    → words_of ((((name ++ 32 ∷ []) ++ digits) ++ 10 ∷ []) ++ rest) ≡ name ∷ digits ∷ words_of rest
over_field name digits rest some whole some_digit all_digits =
    ap words_of (append_assoc ((name ++ 32 ∷ []) ++ digits) (10 ∷ []) rest ∙ append_assoc (name ++ 32 ∷ []) digits (10 ∷ rest) ∙ append_assoc name (32 ∷ []) (digits ++ 10 ∷ rest))
    ∙ over_word name 32 (digits ++ 10 ∷ rest) some whole refl
    ∙ ap (λ (t : List (List ℕ)). name ∷ t) (over_word digits 10 rest some_digit all_digits refl)

grouped : (a b c d e f rest : List ℕ) → (((a ++ b) ++ (c ++ d)) ++ (e ++ f)) ++ rest ≡ a ++ (b ++ (c ++ (d ++ (e ++ (f ++ rest)))))
grouped a b c d e f rest = simp append_assoc

field_of : (name : List ℕ) (z : ℤ) (rest : List ℕ) → has_bytes name ≡ true → no_space name ≡ true → unsigned_abs z < 2 ^ 63
    → words_of ((((name ++ 32 ∷ []) ++ signed_decimal z) ++ 10 ∷ []) ++ rest) ≡ name ∷ signed_decimal z ∷ words_of rest
field_of name z rest some whole small = over_field name (signed_decimal z) rest some whole (signed_some z small) (signed_black z small)

-- the words of the head, and of what stands behind it
pub head_words : (spec : GridSpec) (rest : List ℕ) → IsGridSpec spec → words_of (head_text spec (height_text None) ++ rest) ≡
    codes "ncols" ∷ decimal spec.cols ∷ codes "nrows" ∷ decimal spec.rows ∷ codes "xllcorner" ∷ signed_decimal spec.west ∷ codes "yllcorner" ∷ signed_decimal spec.south
    ∷ codes "cellsize" ∷ signed_decimal spec.cell ∷ codes "NODATA_value" ∷ codes "-2147483648" ∷ words_of rest
head_words spec rest ranges =
    let a = line (codes "ncols " ++ decimal spec.cols) in
    let b = line (codes "nrows " ++ decimal spec.rows) in
    let c = line (codes "xllcorner " ++ signed_decimal spec.west) in
    let d = line (codes "yllcorner " ++ signed_decimal spec.south) in
    let e = line (codes "cellsize " ++ signed_decimal spec.cell) in
    let f = line (codes "NODATA_value " ++ codes "-2147483648") in
    let west : unsigned_abs spec.west < 2 ^ 63 = omega (arith, ints, ranges.west_in_range.0, ranges.west_in_range.1) in
    let south : unsigned_abs spec.south < 2 ^ 63 = omega (arith, ints, ranges.south_in_range.0, ranges.south_in_range.1) in
    let cell : unsigned_abs spec.cell < 2 ^ 63 = omega (arith, ints, ranges.cell_in_range.0, ranges.cell_in_range.1) in
    ap words_of (grouped a b c d e f rest)
    ∙ field_of (codes "ncols") (pos spec.cols) (b ++ (c ++ (d ++ (e ++ (f ++ rest))))) refl refl (omega (arith, ranges.cols_in_range.1))
    ∙ ap (λ (t : List (List ℕ)). codes "ncols" ∷ decimal spec.cols ∷ t) (field_of (codes "nrows") (pos spec.rows) (c ++ (d ++ (e ++ (f ++ rest)))) refl refl (omega (arith, ranges.rows_in_range.1))
    ∙ ap (λ (t : List (List ℕ)). codes "nrows" ∷ decimal spec.rows ∷ t) (field_of (codes "xllcorner") spec.west (d ++ (e ++ (f ++ rest))) refl refl west
    ∙ ap (λ (t : List (List ℕ)). codes "xllcorner" ∷ signed_decimal spec.west ∷ t) (field_of (codes "yllcorner") spec.south (e ++ (f ++ rest)) refl refl south
    ∙ ap (λ (t : List (List ℕ)). codes "yllcorner" ∷ signed_decimal spec.south ∷ t) (field_of (codes "cellsize") spec.cell (f ++ rest) refl refl cell
    ∙ ap (λ (t : List (List ℕ)). codes "cellsize" ∷ signed_decimal spec.cell ∷ t) (over_field (codes "NODATA_value") (codes "-2147483648") rest refl refl refl refl)))))

-- ---- the rows

cell_some : (cell : Option ℤ) → ForSome cell IsHeight → has_bytes (height_text cell) ≡ true
cell_some None height = refl
cell_some (Some z) height = signed_some z (small_height z height)
  where
    small_height : (z : ℤ) → ForSome (Some z) IsHeight → unsigned_abs z < 2 ^ 63
    small_height z height = let is : IsHeight z = search rules in omega (arith, ints, is.0, is.1)

cell_black : (cell : Option ℤ) → ForSome cell IsHeight → no_space (height_text cell) ≡ true
cell_black None height = refl
cell_black (Some z) height = signed_black z (small_height z height)
  where
    small_height : (z : ℤ) → ForSome (Some z) IsHeight → unsigned_abs z < 2 ^ 63
    small_height z height = let is : IsHeight z = search rules in omega (arith, ints, is.0, is.1)

abbrev pub AreHeights : List (Option ℤ) → Type 0
AreHeights heights = AllByRecursion (λ height. ForSome height IsHeight) heights

pub row_words : (x : Option ℤ) (xs : List (Option ℤ)) (rest : List ℕ) → AreHeights (x ∷ xs) → words_of (row_text (x ∷ xs) ++ rest) ≡ map height_text (x ∷ xs) ++ words_of rest
row_words x [] rest (height, more) = ap words_of (append_assoc (height_text x) (10 ∷ []) rest) ∙ over_word (height_text x) 10 rest (cell_some x height) (cell_black x height) refl
row_words x (y ∷ ys) rest (height, more) =
    ap words_of (append_assoc (height_text x ++ 32 ∷ join_with_byte 32 (map height_text (y ∷ ys))) (10 ∷ []) rest
    ∙ append_assoc (height_text x) (32 ∷ join_with_byte 32 (map height_text (y ∷ ys))) (10 ∷ rest)
    ∙ ap (λ (t : List ℕ). height_text x ++ 32 ∷ t) (sym (append_assoc (join_with_byte 32 (map height_text (y ∷ ys))) (10 ∷ []) rest)))
    ∙ over_word (height_text x) 32 (row_text (y ∷ ys) ++ rest) (cell_some x height) (cell_black x height) refl
    ∙ ap (λ (t : List (List ℕ)). height_text x ∷ t) (row_words y ys rest more)

-- ---- the heights behind the head

-- what was written for a cell tells that cell
cell_tells : (cell : Option ℤ) → ForSome cell IsHeight → cell_in (height_text cell) ≡ Some cell
cell_tells None height = refl
cell_tells (Some z) height = tells z (search rules)
  where
    not_empty : {z : ℤ} (b : Bool) → (b ≡ true → z ≡ NO_HEIGHT) → IsHeight z → b ≡ false
    not_empty true is height = let same = is refl in absurd (omega (arith, ints, same, height.0, height.1))
    not_empty false is height = refl

    tells : (z : ℤ) → IsHeight z → cell_in (signed_decimal z) ≡ Some (Some z)
    tells z is =
        let small : unsigned_abs z < 2 ^ 63 = omega (arith, ints, is.0, is.1) in
        let apart : int_eq z NO_HEIGHT ≡ false = not_empty (int_eq z NO_HEIGHT) (Decides-int_eq z NO_HEIGHT).0 is in
        ap (λ (o : Option ℤ). option_and_then cell_told o) (number_of_signed z small)
        ∙ ap (λ (b : Bool). if b then Some None else (if is_from_to (neg_ℤ MAX_HEIGHT) MAX_HEIGHT z then Some (Some z) else None)) apart
        ∙ ap (λ (b : Bool). if b then Some (Some z) else None) (test_true (neg_ℤ MAX_HEIGHT) MAX_HEIGHT z is)

pub heights_read : (index : ℕ) (heights : List (Option ℤ)) → AreHeights heights → heights_in index (map height_text heights) ≡ Ok heights
heights_read index [] each = refl
heights_read index (cell ∷ heights) (height, each) =
    ap (λ (o : Option (Option ℤ)). with_cell index o (heights_in (index + 1) (map height_text heights))) (cell_tells cell height)
    ∙ ap (with_cell index (Some cell)) (heights_read (index + 1) heights each)

-- ---- all rows

heights_take : (n : ℕ) (heights : List (Option ℤ)) → AreHeights heights → AreHeights (take n heights)
heights_take zero heights each = tt
heights_take (suc n) [] each = tt
heights_take (suc n) (cell ∷ heights) (height, each) = (height, heights_take n heights each)

heights_drop : (n : ℕ) (heights : List (Option ℤ)) → AreHeights heights → AreHeights (drop n heights)
heights_drop zero heights each = each
heights_drop (suc n) [] each = tt
heights_drop (suc n) (cell ∷ heights) (height, each) = heights_drop n heights each

map_parts : (n : ℕ) (heights : List (Option ℤ)) → map height_text (take n heights) ++ map height_text (drop n heights) ≡ map height_text heights
map_parts zero heights = refl
map_parts (suc n) [] = refl
map_parts (suc n) (cell ∷ heights) = ap (λ (t : List (List ℕ)). height_text cell ∷ t) (map_parts n heights)

row_words_of : (heights : List (Option ℤ)) (rest : List ℕ) → 0 < length heights → AreHeights heights → words_of (row_text heights ++ rest) ≡ map height_text heights ++ words_of rest
row_words_of [] rest some each = absurd (omega arith)
row_words_of (x ∷ xs) rest some each = row_words x xs rest each

pub rows_words : (grid : Cells) (n row : ℕ) → 0 < grid.spec.cols → length grid.heights ≡ (row + n) * grid.spec.cols → AreHeights grid.heights
    → words_of (flat_map row_text (map (row_of grid) (range_with_len row n))) ≡ map height_text (drop (row * grid.spec.cols) grid.heights)
rows_words grid zero row some full each =
    let past : length grid.heights ≤ row * grid.spec.cols = omega (arith, full, plus_zero) in
    sym (ap (map height_text) (drop_all (row * grid.spec.cols) grid.heights past))
  where
    plus_zero : (row + zero) * grid.spec.cols ≡ row * grid.spec.cols
    plus_zero = ap (λ (k : ℕ). k * grid.spec.cols) (omega arith)
rows_words grid (suc n) row some full each =
    let cols = grid.spec.cols in
    let left = drop (row * cols) grid.heights in
    let count : (row + suc n) * cols ≡ row * cols + cols + n * cols = omega arith in
    let long : length left ≡ cols + n * cols = omega (arith, length-drop (row * cols) grid.heights, full, count) in
    let wide : length (take cols left) ≡ cols = length-take-le cols left (omega (arith, long)) in
    let next : row * cols + cols ≡ (row + 1) * cols = omega arith in
    let still : length grid.heights ≡ (row + 1 + n) * cols = full ∙ ap (λ (k : ℕ). k * cols) (omega arith) in
    row_words_of (take cols left) (flat_map row_text (map (row_of grid) (range_with_len (row + 1) n))) (omega (arith, wide)) (heights_take cols left (heights_drop (row * cols) grid.heights each))
    ∙ ap (λ (t : List (List ℕ)). map height_text (take cols left) ++ t) (rows_words grid n (row + 1) some still each
    ∙ ap (λ (k : ℕ). map height_text (drop k grid.heights)) (sym next)
    ∙ ap (map height_text) (sym (drop-drop cols (row * cols) grid.heights)))
    ∙ map_parts cols left

-- ---- the whole text

line_of : (name : List ℕ) (z : ℤ) (word : List ℕ) (rest : List (List ℕ)) (spelled : List ℕ) → str_eq_ignore_ascii_case spelled name ≡ true → number_of word ≡ Some z → z ≡ capped z
    → HasLine name (spelled ∷ word ∷ rest) z rest
line_of name z word rest spelled same writes is = record { word = spelled; more = word ∷ rest; is = refl; named = same; number = record { word = word; real = z; is = refl; writes = writes; value_is = is } }

passes : (low high z : ℤ) (at : ℕ) (others : Option ℕ) → IsFromTo low high z → others ≡ None → out_of low high z at others ≡ None
passes low high z at others within none = out_past low high z at others (test_true low high z within) ∙ none

abbrev numbers_of : GridSpec → Numbers
numbers_of spec = record { cols = pos spec.cols; rows = pos spec.rows; west = spec.west; south = spec.south; cell = spec.cell; no_height = NO_HEIGHT }

all_in_range : (spec : GridSpec) → IsGridSpec spec → first_out (numbers_of spec) ≡ None
unfolding first_out
all_in_range spec ranges =
    passes (pos 1) (pos MAX_GRID_LINES) (pos spec.cols) 1 _ (omega (arith, ints, ranges.cols_in_range.0), omega (arith, ints, ranges.cols_in_range.1))
    (passes (pos 1) (pos MAX_GRID_LINES) (pos spec.rows) 3 _ (omega (arith, ints, ranges.rows_in_range.0), omega (arith, ints, ranges.rows_in_range.1))
    (passes (neg_ℤ MAX_PLACE) MAX_PLACE spec.west 5 _ ranges.west_in_range
    (passes (neg_ℤ MAX_PLACE) MAX_PLACE spec.south 7 _ ranges.south_in_range
    (passes (pos 1) MAX_CELL spec.cell 9 _ ranges.cell_in_range
    (passes NO_HEIGHT NO_HEIGHT NO_HEIGHT 11 None (omega (arith, ints), omega (arith, ints)) refl)))))

has_numbers : (spec : GridSpec) (rest : List (List ℕ)) → IsGridSpec spec → HasNumbers
    (codes "ncols" ∷ decimal spec.cols ∷ codes "nrows" ∷ decimal spec.rows ∷ codes "xllcorner" ∷ signed_decimal spec.west ∷ codes "yllcorner" ∷ signed_decimal spec.south
    ∷ codes "cellsize" ∷ signed_decimal spec.cell ∷ codes "NODATA_value" ∷ codes "-2147483648" ∷ rest) (numbers_of spec) rest
has_numbers spec rest ranges =
    let six : List (List ℕ) = codes "NODATA_value" ∷ codes "-2147483648" ∷ rest in
    let five : List (List ℕ) = codes "cellsize" ∷ signed_decimal spec.cell ∷ six in
    let four : List (List ℕ) = codes "yllcorner" ∷ signed_decimal spec.south ∷ five in
    let three : List (List ℕ) = codes "xllcorner" ∷ signed_decimal spec.west ∷ four in
    let two : List (List ℕ) = codes "nrows" ∷ decimal spec.rows ∷ three in
    let west : unsigned_abs spec.west < 2 ^ 63 = omega (arith, ints, ranges.west_in_range.0, ranges.west_in_range.1) in
    let south : unsigned_abs spec.south < 2 ^ 63 = omega (arith, ints, ranges.south_in_range.0, ranges.south_in_range.1) in
    let cell : unsigned_abs spec.cell < 2 ^ 63 = omega (arith, ints, ranges.cell_in_range.0, ranges.cell_in_range.1) in
    record {
      behind_cols = two;
      behind_rows = three;
      behind_west = four;
      behind_south = five;
      behind_cell = six;
      cols = line_of (codes "ncols") (pos spec.cols) (decimal spec.cols) two (codes "ncols") refl (number_of_signed (pos spec.cols) (omega (arith, ranges.cols_in_range.1))) (omega (arith, ints, clamps, ranges.cols_in_range.1));
      rows = line_of (codes "nrows") (pos spec.rows) (decimal spec.rows) three (codes "nrows") refl (number_of_signed (pos spec.rows) (omega (arith, ranges.rows_in_range.1))) (omega (arith, ints, clamps, ranges.rows_in_range.1));
      west = line_of (codes "xllcorner") spec.west (signed_decimal spec.west) four (codes "xllcorner") refl (number_of_signed spec.west west) (omega (arith, ints, clamps, ranges.west_in_range.0, ranges.west_in_range.1));
      south = line_of (codes "yllcorner") spec.south (signed_decimal spec.south) five (codes "yllcorner") refl (number_of_signed spec.south south) (omega (arith, ints, clamps, ranges.south_in_range.0, ranges.south_in_range.1));
      cell = line_of (codes "cellsize") spec.cell (signed_decimal spec.cell) six (codes "cellsize") refl (number_of_signed spec.cell cell) (omega (arith, ints, clamps, ranges.cell_in_range.0, ranges.cell_in_range.1));
      no_height = line_of (codes "nodata_value") NO_HEIGHT (codes "-2147483648") rest (codes "NODATA_value") refl refl refl;
    }

-- what was written of a grid tells the grid
pub written_is_read : (grid : Cells) → IsCells grid → asc_reading (grid_text grid) ≡ Ok grid
written_is_read grid kept =
    let spec = grid.spec in
    let cells = map height_text grid.heights in
    let each : AreHeights grid.heights = recursion_from_All (λ height. ForSome height IsHeight) grid.heights kept.heights_in_range in
    let none : 0 * spec.cols ≡ 0 = omega arith in
    let full : length grid.heights ≡ (0 + spec.rows) * spec.cols = kept.full ∙ omega arith in
    let behind : words_of (rows_text grid) ≡ cells =
    rows_words grid spec.rows 0 (omega (arith, kept.ranges.cols_in_range.0)) full each ∙ ap (λ (k : ℕ). map height_text (drop k grid.heights)) none in
    let long : length cells ≡ spec.cols * spec.rows = length-map grid.heights height_text ∙ kept.full in
    ap told_by (head_words spec (rows_text grid) kept.ranges
    ∙ ap (λ (t : List (List ℕ)). codes "ncols" ∷ decimal spec.cols ∷ codes "nrows" ∷ decimal spec.rows ∷ codes "xllcorner" ∷ signed_decimal spec.west ∷ codes "yllcorner"
    ∷ signed_decimal spec.south ∷ codes "cellsize" ∷ signed_decimal spec.cell ∷ codes "NODATA_value" ∷ codes "-2147483648" ∷ t) behind)
    ∙ told _ cells (numbers_of spec) (has_numbers spec cells kept.ranges) (all_in_range spec kept.ranges)
    ∙ enough spec cells long
    ∙ ap (with_spec spec) (heights_read 0 grid.heights each)
