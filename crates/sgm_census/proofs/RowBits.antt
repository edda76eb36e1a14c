-- Bits and marks of rows of a window, pushed one after the other.
use Rattle.std.proofs.Common.{◌≡◌, ℕ, zero, suc, ◌+◌, ◌*◌, ◌^◌, ◌<◌, ◌≤◌, Bool, true, false, ltb, ◌&&◌, List, [], ◌∷◌, ◌++◌, length, take, drop, get_or, slice_index, refl, sym, ap, ◌∙◌, arith, length-append}
use Rattle.std.specs.Int.{from_bool}
use Rattle.std.specs.List.{flat_map, list_all, range_with_len}
use Rattle.std.proofs.Math.Nat.{mul-le-mul_right, pow-suc, pow-le-pow_right}
use Rattle.std.proofs.lemmas.Nat.{pow-add, row_fits}
use Rattle.std.proofs.lemmas.List.{take_more, map-append, length-map, length-take, length-drop, get_or-take, get_or-drop}
use Rattle.std.proofs.lemmas.List.Folds.{list_all-append}
use Rattle.sgm_census.specs.Packed.{in_rows, pushed, lesser}
use Rattle.sgm_census.specs.Windows.{WindowSides}
use Rattle.sgm_census.proofs.Bits.{pushed_below}
use Rattle.sgm_census.proofs.InWindow.{rows_more}
use Rattle.sgm_census.proofs.LessThan.{pushed-push, pushed-append}

-- what a part of a row that begins at i has at k
shifted : {X : Type 0} (row : List X) (i n k : ℕ) (d : X) → k < n → get_or (take n (drop i row)) k d ≡ get_or (drop k row) i d
shifted row i n k d h =
    let order : i + k ≡ k + i = omega arith in
    get_or-take n (drop i row) k d h ∙ get_or-drop i row k d ∙ ap (λ j. get_or row j d) order ∙ sym (get_or-drop k row i d)

pub pushed_small : (n : ℕ) (bs : List Bool) → length bs ≤ n → pushed 0 bs < 2 ^ n
pushed_small n bs h = omega (arith, pushed_below 0 bs, pow-le-pow_right {n = 2} (omega arith) h)

pub length-lesser : (c : ℕ) (values : List ℕ) → length (lesser c values) ≡ length values
length-lesser c values = length-map values (λ v. ltb v c)

pushed_block_more : (w b p r : ℕ) → (2 * w + b) * p + r ≡ w * (p * 2) + ((2 * 0 + b) * p + r)
pushed_block_more w b p r = omega arith

-- a word with some bits more is the word moved up by their number, and their own word
pub pushed_block : (w : ℕ) (bs : List Bool) → pushed w bs ≡ w * 2 ^ length bs + pushed 0 bs
pushed_block w [] = omega arith
pushed_block w (b ∷ bs) =
    let p = 2 ^ length bs in
    pushed_block (2 * w + from_bool b) bs
    ∙ pushed_block_more w (from_bool b) p (pushed 0 bs)
    ∙ ap (λ q. w * q + ((2 * 0 + from_bool b) * p + pushed 0 bs)) (sym (pow-suc 2 (length bs)))
    ∙ ap (λ r. w * 2 ^ length (b ∷ bs) + r) (sym (pushed_block (2 * 0 + from_bool b) bs))

-- one value of a row of a window more
pub bits_more : (c : ℕ) (row : List ℕ) (k i n bits more : ℕ) → k < n → i < length (drop k row) → bits ≡ pushed 0 (lesser c (take i (drop k row)))
    → more ≡ 2 * bits + from_bool (ltb (slice_index (take n (drop i row)) k) c) → more ≡ pushed 0 (lesser c (take (i + 1) (drop k row)))
bits_more c row k i n bits more h inside e f =
    let next : lesser c (take (i + 1) (drop k row)) ≡ lesser c (take i (drop k row)) ++ ltb (get_or (drop k row) i 0) c ∷ [] =
    ap (lesser c) (take_more (drop k row) i 0 inside) ∙ map-append (λ v. ltb v c) (take i (drop k row)) (get_or (drop k row) i 0 ∷ []) in
    f ∙ ap (λ v. 2 * bits + from_bool (ltb v c)) (shifted row i n k 0 h)
    ∙ ap (λ b. 2 * b + from_bool (ltb (get_or (drop k row) i 0) c)) e
    ∙ sym (ap (pushed 0) next ∙ pushed-push 0 (lesser c (take i (drop k row))) (ltb (get_or (drop k row) i 0) c))

pub bits_small : (c : ℕ) (row : List ℕ) (k i : ℕ) → pushed 0 (lesser c (take i (drop k row))) < 2 ^ i
bits_small c row k i = pushed_small i (lesser c (take i (drop k row))) (omega (arith, length-lesser c (take i (drop k row)), length-take i (drop k row)))

-- the word with the bits of a whole row of the window
pub bits_whole : (c word : ℕ) (row : List ℕ) (k wide bits : ℕ) → k + wide ≤ length row → bits ≡ pushed 0 (lesser c (take wide (drop k row))) → word * 2 ^ wide + bits ≡ pushed word (lesser c (take wide (drop k row)))
bits_whole c word row k wide bits h e =
    let long : length (lesser c (take wide (drop k row))) ≡ wide = omega (arith, length-lesser c (take wide (drop k row)), length-take wide (drop k row), length-drop k row) in
    ap (λ b. word * 2 ^ wide + b) e ∙ ap (λ n. word * 2 ^ n + pushed 0 (lesser c (take wide (drop k row)))) (sym long)
    ∙ sym (pushed_block word (lesser c (take wide (drop k row))))

and_one : (a b c : Bool) → ((a && b) && c) ≡ (a && (b && (c && true)))
and_one false b c = refl
and_one true false c = refl
and_one true true false = refl
and_one true true true = refl

-- one mark of a row of a window more
pub marks_more : (old mark more : Bool) (row : List Bool) (k i n : ℕ) → k < n → i < length (drop k row) → mark ≡ (old && list_all (λ t. t) (take i (drop k row)))
    → more ≡ (mark && get_or (take n (drop i row)) k false) → more ≡ (old && list_all (λ t. t) (take (i + 1) (drop k row)))
marks_more old mark more row k i n h inside e f =
    f ∙ ap (λ b. mark && b) (shifted row i n k false h) ∙ ap (λ b. b && get_or (drop k row) i false) e
    ∙ and_one old (list_all (λ t. t) (take i (drop k row))) (get_or (drop k row) i false)
    ∙ sym (ap (λ us. old && list_all (λ t. t) us) (take_more (drop k row) i false inside)
    ∙ ap (λ b. old && b) (list_all-append (λ t. t) (take i (drop k row)) (get_or (drop k row) i false ∷ [])))

-- ---- rows of windows

-- a row of a window ends within the values
pub ends_in : (top j high width len : ℕ) → j < high → (top + high) * width ≤ len → (top + j) * width + width ≤ len
ends_in top j high width len h e =
    let inside : top + j + 1 ≤ top + high = omega arith in
    omega (arith, mul-le-mul_right width inside, e)

-- one row more
pub words_more : (c j word more : ℕ) (rows : ℕ → List ℕ) → word ≡ pushed 0 (lesser c (flat_map rows (range_with_len 0 j))) → more ≡ pushed word (lesser c (rows j))
    → more ≡ pushed 0 (lesser c (flat_map rows (range_with_len 0 (j + 1))))
words_more c j word more rows e f =
    f ∙ ap (λ w. pushed w (lesser c (rows j))) e
    ∙ sym (ap (λ us. pushed 0 (lesser c us)) (rows_more rows j)
    ∙ ap (pushed 0) (map-append (λ v. ltb v c) (flat_map rows (range_with_len 0 j)) (rows j))
    ∙ pushed-append 0 (lesser c (flat_map rows (range_with_len 0 j))) (lesser c (rows j)))

pub marks_rows_more : (j : ℕ) (mark more : Bool) (rows : ℕ → List Bool) → mark ≡ list_all (λ t. t) (flat_map rows (range_with_len 0 j)) → more ≡ (mark && list_all (λ t. t) (rows j))
    → more ≡ list_all (λ t. t) (flat_map rows (range_with_len 0 (j + 1)))
marks_rows_more j mark more rows e f =
    f ∙ ap (λ b. b && list_all (λ t. t) (rows j)) e
    ∙ sym (ap (list_all (λ t. t)) (rows_more rows j) ∙ list_all-append (λ t. t) (flat_map rows (range_with_len 0 j)) (rows j))

pub length-rows-le : {X : Type 0} (rows : ℕ → List X) (wide a n : ℕ) → ((j : ℕ) → length (rows j) ≤ wide) → length (flat_map rows (range_with_len a n)) ≤ n * wide
length-rows-le rows wide a zero h = omega arith
length-rows-le rows wide a (suc n) h = omega (arith, length-append (rows a) (flat_map rows (range_with_len (a + 1) n)), h a, length-rows-le rows wide (a + 1) n h)

-- the word of some rows of a window has a bit for each value at most
pub words_small : (c wide j : ℕ) (rows : ℕ → List ℕ) → ((i : ℕ) → length (rows i) ≤ wide) → pushed 0 (lesser c (flat_map rows (range_with_len 0 j))) < 2 ^ (j * wide)
words_small c wide j rows h =
    pushed_small (j * wide) (lesser c (flat_map rows (range_with_len 0 j)))
    (omega (arith, length-lesser c (flat_map rows (range_with_len 0 j)), length-rows-le rows wide 0 j h))

-- there is room for the bits of one row more
pub words_room : (wide high j word : ℕ) → wide ≤ 9 → high ≤ 7 → j < high → word < 2 ^ (j * wide) → (word + 1) * 2 ^ wide ≤ 2 ^ 63
words_room wide high j word w h l s =
    let more : (word + 1) * 2 ^ wide ≤ 2 ^ (j * wide) * 2 ^ wide = mul-le-mul_right (2 ^ wide) (omega arith) in
    let room : j * wide + wide ≤ 7 * 9 = row_fits j wide 7 9 (omega arith) w in
    omega (arith, more, pow-le-pow_right {n = 2} (omega arith) room, pow-add 2 (j * wide) wide)

pub length-in_rows : {X : Type 0} (width : ℕ) (rows : List X) (window : WindowSides) (from top : ℕ) → length (in_rows width rows window from top) ≤ window.height * window.width
length-in_rows width rows window from top =
    length-rows-le (λ j. take window.width (drop from (take width (drop ((top + j) * width) rows)))) window.width 0 window.height
    (λ j. omega (arith, length-take window.width (drop from (take width (drop ((top + j) * width) rows)))))
