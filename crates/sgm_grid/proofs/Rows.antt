-- The texts of rows.
use Rattle.std.proofs.Common.{◌≡◌, ℕ, ◌<◌, List, [], ◌∷◌, ◌++◌, map, length, drop, get_or, ℤ, Option, None, sym, ap, ◌∙◌, arith, flat_map, ◌+◌, append-nil, append_assoc, take, ◌-◌, ◌≤◌, Result, Ok, Err, is_ok, OnOk, if◌then◌else◌}
use Rattle.std.proofs.lemmas.List.{take_all, take_more, length-drop}
use Rattle.std.proofs.lemmas.List.{flat_map_more}
use Rattle.std.proofs.lemmas.List.FromFn.{map-range_with_len_more}
use Rattle.std.specs.List.{join_with_byte}
use Rattle.sgm_text.specs.Texts.{line}
use Rattle.sgm_grid.specs.Cells.{Cells, row_of}
use Rattle.sgm_grid.specs.Text.{after_spaces, first_rows, height_text, row_text}

-- texts with a space between each two are the first, and each other after a space
joined_is : (x : Option ℤ) (xs : List (Option ℤ)) → join_with_byte 32 (map height_text (x ∷ xs)) ≡ height_text x ++ after_spaces xs
joined_is x [] = sym (append-nil (height_text x))
joined_is x (y ∷ ys) = ap (λ (t : List ℕ). height_text x ++ (32 ∷ t)) (joined_is y ys)

pub row_is : (heights : List (Option ℤ)) (d : Option ℤ) → 0 < length heights
    → row_text heights ≡ height_text (get_or heights 0 d) ++ (after_spaces (drop 1 heights) ++ (10 ∷ []))
row_is [] d h = absurd (omega arith)
row_is (x ∷ xs) d h = ap line (joined_is x xs) ∙ append_assoc (height_text x) (after_spaces xs) (10 ∷ [])

-- a row that was added piece by piece
pub row_ends : {E : Type 0} (r : Result (Unit {0}) E) (old first all new : List ℕ) (heights : List (Option ℤ)) → 0 < length heights
    → first ≡ old ++ height_text (get_or heights 0 None)
    → all ≡ first ++ after_spaces (take (length heights - 1) (drop 1 heights))
    → new ≡ (if is_ok r then all ++ (10 ∷ []) else all)
    → OnOk r (new ≡ old ++ row_text heights)
row_ends (Err e) old first all new heights some p q s = tt
row_ends (Ok u) old first all new heights some p q s =
    let head = height_text (get_or heights 0 None) in
    let rest = after_spaces (drop 1 heights) in
    let short : length (drop 1 heights) ≤ length heights - 1 = omega (arith, length-drop 1 heights) in
    let every : all ≡ first ++ rest = q ∙ ap (λ (t : List (Option ℤ)). first ++ after_spaces t) (take_all (length heights - 1) (drop 1 heights) short) in
    s
    ∙ ap (λ (t : List ℕ). t ++ (10 ∷ [])) (every ∙ ap (λ (t : List ℕ). t ++ rest) p ∙ append_assoc old head rest)
    ∙ append_assoc old (head ++ rest) (10 ∷ [])
    ∙ ap (λ (t : List ℕ). old ++ t) (append_assoc head rest (10 ∷ []) ∙ sym (row_is heights None some))

-- two lines, one after the other
pub two_lines : {E : Type 0} (r : Result (Unit {0}) E) (old first new word value word2 value2 text text2 : List ℕ)
    → first ≡ old ++ line (word ++ value) → value ≡ text → value2 ≡ text2
    → OnOk r (new ≡ first ++ line (word2 ++ value2))
    → OnOk r (new ≡ old ++ (line (word ++ text) ++ line (word2 ++ text2)))
two_lines (Err e) old first new word value word2 value2 text text2 p t u s = tt
two_lines (Ok x) old first new word value word2 value2 text text2 p t u s =
    s
    ∙ ap (λ (b : List ℕ). first ++ line (word2 ++ b)) u
    ∙ ap (λ (b : List ℕ). b ++ line (word2 ++ text2)) (p ∙ ap (λ (b : List ℕ). old ++ line (word ++ b)) t)
    ∙ append_assoc old (line (word ++ text)) (line (word2 ++ text2))

-- the texts of the first rows, and that of the next
pub rows_more : (grid : Cells) (n : ℕ) (first old new : List ℕ) (heights : List (Option ℤ)) → heights ≡ row_of grid n
    → old ≡ first ++ flat_map row_text (first_rows grid n) → new ≡ old ++ row_text heights → new ≡ first ++ flat_map row_text (first_rows grid (n + 1))
rows_more grid n first old new heights is before now =
    now ∙ ap (λ (t : List ℕ). t ++ row_text heights) before
    ∙ ap (λ (h : List (Option ℤ)). (first ++ flat_map row_text (first_rows grid n)) ++ row_text h) is
    ∙ flat_map_more row_text first (first_rows grid n) (row_of grid n)
    ∙ ap (λ (rows : List (List (Option ℤ))). first ++ flat_map row_text rows) (sym (map-range_with_len_more (row_of grid) 0 n n (omega arith)))

-- the heights so far, each after a space, and the next
pub heights_more : (heights : List (Option ℤ)) (n : ℕ) (first old spaced new : List ℕ) → n < length heights
    → old ≡ first ++ after_spaces (take n heights) → spaced ≡ old ++ (32 ∷ []) → new ≡ spaced ++ height_text (get_or heights n None)
    → new ≡ first ++ after_spaces (take (n + 1) heights)
heights_more heights n first old spaced new inside before space now =
    let each : Option ℤ → List ℕ = λ height. 32 ∷ height_text height in
    let height = get_or heights n None in
    now ∙ ap (λ (t : List ℕ). t ++ height_text height) space
    ∙ append_assoc old (32 ∷ []) (height_text height)
    ∙ ap (λ (t : List ℕ). t ++ each height) before
    ∙ flat_map_more each first (take n heights) height
    ∙ ap (λ (t : List (Option ℤ)). first ++ after_spaces t) (sym (take_more heights n None inside))
