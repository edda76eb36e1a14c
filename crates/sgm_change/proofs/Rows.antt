-- The texts of rows of differences.
use Rattle.std.proofs.Common.{◌≡◌, ℕ, ◌<◌, List, [], ◌∷◌, ◌++◌, map, length, drop, get_or, ℤ, Option, None, sym, ap, ◌∙◌, arith, flat_map, ◌+◌, append-nil, append_assoc, take, ◌-◌, ◌≤◌, Result, Ok, Err, is_ok, OnOk, OnErr, if◌then◌else◌, subst}
use Rattle.std.proofs.lemmas.List.{take_all, length-drop, flat_map_more}
use Rattle.std.proofs.lemmas.List.FromFn.{map-range_with_len_more}
use Rattle.std.specs.List.{join_with_byte, range_with_len, zip}
use Rattle.sgm_text.specs.Texts.{StartsAs, line}
use Rattle.sgm_text.proofs.Beginnings.{starts_more, starts_with}
use Rattle.sgm_grid.specs.Cells.{Cells, row_of}
use Rattle.sgm_change.specs.Texts.{after_spaces, both_row, cell_text, difference_text, row_text, rows_text}

-- texts with a space between each two are the first, and each other after a space
joined_is : (x : Option ℤ × Option ℤ) (xs : List (Option ℤ × Option ℤ)) → join_with_byte 32 (map cell_text (x ∷ xs)) ≡ cell_text x ++ after_spaces xs
joined_is x [] = sym (append-nil (cell_text x))
joined_is x (y ∷ ys) = ap (λ (t : List ℕ). cell_text x ++ (32 ∷ t)) (joined_is y ys)

pub row_is : (xs ys : List (Option ℤ)) → 0 < length xs → length ys ≡ length xs
    → row_text (zip xs ys) ≡ difference_text (get_or xs 0 None) (get_or ys 0 None) ++ (after_spaces (zip (drop 1 xs) (drop 1 ys)) ++ (10 ∷ []))
row_is [] ys h e = absurd (omega arith)
row_is (x ∷ xs) [] h e = absurd (omega (arith, e))
row_is (x ∷ xs) (y ∷ ys) h e = ap line (joined_is (x, y) (zip xs ys)) ∙ append_assoc (difference_text x y) (after_spaces (zip xs ys)) (10 ∷ [])

-- a row that was added piece by piece
pub row_ends : {E : Type 0} (r : Result (Unit {0}) E) (old first all new : List ℕ) (xs ys : List (Option ℤ)) → 0 < length xs → length ys ≡ length xs
    → first ≡ old ++ difference_text (get_or xs 0 None) (get_or ys 0 None)
    → all ≡ first ++ after_spaces (zip (take (length xs - 1) (drop 1 xs)) (take (length ys - 1) (drop 1 ys)))
    → new ≡ (if is_ok r then all ++ (10 ∷ []) else all)
    → OnOk r (new ≡ old ++ row_text (zip xs ys))
row_ends (Err e) old first all new xs ys some same p q s = tt
row_ends (Ok u) old first all new xs ys some same p q s =
    let head = difference_text (get_or xs 0 None) (get_or ys 0 None) in
    let rest = after_spaces (zip (drop 1 xs) (drop 1 ys)) in
    let short : length (drop 1 xs) ≤ length xs - 1 = omega (arith, length-drop 1 xs) in
    let short2 : length (drop 1 ys) ≤ length ys - 1 = omega (arith, length-drop 1 ys) in
    let every : all ≡ first ++ rest = q
    ∙ ap (λ (t : List (Option ℤ)). first ++ after_spaces (zip t (take (length ys - 1) (drop 1 ys)))) (take_all (length xs - 1) (drop 1 xs) short)
    ∙ ap (λ (t : List (Option ℤ)). first ++ after_spaces (zip (drop 1 xs) t)) (take_all (length ys - 1) (drop 1 ys) short2) in
    s
    ∙ ap (λ (t : List ℕ). t ++ (10 ∷ [])) (every ∙ ap (λ (t : List ℕ). t ++ rest) p ∙ append_assoc old head rest)
    ∙ append_assoc old (head ++ rest) (10 ∷ [])
    ∙ ap (λ (t : List ℕ). old ++ t) (append_assoc head rest (10 ∷ []) ∙ sym (row_is xs ys some same))

-- where its end wasn't added
pub row_starts : {E : Type 0} (r : Result (Unit {0}) E) (old first all new a b : List ℕ) → first ≡ old ++ a → all ≡ first ++ b
    → new ≡ (if is_ok r then all ++ (10 ∷ []) else all) → OnErr r (StartsAs old new)
row_starts (Ok u) old first all new a b p q s = tt
row_starts (Err e) old first all new a b p q s = subst (λ (t : List ℕ). StartsAs old t) (sym s) (starts_more old first all b (starts_with old first a p) q)

-- a text that was added, or not
pub added_ok : {E : Type 0} (r : Result (Unit {0}) E) (old new text more : List ℕ) → new ≡ (if is_ok r then old ++ text else old) → text ≡ more → OnOk r (new ≡ old ++ more)
added_ok (Ok u) old new text more p q = p ∙ ap (λ (t : List ℕ). old ++ t) q
added_ok (Err e) old new text more p q = tt

pub added_err : {E : Type 0} (r : Result (Unit {0}) E) (old new text : List ℕ) → new ≡ (if is_ok r then old ++ text else old) → OnErr r (new ≡ old)
added_err (Ok u) old new text p = tt
added_err (Err e) old new text p = p

-- one difference more of a row
pub rest_more : (old sofar spaced new : List ℕ) (xs ys : List (Option ℤ)) (k : ℕ) (x y : Option ℤ)
    → zip (take (k + 1) xs) (take (k + 1) ys) ≡ zip (take k xs) (take k ys) ++ (x, y) ∷ []
    → sofar ≡ old ++ after_spaces (zip (take k xs) (take k ys)) → spaced ≡ sofar ++ (32 ∷ []) → new ≡ spaced ++ difference_text x y
    → new ≡ old ++ after_spaces (zip (take (k + 1) xs) (take (k + 1) ys))
rest_more old sofar spaced new xs ys k x y more p q r =
    let all = zip (take k xs) (take k ys) in
    r ∙ ap (λ (t : List ℕ). t ++ difference_text x y) q
    ∙ append_assoc sofar (32 ∷ []) (difference_text x y)
    ∙ ap (λ (t : List ℕ). t ++ (32 ∷ difference_text x y)) p
    ∙ flat_map_more (λ (cell : Option ℤ × Option ℤ). 32 ∷ cell_text cell) old all (x, y)
    ∙ ap (λ (t : List (Option ℤ × Option ℤ)). old ++ after_spaces t) (sym more)

-- the texts of the first rows, and that of the next
pub rows_more : (earlier later : Cells) (n : ℕ) (first old new : List ℕ) (xs ys : List (Option ℤ)) → xs ≡ row_of earlier n → ys ≡ row_of later n
    → old ≡ first ++ rows_text earlier later n → new ≡ old ++ row_text (zip xs ys) → new ≡ first ++ rows_text earlier later (n + 1)
rows_more earlier later n first old new xs ys is1 is2 before now =
    let rows = map (both_row earlier later) (range_with_len 0 n) in
    now ∙ ap (λ (t : List ℕ). t ++ row_text (zip xs ys)) before
    ∙ ap (λ (t : List (Option ℤ)). (first ++ flat_map row_text rows) ++ row_text (zip t ys)) is1
    ∙ ap (λ (t : List (Option ℤ)). (first ++ flat_map row_text rows) ++ row_text (zip (row_of earlier n) t)) is2
    ∙ flat_map_more row_text first rows (both_row earlier later n)
    ∙ ap (λ (t : List (List (Option ℤ × Option ℤ))). first ++ flat_map row_text t) (sym (map-range_with_len_more (both_row earlier later) 0 n n (omega arith)))
