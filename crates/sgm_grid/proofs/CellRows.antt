-- The cells of a grid, row by row.
use Rattle.std.proofs.Common.{◌≡◌, ℕ, zero, suc, ◌+◌, ◌*◌, ◌/◌, ◌%◌, ◌≤◌, ℤ, List, [], ◌∷◌, ◌++◌, map, length, Option, Some, None, refl, sym, ap, ◌∙◌, append_assoc, append-nil, subst, arith}
use Rattle.std.specs.Prelude.{All, IfSome}
use Rattle.std.specs.Option.{ForSome}
use Rattle.std.specs.List.{range_with_len}
use Rattle.std.proofs.lemmas.List.FromFn.{length-map-range_with_len, map-range_with_len_more}
use Rattle.std.proofs.lemmas.List.Elements.{All-push}
use Rattle.std.proofs.lemmas.Nat.{div-mul-add, mod-mul-add}
use Rattle.sgm_base.specs.Values.{row_by_row}

range_parts : (g : ℕ → Option ℤ) (a m k : ℕ) → map g (range_with_len a (m + k)) ≡ map g (range_with_len a m) ++ map g (range_with_len (a + m) k)
range_parts g a zero k =
    let count : zero + k ≡ k = omega arith in
    let start : a ≡ a + zero = omega arith in
    ap (λ (n : ℕ). map g (range_with_len a n)) count ∙ ap (λ (b : ℕ). map g (range_with_len b k)) start
range_parts g a (suc m) k =
    let count : suc m + k ≡ suc (m + k) = omega arith in
    let start : a + 1 + m ≡ a + suc m = omega arith in
    ap (λ (n : ℕ). map g (range_with_len a n)) count
    ∙ ap (λ (xs : List (Option ℤ)). g a ∷ xs) (range_parts g (a + 1) m k ∙ ap (λ (b : ℕ). map g (range_with_len (a + 1) m) ++ map g (range_with_len b k)) start)

-- the cells of a row, from one of its columns on
row_part : (f : ℕ → ℕ → Option ℤ) (cols row j k : ℕ) → j + k ≤ cols
    → map (λ n. f (n % cols) (n / cols)) (range_with_len (row * cols + j) k) ≡ map (λ col. f col row) (range_with_len j k)
row_part f cols row j zero within = refl
row_part f cols row j (suc k) within =
    let next : row * cols + j + 1 ≡ row * cols + (j + 1) = omega arith in
    ap (λ (n : ℕ). f n ((row * cols + j) / cols) ∷ map (λ n. f (n % cols) (n / cols)) (range_with_len (row * cols + j + 1) k)) (mod-mul-add row cols j (omega arith))
    ∙ ap (λ (n : ℕ). f j n ∷ map (λ n. f (n % cols) (n / cols)) (range_with_len (row * cols + j + 1) k)) (div-mul-add row cols j (omega arith))
    ∙ ap (λ (b : ℕ). f j row ∷ map (λ n. f (n % cols) (n / cols)) (range_with_len b k)) next
    ∙ ap (λ (xs : List (Option ℤ)). f j row ∷ xs) (row_part f cols row (j + 1) k (omega arith))

-- one row more
rows_more : (f : ℕ → ℕ → Option ℤ) (cols row : ℕ) → row_by_row cols (row + 1) f ≡ row_by_row cols row f ++ map (λ col. f col row) (range_with_len 0 cols)
unfolding row_by_row
rows_more f cols row =
    let count : cols * (row + 1) ≡ cols * row + cols = omega arith in
    let start : 0 + cols * row ≡ row * cols + 0 = omega arith in
    ap (λ (n : ℕ). map (λ n. f (n % cols) (n / cols)) (range_with_len 0 n)) count
    ∙ range_parts (λ n. f (n % cols) (n / cols)) 0 (cols * row) cols
    ∙ ap (λ (b : ℕ). map (λ n. f (n % cols) (n / cols)) (range_with_len 0 (cols * row)) ++ map (λ n. f (n % cols) (n / cols)) (range_with_len b cols)) start
    ∙ ap (λ (xs : List (Option ℤ)). map (λ n. f (n % cols) (n / cols)) (range_with_len 0 (cols * row)) ++ xs) (row_part f cols row 0 cols (omega arith))

-- no row yet
pub no_rows : (f : ℕ → ℕ → Option ℤ) (cols : ℕ) → [] ≡ row_by_row cols 0 f
unfolding row_by_row
no_rows f cols = let none : 0 ≡ cols * 0 = omega arith in ap (λ (n : ℕ). map (λ n. f (n % cols) (n / cols)) (range_with_len 0 n)) none

-- one cell more
pub cells_more : (f : ℕ → Option ℤ) (old now new : List (Option ℤ)) (n : ℕ) (r : Option ℤ) → now ≡ old ++ map f (range_with_len 0 n) → new ≡ now ++ r ∷ [] → r ≡ f n
    → new ≡ old ++ map f (range_with_len 0 (n + 1))
cells_more f old now new n r so_far is value =
    let same : 0 + n ≡ n = omega arith in
    is ∙ ap (λ (xs : List (Option ℤ)). xs ++ r ∷ []) so_far
    ∙ ap (λ (o : Option ℤ). (old ++ map f (range_with_len 0 n)) ++ o ∷ []) value
    ∙ append_assoc old (map f (range_with_len 0 n)) (f n ∷ [])
    ∙ ap (λ (xs : List (Option ℤ)). old ++ xs) (sym (map-range_with_len_more f 0 n n same))

for_some : (P : ℤ → Type 0) (o : Option ℤ) → IfSome o P → ForSome o P
for_some P None h = λ x e. absurd cc
for_some P (Some z) h = λ x e. let same : z ≡ x = cc in subst P same h

-- and each is in its range
pub all_more : (P : ℤ → Type 0) (now new : List (Option ℤ)) (r : Option ℤ) → All (λ o. ForSome o P) now → new ≡ now ++ r ∷ [] → IfSome r P → All (λ o. ForSome o P) new
all_more P now new r all is here =
    subst (λ (xs : List (Option ℤ)). All (λ o. ForSome o P) xs) (sym is) (All-push (λ (o : Option ℤ). ForSome o P) now r all (for_some P r here))

pub all_same : (P : ℤ → Type 0) (now new : List (Option ℤ)) → All (λ o. ForSome o P) now → new ≡ now → All (λ o. ForSome o P) new
all_same P now new all is = subst (λ (xs : List (Option ℤ)). All (λ o. ForSome o P) xs) (sym is) all

pub none_yet : (xs : List (Option ℤ)) → xs ≡ xs ++ []
none_yet xs = sym (append-nil xs)

-- the cells after a row
pub next_row : (f : ℕ → ℕ → Option ℤ) (cols row : ℕ) (now new : List (Option ℤ)) → now ≡ row_by_row cols row f → new ≡ now ++ map (λ col. f col row) (range_with_len 0 cols)
    → new ≡ row_by_row cols (row + 1) f
next_row f cols row now new so_far is =
    is ∙ ap (λ (xs : List (Option ℤ)). xs ++ map (λ col. f col row) (range_with_len 0 cols)) so_far ∙ sym (rows_more f cols row)

pub length_rows : (f : ℕ → ℕ → Option ℤ) (cols rows : ℕ) → length (row_by_row cols rows f) ≡ cols * rows
unfolding row_by_row
length_rows f cols rows = length-map-range_with_len (λ k. f (k % cols) (k / cols)) 0 (cols * rows)
