-- What a function gives for each cell, row by row.
use Rattle.std.proofs.Common.{◌≡◌, ℕ, suc, ◌+◌, ◌*◌, ◌/◌, ◌%◌, ◌<◌, ◌≤◌, List, [], ◌∷◌, map, length, get_or, refl, ap, ap₂, ◌∙◌, arith}
use Rattle.std.specs.List.{range_with_len}
use Rattle.std.proofs.lemmas.List.FromFn.{fill_by_all, get_or-map-range_with_len, length-map-range_with_len}
use Rattle.std.proofs.lemmas.Nat.{div-mul-add, mod-mul-add, mod_below, div_below}
use Rattle.std.proofs.Math.Nat.{mul-le-mul_right}
use Rattle.sgm_base.specs.Values.{row_by_row}

-- the place of a cell is one of them
pub place_below : (cols rows col row : ℕ) → col < cols → row < rows → row * cols + col < cols * rows
place_below cols rows col row hc hr =
    let whole : suc row * cols ≤ rows * cols = mul-le-mul_right cols hr in
    omega arith

pub read_cell : {X : Type 0} (f : ℕ → ℕ → X) (cols rows col row : ℕ) (d : X) → col < cols → row < rows
    → get_or (row_by_row cols rows f) (row * cols + col) d ≡ f col row
unfolding row_by_row
read_cell f cols rows col row d hc hr =
    get_or-map-range_with_len (λ k. f (k % cols) (k / cols)) 0 (cols * rows) (row * cols + col) (row * cols + col) d (place_below cols rows col row hc hr) (omega arith)
    ∙ ap₂ f (mod-mul-add row cols col hc) (div-mul-add row cols col hc)

pub length_cells : {X : Type 0} (f : ℕ → ℕ → X) (cols rows : ℕ) → length (row_by_row cols rows f) ≡ cols * rows
unfolding row_by_row
length_cells f cols rows = length-map-range_with_len (λ k. f (k % cols) (k / cols)) 0 (cols * rows)

-- a list that holds at each cell's place what a function gives for it
pub cells_are : {X : Type 0} (xs : List X) (f : ℕ → ℕ → X) (cols rows : ℕ) (d : X) → 0 < cols → length xs ≡ cols * rows
    → ((col row : ℕ) → col < cols → row < rows → get_or xs (row * cols + col) d ≡ f col row) → xs ≡ row_by_row cols rows f
unfolding row_by_row
cells_are xs f cols rows d some full each =
    fill_by_all (λ k. f (k % cols) (k / cols)) xs (cols * rows) d full
    (λ k l. let at : k ≡ k / cols * cols + k % cols = omega arith in
    ap (λ j. get_or xs j d) at ∙ each (k % cols) (k / cols) (mod_below k cols some) (div_below k cols rows some (omega arith)))

-- two functions that agree at each cell of a grid
pub same_cells : {X : Type 0} (f g : ℕ → ℕ → X) (cols rows : ℕ) (d : X) → 0 < cols
    → ((col row : ℕ) → col < cols → row < rows → f col row ≡ g col row) → row_by_row cols rows f ≡ row_by_row cols rows g
same_cells f g cols rows d some each =
    cells_are (row_by_row cols rows f) g cols rows d some (length_cells f cols rows)
    (λ col row hc hr. read_cell f cols rows col row d hc hr ∙ each col row hc hr)

same_map : {X : Type 0} (f g : ℕ → X) → ((k : ℕ) → f k ≡ g k) → (ks : List ℕ) → map f ks ≡ map g ks
same_map f g each [] = refl
same_map f g each (k ∷ ks) = ap₂ (λ x xs. x ∷ xs) (each k) (same_map f g each ks)

-- two functions that agree everywhere
pub same_all : {X : Type 0} (f g : ℕ → ℕ → X) (cols rows : ℕ) → ((col row : ℕ) → f col row ≡ g col row) → row_by_row cols rows f ≡ row_by_row cols rows g
unfolding row_by_row
same_all f g cols rows each = same_map (λ k. f (k % cols) (k / cols)) (λ k. g (k % cols) (k / cols)) (λ k. each (k % cols) (k / cols)) (range_with_len 0 (cols * rows))
