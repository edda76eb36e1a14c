-- The cells on each side of a cell, and the first height among them.
use Rattle.std.proofs.Common.{◌≡◌, ℕ, zero, suc, ◌+◌, ◌-◌, ◌*◌, ◌<◌, ◌≤◌, min, ℤ, to_z, of_z, w32, inl, inr, List, [], ◌∷◌, length, take, drop, reverse, get_or, Option, Some, None, refl, sym, ap, ◌∙◌, arith}
use Rattle.std.proofs.lemmas.List.{get_or-drop, get_or-reverse, get_or-take, length-drop, length-reverse, length-take-le}
use Rattle.std.proofs.lemmas.List.FromFn.{get_or-map-range_with_len, length-map-range_with_len}
use Rattle.std.proofs.lemmas.Option.{unwrap_or-slice_get}
use Rattle.std.proofs.Math.Nat.{mul-le-mul_right}
use Rattle.std.proofs.lemmas.Bool.{cases_lt}
use Rattle.std.proofs.lemmas.Int.{ints}
use Rattle.sgm_base.specs.Ranges.{Within}
use Rattle.sgm_grid.specs.Beside.{cells_to}
use Rattle.sgm_grid.specs.declared.bridges.Side.{Side}
use Rattle.sgm_grid.specs.declared.bridges.Side.TheVariants.{West, East, North, South}
use Rattle.sgm_grid.specs.declared.grid_spec.GridSpec.{GridSpec}
use Rattle.sgm_grid.specs.Bridges.{Pier, column_of, first_pier, further}
use Rattle.sgm_grid.specs.Cells.{Cells, IsCells, cell_index, height_at, row_of}

-- ---- the first height

abbrev pub pier_of : ℕ → ℤ → Option Pier
pier_of away height = Some (record { away = away; height = height })

first_found : (xs : List (Option ℤ)) (i : ℕ) (h : ℤ) → ((k : ℕ) → k < i → get_or xs k None ≡ None) → get_or xs i None ≡ Some h → first_pier xs ≡ pier_of (i + 1) h
first_found [] i h before here = absurd cc
first_found (x ∷ xs) zero h before here = ap (λ (o : Option ℤ). first_pier (o ∷ xs)) here
first_found (x ∷ xs) (suc i) h before here =
    let rest = first_found xs i h (λ k l. before (suc k) (omega arith)) here in
    let more : i + 1 + 1 ≡ suc i + 1 = omega arith in
    ap (λ (o : Option ℤ). first_pier (o ∷ xs)) (before 0 (omega arith)) ∙ ap further rest ∙ ap (λ (k : ℕ). pier_of k h) more

none_first : (xs : List (Option ℤ)) → ((k : ℕ) → k < length xs → get_or xs k None ≡ None) → first_pier xs ≡ None
none_first [] each = refl
none_first (x ∷ xs) each =
    ap (λ (o : Option ℤ). first_pier (o ∷ xs)) (each 0 (omega arith)) ∙ ap further (none_first xs (λ k l. each (suc k) (omega arith)))

-- the first height, where none stands before it
pier_is : (xs : List (Option ℤ)) (most i : ℕ) (h : ℤ) → i < most → ((k : ℕ) → k < i → get_or xs k None ≡ None) → get_or xs i None ≡ Some h
    → first_pier (take most xs) ≡ pier_of (i + 1) h
pier_is xs most i h within before here =
    first_found (take most xs) i h (λ k l. get_or-take most xs k None (omega arith) ∙ before k l) (get_or-take most xs i None within ∙ here)

length_take : (n : ℕ) (xs : List (Option ℤ)) → (length (take n xs) ≤ n) × (length (take n xs) ≤ length xs)
length_take zero xs = (omega arith, omega arith)
length_take (suc n) [] = (omega arith, omega arith)
length_take (suc n) (x ∷ xs) = let few = length_take n xs in (omega (arith, few.0), omega (arith, few.1))

-- no height
pub no_pier : (xs : List (Option ℤ)) (most : ℕ) → ((k : ℕ) → k < min (length xs) most → get_or xs k None ≡ None) → first_pier (take most xs) ≡ None
no_pier xs most each =
    none_first (take most xs)
    (λ k l. let few = length_take most xs in get_or-take most xs k None (omega (arith, few.0)) ∙ each k (omega (arith, few.0, few.1)))

-- the first height, as the code finds it
pub found_pier : (xs : List (Option ℤ)) (most away : ℕ) (h : ℤ) → (1 ≤ away) × (away ≤ most) → ((k : ℕ) → k + 1 < away → get_or xs k None ≡ None)
    → Some h ≡ get_or xs (away - 1) None → Within 2000000000 h → pier_of away (to_z w32 (of_z w32 h)) ≡ first_pier (take most xs)
found_pier xs most away h within before here near =
    let same : to_z w32 (of_z w32 h) ≡ h = omega (arith, ints, near.0, near.1) in
    let last : away - 1 + 1 ≡ away = omega (arith, within.0) in
    ap (pier_of away) same
    ∙ sym (pier_is xs most (away - 1) h (omega (arith, within.0, within.1)) (λ k l. before k (omega (arith, within.0))) (sym here) ∙ ap (λ (k : ℕ). pier_of k h) last)

-- one cell more without a height
pub one_more : (xs : List (Option ℤ)) (away : ℕ) → 1 ≤ away → ((k : ℕ) → k + 1 < away → get_or xs k None ≡ None) → None ≡ get_or xs (away - 1) None
    → (k : ℕ) → k + 1 < away + 1 → get_or xs k None ≡ None
one_more xs away some before here k l = elim (cases_lt (k + 1) away) [
  | inl less ↦ before k less
  | inr last ↦ let same : k ≡ away - 1 = omega arith in ap (λ (n : ℕ). get_or xs n None) same ∙ sym here
]

-- ---- the cells of a row and of a column

row_at : (grid : Cells) (col row : ℕ) → col < grid.spec.cols → get_or (row_of grid row) col None ≡ height_at grid col row
row_at grid col row inside =
    get_or-take grid.spec.cols (drop (row * grid.spec.cols) grid.heights) col None inside
    ∙ get_or-drop (row * grid.spec.cols) grid.heights col None
    ∙ sym (unwrap_or-slice_get grid.heights (cell_index grid.spec col row) None)

row_length : (grid : Cells) (row : ℕ) → IsCells grid → row < grid.spec.rows → length (row_of grid row) ≡ grid.spec.cols
row_length grid row kept inside =
    let whole : suc row * grid.spec.cols ≤ grid.spec.rows * grid.spec.cols = mul-le-mul_right grid.spec.cols inside in
    let left : length (drop (row * grid.spec.cols) grid.heights) ≡ length grid.heights - row * grid.spec.cols = length-drop (row * grid.spec.cols) grid.heights in
    length-take-le grid.spec.cols (drop (row * grid.spec.cols) grid.heights) (omega (arith, kept.full))

column_at : (grid : Cells) (col row : ℕ) → row < grid.spec.rows → get_or (column_of grid col) row None ≡ height_at grid col row
column_at grid col row inside = get_or-map-range_with_len (height_at grid col) 0 grid.spec.rows row row None inside (omega arith)

column_length : (grid : Cells) (col : ℕ) → length (column_of grid col) ≡ grid.spec.rows
column_length grid col = length-map-range_with_len (height_at grid col) 0 grid.spec.rows

before_length : (xs : List (Option ℤ)) (at : ℕ) → at ≤ length xs → length (reverse (take at xs)) ≡ at
before_length xs at inside = length-reverse (take at xs) ∙ length-take-le at xs inside

-- the cell that is so far before another
before_at : (xs : List (Option ℤ)) (at away : ℕ) → at ≤ length xs → 1 ≤ away → away ≤ at → get_or (reverse (take at xs)) (away - 1) None ≡ get_or xs (at - away) None
before_at xs at away inside some near =
    let long = length-take-le at xs inside in
    let place : length (take at xs) - 1 - (away - 1) ≡ at - away = omega arith in
    get_or-reverse (take at xs) (away - 1) None (omega arith)
    ∙ ap (λ (k : ℕ). get_or (take at xs) k None) place
    ∙ get_or-take at xs (at - away) None (omega arith)

-- and so far behind another
behind_at : (xs : List (Option ℤ)) (at away : ℕ) → 1 ≤ away → get_or (drop (at + 1) xs) (away - 1) None ≡ get_or xs (at + away) None
behind_at xs at away some =
    let place : at + 1 + (away - 1) ≡ at + away = omega arith in
    get_or-drop (at + 1) xs (away - 1) None ∙ ap (λ (k : ℕ). get_or xs k None) place

-- ---- and on each side

-- how many cells lie there
abbrev pub number_to : Side → GridSpec → ℕ → ℕ → ℕ
number_to West spec col row = col
number_to East spec col row = spec.cols - 1 - col
number_to North spec col row = row
number_to South spec col row = spec.rows - 1 - row

pub count_to : (side : Side) (grid : Cells) (col row : ℕ) → IsCells grid → col < grid.spec.cols → row < grid.spec.rows
    → length (cells_to side grid col row) ≡ number_to side grid.spec col row
count_to West grid col row kept hc hr = before_length (row_of grid row) col (omega (arith, row_length grid row kept hr))
count_to East grid col row kept hc hr = omega (arith, length-drop (col + 1) (row_of grid row), row_length grid row kept hr)
count_to North grid col row kept hc hr = before_length (column_of grid col) row (omega (arith, column_length grid col))
count_to South grid col row kept hc hr = omega (arith, length-drop (row + 1) (column_of grid col), column_length grid col)

pub within_to : (side : Side) (grid : Cells) (col row away : ℕ) → IsCells grid → col < grid.spec.cols → row < grid.spec.rows
    → away ≤ length (cells_to side grid col row) → away ≤ number_to side grid.spec col row
within_to side grid col row away kept hc hr near = omega (arith, count_to side grid col row kept hc hr)

-- the height that is so far away there
abbrev pub height_to : Side → Cells → ℕ → ℕ → ℕ → Option ℤ
height_to West grid col row away = height_at grid (col - away) row
height_to East grid col row away = height_at grid (col + away) row
height_to North grid col row away = height_at grid col (row - away)
height_to South grid col row away = height_at grid col (row + away)

read_near : (side : Side) (grid : Cells) (col row away : ℕ) → IsCells grid → col < grid.spec.cols → row < grid.spec.rows → 1 ≤ away → away ≤ number_to side grid.spec col row
    → height_to side grid col row away ≡ get_or (cells_to side grid col row) (away - 1) None
read_near West grid col row away kept hc hr some near =
    sym (before_at (row_of grid row) col away (omega (arith, row_length grid row kept hr)) some near ∙ row_at grid (col - away) row (omega arith))
read_near East grid col row away kept hc hr some near =
    sym (behind_at (row_of grid row) col away some ∙ row_at grid (col + away) row (omega arith))
read_near North grid col row away kept hc hr some near =
    sym (before_at (column_of grid col) row away (omega (arith, column_length grid col)) some near ∙ column_at grid col (row - away) (omega arith))
read_near South grid col row away kept hc hr some near =
    sym (behind_at (column_of grid col) row away some ∙ column_at grid col (row + away) (omega arith))

-- what the code reads on a side
pub read_to : (side s : Side) (grid : Cells) (col row away : ℕ) (r : Option ℤ) → IsCells grid → col < grid.spec.cols → row < grid.spec.rows
    → (1 ≤ away) × (away ≤ length (cells_to side grid col row)) → side ≡ s → r ≡ height_to s grid col row away → r ≡ get_or (cells_to side grid col row) (away - 1) None
read_to side s grid col row away r kept hc hr near is reads =
    reads ∙ ap (λ (s : Side). height_to s grid col row away) (sym is)
    ∙ read_near side grid col row away kept hc hr near.0 (within_to side grid col row away kept hc hr near.1)
