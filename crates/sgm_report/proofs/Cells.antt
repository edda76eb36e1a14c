-- The cells of a region, row by row and cell by cell.
use Rattle.std.proofs.Common.{◌≡◌, ℕ, ◌+◌, ◌-◌, ◌*◌, ◌<◌, ◌≤◌, ◌++◌, Bool, true, false, List, [], ◌∷◌, length, map, get_or, ℤ, Option, None, take, drop, cond, refl, sym, ap, subst, ◌∙◌, arith, append-nil, append_assoc, length-drop}
use Rattle.std.specs.Prelude.{filter, flat_map, is_some}
use Rattle.std.specs.List.{range_with_len}
use Rattle.std.proofs.lemmas.List.{ext_get_or, get_or-drop, get_or-take, length-take-le, map-append, map-id}
use Rattle.std.proofs.lemmas.List.Elements.{filter-append}
use Rattle.std.proofs.lemmas.List.FromFn.{get_or-map-range_with_len, length-map-range_with_len, map-range_with_len_more}
use Rattle.std.proofs.lemmas.Grind.{flat_map-append}
use Rattle.std.proofs.lemmas.Option.{unwrap_or-slice_get}
use Rattle.std.proofs.lemmas.Nat.{mul-le}
use Rattle.sgm_grid.specs.Cells.{Cells, IsGridSpec, height_at, cell_index, row_of}
use Rattle.sgm_grid.specs.declared.grid_spec.GridSpec.{GridSpec}
use Rattle.sgm_report.specs.Areas.{Area, LiesIn, lies_inside}
use Rattle.sgm_report.specs.Bases.{base_at}
use Rattle.sgm_report.specs.Sums.{HasRoom, most_cells, sums_over}
use Rattle.sgm_report.specs.Tallies.{cell_at, cols_of, row_cells}
use Rattle.sgm_report.specs.declared.volumes.RegionCell.{RegionCell}
use Rattle.sgm_report.specs.declared.volumes.Sums.{Sums}

-- the cells of the first rows of a region
abbrev pub first_rows : Cells → Cells → Area → ℕ → List RegionCell
first_rows grid measured area n = flat_map (row_cells grid measured area) (range_with_len area.row n)

-- those of a row that lie inside, among its first columns
abbrev pub first_cells : Cells → Cells → Area → ℕ → ℕ → List RegionCell
first_cells grid measured area row n =
    map (cell_at grid measured area row)
    (filter (λ col. lies_inside grid.spec area.outline col row) (range_with_len area.col n))

range_more : (a n j : ℕ) → a + n ≡ j → range_with_len a (n + 1) ≡ range_with_len a n ++ j ∷ []
range_more a n j e =
    sym (map-id (range_with_len a (n + 1))) ∙ map-range_with_len_more (λ (k : ℕ). k) a n j e
    ∙ ap (λ (t : List ℕ). t ++ j ∷ []) (map-id (range_with_len a n))

-- one row more
pub rows_more : (grid measured : Cells) (area : Area) (n j : ℕ) → area.row + n ≡ j
    → first_rows grid measured area (n + 1) ≡ first_rows grid measured area n ++ row_cells grid measured area j
rows_more grid measured area n j e =
    let row : ℕ → List RegionCell = row_cells grid measured area in
    ap (λ (t : List ℕ). flat_map row t) (range_more area.row n j e)
    ∙ flat_map-append row (range_with_len area.row n) (j ∷ [])
    ∙ ap (λ (t : List RegionCell). first_rows grid measured area n ++ t) (append-nil (row j))

-- one column more
cells_more : (grid measured : Cells) (area : Area) (row n j : ℕ) → area.col + n ≡ j
    → first_cells grid measured area row (n + 1)
    ≡ first_cells grid measured area row n
    ++ map (cell_at grid measured area row) (cond (lies_inside grid.spec area.outline j row) (j ∷ []) [])
cells_more grid measured area row n j e =
    let lies : ℕ → Bool = λ (col : ℕ). lies_inside grid.spec area.outline col row in
    let cell : ℕ → RegionCell = cell_at grid measured area row in
    let before = range_with_len area.col n in
    ap (λ (t : List ℕ). map cell (filter lies t)) (range_more area.col n j e)
    ∙ ap (λ (t : List ℕ). map cell t) (filter-append lies before (j ∷ []))
    ∙ map-append cell (filter lies before) (filter lies (j ∷ []))

-- that lies inside
pub one_inside : (grid measured : Cells) (area : Area) (row n j : ℕ) → area.col + n ≡ j
    → lies_inside grid.spec area.outline j row ≡ true
    → first_cells grid measured area row (n + 1)
    ≡ first_cells grid measured area row n ++ cell_at grid measured area row j ∷ []
one_inside grid measured area row n j e inside =
    cells_more grid measured area row n j e
    ∙ ap (λ (lies : Bool). first_cells grid measured area row n ++ map (cell_at grid measured area row) (cond lies (j ∷ []) [])) inside

-- or that doesn't
pub one_outside : (grid measured : Cells) (area : Area) (row n j : ℕ) → area.col + n ≡ j
    → lies_inside grid.spec area.outline j row ≡ false
    → first_cells grid measured area row (n + 1) ≡ first_cells grid measured area row n
one_outside grid measured area row n j e outside =
    cells_more grid measured area row n j e
    ∙ ap (λ (lies : Bool). first_cells grid measured area row n ++ map (cell_at grid measured area row) (cond lies (j ∷ []) [])) outside
    ∙ append-nil (first_cells grid measured area row n)

-- the first cells, with all columns, are those of the row
pub all_cells : (grid measured : Cells) (area : Area) (row : ℕ)
    → first_cells grid measured area row area.cols ≡ row_cells grid measured area row
unfolding row_cells
all_cells grid measured area row = refl

-- a part of a row has the heights of those columns
pub part_is : (grid : Cells) (row col cols many : ℕ) → length (row_of grid row) ≡ grid.spec.cols → col + cols ≤ grid.spec.cols → many ≡ cols
    → take many (drop col (row_of grid row)) ≡ map (λ c. height_at grid c row) (range_with_len col cols)
part_is grid row col cols many whole hc same =
    let f : ℕ → Option ℤ = λ (c : ℕ). height_at grid c row in
    let part = take many (drop col (row_of grid row)) in
    let part_length : length part ≡ cols =
    length-take-le many (drop col (row_of grid row)) (omega (arith, length-drop col (row_of grid row), whole)) ∙ same in
    ext_get_or None part (map f (range_with_len col cols)) (part_length ∙ sym (length-map-range_with_len f col cols))
    (λ i lt.
    let within : i < cols = omega (arith, part_length) in
    let place : row * grid.spec.cols + (col + i) ≡ cell_index grid.spec (col + i) row = refl in
    get_or-take many (drop col (row_of grid row)) i None (omega arith)
    ∙ get_or-drop col (row_of grid row) i None
    ∙ get_or-take grid.spec.cols (drop (row * grid.spec.cols) grid.heights) (col + i) None (omega arith)
    ∙ get_or-drop (row * grid.spec.cols) grid.heights (col + i) None
    ∙ sym (unwrap_or-slice_get grid.heights (cell_index grid.spec (col + i) row) None)
    ∙ sym (get_or-map-range_with_len f col cols i (col + i) None within refl))

-- what is told of each column of a region, and what of one
pub told_all : {X : Type 0} (f : ℕ → X) (area : Area) (xs : List X) → xs ≡ map f (cols_of area)
    → length xs ≡ area.cols
told_all {X} f area xs e = ap (λ (t : List X). length t) e ∙ length-map-range_with_len f area.col area.cols

pub told : {X : Type 0} (f : ℕ → X) (area : Area) (xs : List X) (i : ℕ) (none : X)
    → xs ≡ map f (cols_of area) → i < area.cols → get_or xs i none ≡ f (area.col + i)
told {X} f area xs i none e lt =
    ap (λ (t : List X). get_or t i none) e
    ∙ get_or-map-range_with_len f area.col area.cols i (area.col + i) none lt refl

-- a cell of a region, told by its parts
pub cell_is : (grid measured : Cells) (area : Area) (row col : ℕ) (height : Option ℤ) (known : Bool) (base : ℤ)
    → height ≡ height_at grid col row → known ≡ is_some (height_at measured col row) → base ≡ base_at grid.spec area.base col row
    → record { height = height; measured = known; base = base } ≡ cell_at grid measured area row col
cell_is grid measured area row col height known base ph pk pb =
    let at : Option ℤ → Bool → ℤ → RegionCell = λ (h : Option ℤ) (k : Bool) (b : ℤ). record { height = h; measured = k; base = b } in
    ap (λ (h : Option ℤ). at h known base) ph
    ∙ ap (λ (k : Bool). at (height_at grid col row) k base) pk
    ∙ ap (λ (b : ℤ). at (height_at grid col row) (is_some (height_at measured col row)) b) pb

-- a region has at most the most cells
pub cells_at_most : (spec : GridSpec) (area : Area) → IsGridSpec spec → LiesIn spec area → area.rows * area.cols ≤ most_cells
cells_at_most spec area ranges inside =
    mul-le area.rows area.cols 4096 4096 (omega (arith, inside.within_rows, ranges.rows_in_range.1)) (omega (arith, inside.within_cols, ranges.cols_in_range.1))

-- no cells leave all the room
pub room_at_first : (s : Sums) (n : ℕ) → s ≡ sums_over [] → n ≤ most_cells → HasRoom s n
room_at_first s n e le = subst (λ (t : Sums). HasRoom t n) (sym e) (record {
  counts = omega arith;
  bridges = omega arith;
  heights_above = omega arith;
  heights_below = omega arith;
})

-- the cells of the rows that are left are those of the next row and of the later ones
pub row_apart : (first rows row cols : ℕ) → row < first + rows
    → (first + rows - row) * cols ≡ (first + rows - (row + 1)) * cols + cols
row_apart first rows row cols within =
    let rest : first + rows - row ≡ (first + rows - (row + 1)) + 1 = omega (arith, within) in
    ap (λ (n : ℕ). n * cols) rest ∙ omega arith

-- the sums of one row more of a region
pub tally_more : (grid measured : Cells) (area : Area) (sums after : Sums) (row n : ℕ)
    → sums ≡ sums_over (first_rows grid measured area n)
    → ((cells : List RegionCell) → sums ≡ sums_over cells → after ≡ sums_over (cells ++ row_cells grid measured area row))
    → area.row + n ≡ row → after ≡ sums_over (first_rows grid measured area (n + 1))
tally_more grid measured area sums after row n so_far step at =
    step (first_rows grid measured area n) so_far ∙ ap sums_over (sym (rows_more grid measured area n row at))

-- the sums of one column more of a row, where it lies inside
pub row_more : (grid measured : Cells) (area : Area) (row i : ℕ) (cell : RegionCell) (before sums after : Sums)
    → lies_inside grid.spec area.outline (area.col + i) row ≡ true → cell ≡ cell_at grid measured area row (area.col + i)
    → ((cells : List RegionCell) → before ≡ sums_over cells → sums ≡ sums_over (cells ++ first_cells grid measured area row i))
    → ((cells : List RegionCell) → sums ≡ sums_over cells → after ≡ sums_over (cells ++ cell ∷ []))
    → (cells : List RegionCell) → before ≡ sums_over cells → after ≡ sums_over (cells ++ first_cells grid measured area row (i + 1))
row_more grid measured area row i cell before sums after inside is so_far step cells e =
    let earlier = first_cells grid measured area row i in
    step (cells ++ earlier) (so_far cells e)
    ∙ ap (λ (t : RegionCell). sums_over ((cells ++ earlier) ++ t ∷ [])) is
    ∙ ap sums_over (append_assoc cells earlier (cell_at grid measured area row (area.col + i) ∷ []))
    ∙ ap (λ (t : List RegionCell). sums_over (cells ++ t)) (sym (one_inside grid measured area row i (area.col + i) refl inside))

-- and where it doesn't
pub row_past : (grid measured : Cells) (area : Area) (row i : ℕ) (before sums : Sums)
    → lies_inside grid.spec area.outline (area.col + i) row ≡ false
    → ((cells : List RegionCell) → before ≡ sums_over cells → sums ≡ sums_over (cells ++ first_cells grid measured area row i))
    → (cells : List RegionCell) → before ≡ sums_over cells → sums ≡ sums_over (cells ++ first_cells grid measured area row (i + 1))
row_past grid measured area row i before sums outside so_far cells e =
    so_far cells e
    ∙ ap (λ (t : List RegionCell). sums_over (cells ++ t)) (sym (one_outside grid measured area row i (area.col + i) refl outside))

-- all columns make the row
pub row_ends : (grid measured : Cells) (area : Area) (row i : ℕ) (before sums : Sums) → i ≡ area.cols
    → ((cells : List RegionCell) → before ≡ sums_over cells → sums ≡ sums_over (cells ++ first_cells grid measured area row i))
    → (cells : List RegionCell) → before ≡ sums_over cells → sums ≡ sums_over (cells ++ row_cells grid measured area row)
row_ends grid measured area row i before sums end so_far cells e =
    so_far cells e
    ∙ ap (λ (n : ℕ). sums_over (cells ++ first_cells grid measured area row n)) end
    ∙ ap (λ (t : List RegionCell). sums_over (cells ++ t)) (all_cells grid measured area row)
