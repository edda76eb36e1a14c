-- What the definitions of a tally imply.
use Rattle.std.proofs.Common.{◌≡◌, ℕ, suc, ◌+◌, ◌*◌, ◌≤◌, ◌⊎◌, inl, inr, Bool, true, false, not, ◌&&◌, List, [], ◌∷◌, ◌++◌, length, map, cond, ℤ, pos, ◌+ℤ◌, ◌*ℤ◌, ◌≤ℤ◌, Option, Some, None, refl, sym, ap, subst, ◌∙◌, arith, length-append}
use Rattle.std.specs.Prelude.{Contains, count_by, sum_by, filter, flat_map, fold, is_some, is_none}
use Rattle.std.specs.Int.{int_max, int_min}
use Rattle.std.proofs.lemmas.Int.{ints, fold-int_max_bounds, fold-int_max_reached, fold-int_min_bounds, fold-int_min_reached}
use Rattle.std.proofs.lemmas.List.{length-map}
use Rattle.std.proofs.lemmas.List.Elements.{All-cons, Contains-append_right}
use Rattle.std.proofs.lemmas.List.FromFn.{length-range_with_len}
use Rattle.std.proofs.lemmas.List.Sums.{sum_by-append, sum_by-cons}
use Rattle.sgm_base.specs.Rounding.{rounded}
use Rattle.sgm_grid.specs.Cells.{Cells, height_at}
use Rattle.sgm_grid.specs.Points.{greatest}
use Rattle.sgm_grid.specs.declared.grid_spec.GridSpec.{GridSpec}
use Rattle.sgm_report.specs.Areas.{Area, lies_inside}
use Rattle.sgm_report.specs.Bases.{base_at, from_south, twice_way}
use Rattle.sgm_report.specs.Outlines.{Corner}
use Rattle.sgm_report.specs.Tallies.{IsHighest, IsLowest, above_base, below_base, cell_at, cols_of, has_height, heights_in, is_bridged, is_empty, least, region_cells, row_cells, rows_of, square, tally_of}
use Rattle.sgm_report.specs.declared.base.BasePlane.{BasePlane}
use Rattle.sgm_report.specs.declared.volumes.RegionCell.{RegionCell}
use Rattle.sgm_report.specs.declared.volumes.RegionTally.{RegionTally}

-- 1 where that holds, and 0 where it doesn't
abbrev counted : Bool → ℕ
counted holds = cond holds 1 0

one_of_two : (height : Option ℤ) → counted (is_some height) + counted (is_none height) ≡ 1
one_of_two None = refl
one_of_two (Some h) = refl

counted_once : (cells : List RegionCell) → count_by has_height cells + count_by is_empty cells ≡ length cells
counted_once [] = refl
counted_once (cell ∷ cells) =
    let full : count_by has_height (cell ∷ cells) ≡ counted (has_height cell) + count_by has_height cells =
    sum_by-cons (λ (c : RegionCell). counted (has_height c)) cell cells in
    let empty : count_by is_empty (cell ∷ cells) ≡ counted (is_empty cell) + count_by is_empty cells =
    sum_by-cons (λ (c : RegionCell). counted (is_empty c)) cell cells in
    omega (arith, counted_once cells, full, empty, one_of_two cell.height)

pub cells_counted : (grid measured : Cells) (area : Area)
    → (tally_of grid measured area).cells + (tally_of grid measured area).empty ≡ length (region_cells grid measured area)
cells_counted grid measured area = counted_once (region_cells grid measured area)

-- without an outline all columns lie inside
all_inside : (spec : GridSpec) (outline : Option (List Corner)) (row : ℕ) (cols : List ℕ) → outline ≡ None
    → filter (λ col. lies_inside spec outline col row) cols ≡ cols
all_inside spec outline row [] e = refl
all_inside spec outline row (col ∷ cols) e =
    let kept = filter (λ (c : ℕ). lies_inside spec outline c row) cols in
    ap (λ (o : Option (List Corner)). cond (lies_inside spec o col row) (col ∷ kept) kept) e
    ∙ ap (λ (t : List ℕ). col ∷ t) (all_inside spec outline row cols e)

row_length : (grid measured : Cells) (area : Area) (row : ℕ) → area.outline ≡ None
    → length (row_cells grid measured area row) ≡ area.cols
unfolding row_cells
row_length grid measured area row e =
    length-map (filter (λ (col : ℕ). lies_inside grid.spec area.outline col row) (cols_of area)) (cell_at grid measured area row)
    ∙ ap (λ (t : List ℕ). length t) (all_inside grid.spec area.outline row (cols_of area) e)
    ∙ length-range_with_len area.col area.cols

rows_length : (grid measured : Cells) (area : Area) (rows : List ℕ) → area.outline ≡ None
    → length (flat_map (row_cells grid measured area) rows) ≡ length rows * area.cols
rows_length grid measured area [] e = omega arith
rows_length grid measured area (row ∷ rows) e =
    let next : suc (length rows) * area.cols ≡ area.cols + length rows * area.cols = omega arith in
    length-append (row_cells grid measured area row) (flat_map (row_cells grid measured area) rows)
    ∙ ap (λ (n : ℕ). n + length (flat_map (row_cells grid measured area) rows)) (row_length grid measured area row e)
    ∙ ap (λ (n : ℕ). area.cols + n) (rows_length grid measured area rows e)
    ∙ sym next

pub rectangle_counted : (grid measured : Cells) (area : Area) → area.outline ≡ None
    → (tally_of grid measured area).cells + (tally_of grid measured area).empty ≡ area.cols * area.rows
rectangle_counted grid measured area e =
    let turned : area.rows * area.cols ≡ area.cols * area.rows = omega arith in
    cells_counted grid measured area ∙ rows_length grid measured area (rows_of area) e
    ∙ ap (λ (n : ℕ). n * area.cols) (length-range_with_len area.row area.rows) ∙ turned

bridge_is_height : (height : Option ℤ) (known : Bool) → counted (is_some height && not known) ≤ counted (is_some height)
bridge_is_height None known = omega arith
bridge_is_height (Some h) true = omega arith
bridge_is_height (Some h) false = omega arith

-- the bridged cells are among those that have a height
pub bridged-le : (cells : List RegionCell) → count_by is_bridged cells ≤ count_by has_height cells
bridged-le [] = omega arith
bridged-le (cell ∷ cells) =
    let full : count_by has_height (cell ∷ cells) ≡ counted (has_height cell) + count_by has_height cells =
    sum_by-cons (λ (c : RegionCell). counted (has_height c)) cell cells in
    let bridged : count_by is_bridged (cell ∷ cells) ≡ counted (is_bridged cell) + count_by is_bridged cells =
    sum_by-cons (λ (c : RegionCell). counted (is_bridged c)) cell cells in
    omega (arith, bridged-le cells, full, bridged, bridge_is_height cell.height cell.measured)

no_bridge : (height : Option ℤ) → counted (is_some height && not (is_some height)) ≡ 0
no_bridge None = refl
no_bridge (Some h) = refl

no_bridges_among : (grid : Cells) (area : Area) (row : ℕ) (cols : List ℕ) → count_by is_bridged (map (cell_at grid grid area row) cols) ≡ 0
no_bridges_among grid area row [] = refl
no_bridges_among grid area row (col ∷ cols) =
    let cells = map (cell_at grid grid area row) cols in
    let bridged : count_by is_bridged (cell_at grid grid area row col ∷ cells)
    ≡ counted (is_bridged (cell_at grid grid area row col)) + count_by is_bridged cells =
    sum_by-cons (λ (c : RegionCell). counted (is_bridged c)) (cell_at grid grid area row col) cells in
    omega (arith, bridged, no_bridge (height_at grid col row), no_bridges_among grid area row cols)

no_bridges_in : (grid : Cells) (area : Area) (row : ℕ) → count_by is_bridged (row_cells grid grid area row) ≡ 0
unfolding row_cells
no_bridges_in grid area row =
    no_bridges_among grid area row (filter (λ (col : ℕ). lies_inside grid.spec area.outline col row) (cols_of area))

-- where all heights were measured, none is a bridge's
pub no_bridges : (grid : Cells) (area : Area) (rows : List ℕ) → count_by is_bridged (flat_map (row_cells grid grid area) rows) ≡ 0
no_bridges grid area [] = refl
no_bridges grid area (row ∷ rows) =
    let more = flat_map (row_cells grid grid area) rows in
    let bridged : count_by is_bridged (row_cells grid grid area row ++ more)
    ≡ count_by is_bridged (row_cells grid grid area row) + count_by is_bridged more =
    sum_by-append (λ (c : RegionCell). counted (is_bridged c)) (row_cells grid grid area row) more in
    omega (arith, bridged, no_bridges_in grid area row, no_bridges grid area rows)

reached : (h : ℤ) (hs : List ℤ) (r : ℤ) → (r ≡ h) ⊎ Contains hs r → Contains (h ∷ hs) r
reached h hs r (inl same) = (0, omega arith, sym same)
reached h hs r (inr later) = Contains-append_right (h ∷ []) hs r later

pub lowest_is : (hs : List ℤ) → IsLowest hs (least hs)
lowest_is [] = refl
lowest_is (h ∷ hs) =
    let bounds = fold-int_min_bounds h hs (fold int_min h hs) refl in (
      reached h hs (fold int_min h hs) (fold-int_min_reached h hs (fold int_min h hs) refl),
      All-cons (λ (z : ℤ). fold int_min h hs ≤ℤ z) h hs bounds.0 bounds.1,
    )

pub highest_is : (hs : List ℤ) → IsHighest hs (greatest hs)
highest_is [] = refl
highest_is (h ∷ hs) =
    let bounds = fold-int_max_bounds h hs (fold int_max h hs) refl in (
      reached h hs (fold int_max h hs) (fold-int_max_reached h hs (fold int_max h hs) refl),
      All-cons (λ (z : ℤ). z ≤ℤ fold int_max h hs) h hs bounds.0 bounds.1,
    )

none_of : (height : Option ℤ) → counted (is_some height) ≡ 0 → height ≡ None
none_of None e = refl
none_of (Some h) e = absurd (omega (arith, e))

-- the first of some cells without heights, and the rest
all_empty : (cell : RegionCell) (cells : List RegionCell) → count_by has_height (cell ∷ cells) ≡ 0
    → (cell.height ≡ None) × (count_by has_height cells ≡ 0)
all_empty cell cells e =
    let full : count_by has_height (cell ∷ cells) ≡ counted (has_height cell) + count_by has_height cells =
    sum_by-cons (λ (c : RegionCell). counted (has_height c)) cell cells in
    (none_of cell.height (omega (arith, full, e)), omega (arith, full, e))

no_heights : (cells : List RegionCell) → count_by has_height cells ≡ 0 → heights_in cells ≡ []
no_heights [] e = refl
no_heights (cell ∷ cells) e =
    let parts = all_empty cell cells e in
    subst (λ (o : Option ℤ). heights_in (record { height = o; measured = cell.measured; base = cell.base } ∷ cells) ≡ [])
    (sym parts.0) (no_heights cells parts.1)

-- what an empty cell adds nothing to stays 0
nothing_added : (f : RegionCell → ℕ) → ((cell : RegionCell) → cell.height ≡ None → f cell ≡ 0)
    → (cells : List RegionCell) → count_by has_height cells ≡ 0 → sum_by f cells ≡ 0
nothing_added f none [] e = refl
nothing_added f none (cell ∷ cells) e =
    let parts = all_empty cell cells e in
    omega (arith, sum_by-cons f cell cells, none cell parts.0, nothing_added f none cells parts.1)

abbrev tally_from : ℕ → ℕ → ℕ → ℕ → ℕ → List ℤ → RegionTally
tally_from some more none over under hs =
    record { cells = some; bridged = more; empty = none; fill = over; cut = under; lowest = least hs; highest = greatest hs }

pub empty_tally : (grid measured : Cells) (area : Area) → (tally_of grid measured area).cells ≡ 0
    → tally_of grid measured area
    ≡ record {
      cells = 0;
      bridged = 0;
      empty = length (region_cells grid measured area);
      fill = 0;
      cut = 0;
      lowest = None;
      highest = None;
    }
empty_tally grid measured area e =
    let cells = region_cells grid measured area in
    let none = count_by is_empty cells in
    let ground = square grid.spec.cell in
    let over : RegionCell → ℕ = λ (c : RegionCell). above_base c.base c.height * ground in
    let under : RegionCell → ℕ = λ (c : RegionCell). below_base c.base c.height * ground in
    let bridged : count_by is_bridged cells ≡ 0 = omega (arith, bridged-le cells, e) in
    let all : none ≡ length cells = omega (arith, counted_once cells, e) in
    let nothing : 0 * ground ≡ 0 = omega arith in
    let fill : sum_by over cells ≡ 0 =
    nothing_added over (λ cell empty. ap (λ (o : Option ℤ). above_base cell.base o * ground) empty ∙ nothing) cells e in
    let cut : sum_by under cells ≡ 0 =
    nothing_added under (λ cell empty. ap (λ (o : Option ℤ). below_base cell.base o * ground) empty ∙ nothing) cells e in
    ap (λ (hs : List ℤ). tally_from (count_by has_height cells) (count_by is_bridged cells) none (sum_by over cells) (sum_by under cells) hs)
    (no_heights cells e)
    ∙ ap (λ (n : ℕ). tally_from n (count_by is_bridged cells) none (sum_by over cells) (sum_by under cells) []) e
    ∙ ap (λ (n : ℕ). tally_from 0 n none (sum_by over cells) (sum_by under cells) []) bridged
    ∙ ap (λ (n : ℕ). tally_from 0 0 n (sum_by over cells) (sum_by under cells) []) all
    ∙ ap (λ (n : ℕ). tally_from 0 0 (length cells) n (sum_by under cells) []) fill
    ∙ ap (λ (n : ℕ). tally_from 0 0 (length cells) 0 n []) cut

-- a base that doesn't rise
pub level_base : (spec : GridSpec) (base : BasePlane) (col row : ℕ) → base.rise_east ≡ pos 0 → base.rise_north ≡ pos 0
    → base_at spec base col row ≡ base.height
unfolding base_at
level_base spec base col row east north =
    let to_east = twice_way spec col in
    let to_north = twice_way spec (from_south spec row) in
    let rise : (base.rise_east *ℤ to_east) +ℤ (base.rise_north *ℤ to_north) ≡ pos 0 =
    ap (λ (z : ℤ). (z *ℤ to_east) +ℤ (base.rise_north *ℤ to_north)) east
    ∙ ap (λ (z : ℤ). (pos 0 *ℤ to_east) +ℤ (z *ℤ to_north)) north ∙ omega (arith, ints) in
    let same : base.height +ℤ rounded (pos 0) (pos 2000000) ≡ base.height = omega (arith, ints) in
    ap (λ (z : ℤ). base.height +ℤ rounded z (pos 2000000)) rise ∙ same
