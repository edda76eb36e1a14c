-- What the rows of an entry that are added leave in the cells.
use Rattle.std.proofs.Common.{◌≡◌, ℕ, suc, ◌+◌, ◌-◌, ◌*◌, ◌<◌, ◌≤◌, Bool, true, false, ◌==◌, ◌&&◌, nat_le, nat_lt, if◌then◌else◌, List, length, get_or, take, drop, Option, Some, None, ℤ, refl, sym, ap, ap₂, subst, ◌∙◌, arith, inl, inr, ◌⊎◌}
use Rattle.std.specs.Prelude.{option_and_then}
use Rattle.std.proofs.Math.Nat.{mul-le-mul_right}
use Rattle.std.proofs.lemmas.Bool.{cases_lt, cases_order, eq-eqb, le-leb, le-ltb, lt-leb, lt-ltb, ltb-false, ltb-true, ne_eqb}
use Rattle.std.proofs.lemmas.List.{get_or-drop, get_or-take, get_or_past, length-drop, length-take}
use Rattle.std.proofs.lemmas.Option.{unwrap_or-slice_get}
use Rattle.sgm_grid.specs.declared.grid_spec.GridSpec.{GridSpec}
use Rattle.sgm_grid.specs.Cells.{Cells, cell_index, height_at, row_of}
use Rattle.sgm_grid.specs.Points.{cell_of}
use Rattle.sgm_merge.specs.declared.shared.Shared.{Shared}
use Rattle.sgm_merge.specs.Merged.{corner, height_over}
use Rattle.sgm_merge.specs.Merging.{held_at}
use Rattle.sgm_merge.specs.Sharing.{both, from_place, line_in}
use Rattle.sgm_merge.specs.Tallies.{Heights, no_heights, with_cell}
use Rattle.sgm_merge.proofs.Places.{from_test}

-- ---- the lines that are shared

abbrev pub line_test : Shared → ℕ → Bool → Bool → Option ℕ
line_test s line x y = if x && y then Some (line - s.first + s.entry_first) else None

line_inside : (s : Shared) (line : ℕ) → s.first ≤ line → line < s.first + s.count → line_in s line ≡ Some (line - s.first + s.entry_first)
line_inside s line low high = ap₂ (line_test s line) (le-leb s.first line low) (lt-ltb line (s.first + s.count) high)

line_before : (s : Shared) (line : ℕ) → line < s.first → line_in s line ≡ None
line_before s line low = ap (λ (x : Bool). line_test s line x (nat_lt line (s.first + s.count))) (lt-leb s.first line low)

no_second : (x : Bool) (s : Shared) (line : ℕ) → line_test s line x false ≡ None
no_second true s line = refl
no_second false s line = refl

line_behind : (s : Shared) (line : ℕ) → s.first + s.count ≤ line → line_in s line ≡ None
line_behind s line high = ap (line_test s line (nat_le s.first line)) (le-ltb line (s.first + s.count) high) ∙ no_second (nat_le s.first line) s line

-- ---- the heights of an entry over the cells

abbrev pub height_in : Cells → Option (ℕ × ℕ) → Option ℤ
height_in entry cell = option_and_then (λ (cell : ℕ × ℕ). height_at entry cell.0 cell.1) cell

no_row : (entry : Cells) (col : Option ℕ) → height_in entry (both col None) ≡ None
no_row entry None = refl
no_row entry (Some col) = refl

-- the corners of cells fall into the cells that are shared
abbrev pub Corresponds : GridSpec → Cells → Shared → Shared → Type 0
Corresponds spec entry cols rows = (col row : ℕ) → row < spec.rows → col < spec.cols → cell_of entry.spec (corner spec col row) ≡ both (line_in cols col) (line_in rows row)

over_before : (spec : GridSpec) (entry : Cells) (cols rows : Shared) (col row : ℕ) → Corresponds spec entry cols rows → row < spec.rows → col < spec.cols
    → row < rows.first → height_over spec entry col row ≡ None
over_before spec entry cols rows col row same hr hc low =
    ap (height_in entry) (same col row hr hc ∙ ap (both (line_in cols col)) (line_before rows row low)) ∙ no_row entry (line_in cols col)

over_behind : (spec : GridSpec) (entry : Cells) (cols rows : Shared) (col row : ℕ) → Corresponds spec entry cols rows → row < spec.rows → col < spec.cols
    → rows.first + rows.count ≤ row → height_over spec entry col row ≡ None
over_behind spec entry cols rows col row same hr hc high =
    ap (height_in entry) (same col row hr hc ∙ ap (both (line_in cols col)) (line_behind rows row high)) ∙ no_row entry (line_in cols col)

-- some heights are those that a row of an entry has in the columns that are shared
pub record AreOfRow (entry : Cells) (cols : Shared) (row : ℕ) (hs : List (Option ℤ)) : Type 0 where
  pub count : length hs ≡ cols.count
  pub each : (k : ℕ) → k < cols.count → get_or hs k None ≡ height_at entry (cols.entry_first + k) row

of_row : (entry : Cells) (cols : Shared) (row : ℕ) (hs : List (Option ℤ)) (col : ℕ) → AreOfRow entry cols row hs
    → (col < cols.first) ⊎ (cols.first ≤ col) → (col < cols.first + cols.count) ⊎ (cols.first + cols.count ≤ col)
    → height_in entry (both (line_in cols col) (Some row)) ≡ from_place cols.first hs col
of_row entry cols row hs col are (inl low) high =
    ap (λ (o : Option ℕ). height_in entry (both o (Some row))) (line_before cols col low)
    ∙ sym (ap (λ (b : Bool). from_test b (get_or hs (col - cols.first) None)) (lt-ltb col cols.first low))
of_row entry cols row hs col are (inr low) (inl high) =
    let there : col - cols.first + cols.entry_first ≡ cols.entry_first + (col - cols.first) = omega arith in
    ap (λ (o : Option ℕ). height_in entry (both o (Some row))) (line_inside cols col low high)
    ∙ ap (λ (k : ℕ). height_at entry k row) there
    ∙ sym (are.each (col - cols.first) (omega arith))
    ∙ sym (ap (λ (b : Bool). from_test b (get_or hs (col - cols.first) None)) (le-ltb col cols.first low))
of_row entry cols row hs col are (inr low) (inr high) =
    ap (λ (o : Option ℕ). height_in entry (both o (Some row))) (line_behind cols col high)
    ∙ sym (ap (λ (b : Bool). from_test b (get_or hs (col - cols.first) None)) (le-ltb col cols.first low)
    ∙ get_or_past hs (col - cols.first) None (omega (arith, are.count)))

over_row : (spec : GridSpec) (entry : Cells) (cols rows : Shared) (hs : List (Option ℤ)) (index col : ℕ) → Corresponds spec entry cols rows
    → rows.first + index < spec.rows → col < spec.cols → index < rows.count → AreOfRow entry cols (rows.entry_first + index) hs
    → height_over spec entry col (rows.first + index) ≡ from_place cols.first hs col
over_row spec entry cols rows hs index col same hr hc inside are =
    let row : rows.first + index - rows.first + rows.entry_first ≡ rows.entry_first + index = omega arith in
    ap (height_in entry) (same col (rows.first + index) hr hc
    ∙ ap (both (line_in cols col)) (line_inside rows (rows.first + index) (omega arith) (omega arith) ∙ ap Some row))
    ∙ of_row entry cols (rows.entry_first + index) hs col are (cases_lt col cols.first) (cases_lt col (cols.first + cols.count))

-- ---- a row of heights at the places of the cells

lt_moved : (a m n : ℕ) → (m < n) ⊎ (n ≤ m) → nat_lt (a + m) (a + n) ≡ nat_lt m n
lt_moved a m n (inl low) = lt-ltb (a + m) (a + n) (omega arith) ∙ sym (lt-ltb m n low)
lt_moved a m n (inr high) = le-ltb (a + m) (a + n) (omega arith) ∙ sym (le-ltb m n high)

-- heights that begin in a row stay in it
row_places : (width first row : ℕ) (hs : List (Option ℤ)) (col line : ℕ) (over : ℕ → Option ℤ) → first + length hs ≤ width → col < width
    → over row ≡ from_place first hs col → (line ≡ row) ⊎ ((line < row) ⊎ (row < line))
    → from_place (row * width + first) hs (line * width + col) ≡ (if line == row then over line else None)
row_places width first row hs col line over within hc is (inl same) =
    let there : row * width + col - (row * width + first) ≡ col - first = omega arith in
    ap (λ (l : ℕ). from_place (row * width + first) hs (l * width + col)) same
    ∙ ap₂ (λ (b : Bool) (k : ℕ). from_test b (get_or hs k None)) (lt_moved (row * width) col first (cases_lt col first)) there
    ∙ sym is ∙ sym (ap over same)
    ∙ sym (ap (λ (b : Bool). if b then over line else None) (eq-eqb line row same))
row_places width first row hs col line over within hc is (inr (inl low)) =
    let above : suc line * width ≤ row * width = mul-le-mul_right width low in
    let before : line * width + col < row * width + first = omega arith in
    ap (λ (b : Bool). from_test b (get_or hs (line * width + col - (row * width + first)) None)) (lt-ltb _ _ before)
    ∙ sym (ap (λ (b : Bool). if b then over line else None) (ne_eqb line row (λ e. omega arith)))
row_places width first row hs col line over within hc is (inr (inr high)) =
    let below : suc row * width ≤ line * width = mul-le-mul_right width high in
    let behind : row * width + first ≤ line * width + col = omega arith in
    let past : length hs ≤ line * width + col - (row * width + first) = omega arith in
    ap (λ (b : Bool). from_test b (get_or hs (line * width + col - (row * width + first)) None)) (le-ltb _ _ behind)
    ∙ get_or_past hs _ None past
    ∙ sym (ap (λ (b : Bool). if b then over line else None) (ne_eqb line row (λ e. omega arith)))

-- the rows before one, and that row
rows_joined : (held : Heights) (o : Option ℤ) (line row : ℕ) → (line ≡ row) ⊎ ((line < row) ⊎ (row < line))
    → with_cell (with_cell held (if nat_lt line row then o else None)) (if line == row then o else None) ≡ with_cell held (if nat_lt line (row + 1) then o else None)
rows_joined held o line row (inl same) =
    ap (λ (b : Bool). with_cell (with_cell held (if b then o else None)) (if line == row then o else None)) (le-ltb line row (omega arith))
    ∙ ap (λ (b : Bool). with_cell held (if b then o else None)) (eq-eqb line row same)
    ∙ sym (ap (λ (b : Bool). with_cell held (if b then o else None)) (lt-ltb line (row + 1) (omega arith)))
rows_joined held o line row (inr (inl low)) =
    ap (λ (b : Bool). with_cell (with_cell held (if nat_lt line row then o else None)) (if b then o else None)) (ne_eqb line row (λ e. omega arith))
    ∙ ap (λ (b : Bool). with_cell held (if b then o else None)) (lt-ltb line row low)
    ∙ sym (ap (λ (b : Bool). with_cell held (if b then o else None)) (lt-ltb line (row + 1) (omega arith)))
rows_joined held o line row (inr (inr high)) =
    ap (λ (b : Bool). with_cell (with_cell held (if nat_lt line row then o else None)) (if b then o else None)) (ne_eqb line row (λ e. omega arith))
    ∙ ap (λ (b : Bool). with_cell held (if b then o else None)) (le-ltb line row (omega arith))
    ∙ sym (ap (λ (b : Bool). with_cell held (if b then o else None)) (le-ltb line (row + 1) (omega arith)))

-- each cell of the rows before one got the height that the entry has there
abbrev pub AddedTo : GridSpec → Cells → List Heights → List Heights → ℕ → Type 0
AddedTo spec entry old now end = (col row : ℕ) → col < spec.cols → row < spec.rows
    → held_at spec now col row ≡ with_cell (held_at spec old col row) (if nat_lt row end then height_over spec entry col row else None)

if_none : (b : Bool) (o : Option ℤ) → (b ≡ true → o ≡ None) → None ≡ (if b then o else None)
if_none true o none = sym (none refl)
if_none false o none = refl

pub added_none : (spec : GridSpec) (entry : Cells) (cols rows : Shared) (old : List Heights) → Corresponds spec entry cols rows → AddedTo spec entry old old (rows.first + 0)
added_none spec entry cols rows old same col row hc hr =
    ap (with_cell (held_at spec old col row)) (if_none (nat_lt row (rows.first + 0)) (height_over spec entry col row)
    (λ e. let low = ltb-true row (rows.first + 0) e in over_before spec entry cols rows col row same hr hc (omega arith)))

if_all : (b : Bool) (o : Option ℤ) → (b ≡ false → o ≡ None) → (if b then o else None) ≡ o
if_all true o none = refl
if_all false o none = sym (none refl)

pub added_all : (spec : GridSpec) (entry : Cells) (cols rows : Shared) (old now : List Heights) → Corresponds spec entry cols rows → AddedTo spec entry old now (rows.first + rows.count)
    → (col row : ℕ) → col < spec.cols → row < spec.rows → held_at spec now col row ≡ with_cell (held_at spec old col row) (height_over spec entry col row)
added_all spec entry cols rows old now same added col row hc hr =
    added col row hc hr
    ∙ ap (with_cell (held_at spec old col row)) (if_all (nat_lt row (rows.first + rows.count)) (height_over spec entry col row)
    (λ e. over_behind spec entry cols rows col row same hr hc (ltb-false row (rows.first + rows.count) e)))

-- one row more
pub added_row : (spec : GridSpec) (entry : Cells) (cols rows : Shared) (old now new : List Heights) (index : ℕ) (hs : List (Option ℤ)) → Corresponds spec entry cols rows
    → cols.first + cols.count ≤ spec.cols → rows.first + rows.count ≤ spec.rows → index < rows.count → AreOfRow entry cols (rows.entry_first + index) hs
    → AddedTo spec entry old now (rows.first + index)
    → ((place : ℕ) → get_or new place no_heights ≡ with_cell (get_or now place no_heights) (from_place ((rows.first + index) * spec.cols + cols.first) hs place))
    → AddedTo spec entry old new (rows.first + (index + 1))
added_row spec entry cols rows old now new index hs same inside within next are added is col row hc hr =
    let R = rows.first + index in
    let end : R + 1 ≡ rows.first + (index + 1) = omega arith in
    is (row * spec.cols + col)
    ∙ ap₂ with_cell (added col row hc hr)
    (row_places spec.cols cols.first R hs col row (λ r. height_over spec entry col r) (omega (arith, are.count)) hc
    (over_row spec entry cols rows hs index col same (omega arith) hc next are) (cases_order row R))
    ∙ rows_joined (held_at spec old col row) (height_over spec entry col row) row R (cases_order row R)
    ∙ ap (λ (n : ℕ). with_cell (held_at spec old col row) (if nat_lt row n then height_over spec entry col row else None)) end

-- a row that was not added yet is as before
pub not_added : (spec : GridSpec) (entry : Cells) (old now : List Heights) (end col row : ℕ) → AddedTo spec entry old now end → col < spec.cols → row < spec.rows
    → end ≤ row → held_at spec now col row ≡ held_at spec old col row
not_added spec entry old now end col row added hc hr later =
    added col row hc hr ∙ ap (λ (b : Bool). with_cell (held_at spec old col row) (if b then height_over spec entry col row else None)) (le-ltb row end later)

-- a part of a row of an entry
pub part_of_row : (entry : Cells) (cols : Shared) (row : ℕ) (heights : List (Option ℤ)) → cols.entry_first + cols.count ≤ entry.spec.cols → length heights ≡ entry.spec.cols
    → heights ≡ row_of entry row → (k : ℕ) → k < cols.count → get_or heights (cols.entry_first + k) None ≡ height_at entry (cols.entry_first + k) row
part_of_row entry cols row heights inside full is k few =
    ap (λ (hs : List (Option ℤ)). get_or hs (cols.entry_first + k) None) is
    ∙ get_or-take entry.spec.cols (drop (row * entry.spec.cols) entry.heights) (cols.entry_first + k) None (omega arith)
    ∙ get_or-drop (row * entry.spec.cols) entry.heights (cols.entry_first + k) None
    ∙ sym (unwrap_or-slice_get entry.heights (cell_index entry.spec (cols.entry_first + k) row) None)

part_length : {X : Type 0} (xs : List X) (e n : ℕ) → e + n ≤ length xs → length (take (e + n - e) (drop e xs)) ≡ n
part_length xs e n within = omega (arith, length-take (e + n - e) (drop e xs), length-drop e xs)

part_at : (xs : List (Option ℤ)) (e n k : ℕ) → k < n → get_or (take (e + n - e) (drop e xs)) k None ≡ get_or xs (e + k) None
part_at xs e n k few = get_or-take (e + n - e) (drop e xs) k None (omega arith) ∙ get_or-drop e xs k None

-- the part of a row of an entry in the columns that are shared
pub part_is : (entry : Cells) (cols : Shared) (row : ℕ) (heights : List (Option ℤ)) → cols.entry_first + cols.count ≤ entry.spec.cols → length heights ≡ entry.spec.cols
    → heights ≡ row_of entry row → AreOfRow entry cols row (take (cols.entry_first + cols.count - cols.entry_first) (drop cols.entry_first heights))
part_is entry cols row heights inside full is = record {
  count = part_length heights cols.entry_first cols.count (omega (arith, full));
  each = λ k few. part_at heights cols.entry_first cols.count k few ∙ part_of_row entry cols row heights inside full is k few;
}

-- the places of a part of a row are those of cells
pub part_within : (width height row first count : ℕ) → first + count ≤ width → row < height → row * width + first + count ≤ width * height
part_within width height row first count inside below =
    let whole : suc row * width ≤ height * width = mul-le-mul_right width below in
    omega arith

pub corresponds : (spec s : GridSpec) (entry : Cells) (cols rows : Shared) → s ≡ entry.spec
    → ((col row : ℕ) → row < spec.rows → col < spec.cols → cell_of s (corner spec col row) ≡ both (line_in cols col) (line_in rows row)) → Corresponds spec entry cols rows
corresponds spec s entry cols rows same falls col row hr hc = subst (λ (s : GridSpec). cell_of s (corner spec col row) ≡ both (line_in cols col) (line_in rows row)) same (falls col row hr hc)
