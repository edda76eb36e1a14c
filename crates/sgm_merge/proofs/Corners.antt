-- Into which cell the corner of a cell falls.
use Rattle.std.proofs.Common.{◌≡◌, ℕ, ◌+◌, ◌-◌, ◌*◌, ◌%◌, ◌<◌, ◌≤◌, Bool, true, if◌then◌else◌, Option, Some, None, ℤ, pos, negsuc, ◌+ℤ◌, ◌-ℤ◌, ◌*ℤ◌, ◌≤ℤ◌, refl, sym, ap, ap₂, ◌∙◌, arith}
use Rattle.std.specs.Prelude.{option_and_then}
use Rattle.std.specs.Int.{int_div_euclid, int_rem_euclid}
use Rattle.std.proofs.Math.IntN.{*ℤ_comm}
use Rattle.std.proofs.lemmas.Bool.{and_parts, le-ltb, lt-ltb}
use Rattle.std.proofs.lemmas.Bool.Decides.{Decides-int_eq}
use Rattle.std.proofs.lemmas.Int.{ints}
use Rattle.std.proofs.lemmas.Nat.{div-mul-add}
use borrow.Author.Differences.{up, down}
use Rattle.sgm_grid.specs.declared.grid_spec.GridSpec.{GridSpec}
use Rattle.sgm_grid.specs.Cells.{Cells, IsCells, IsGridSpec, cells_of, height_at}
use Rattle.sgm_grid.specs.Points.{cell_of, from_north, index_below}
use Rattle.sgm_grid.proofs.Kept.{grid_is}
use Rattle.sgm_merge.specs.Fits.{fits, is_whole}
use Rattle.sgm_merge.specs.Merged.{corner, cut_to, height_over, height_where}
use Rattle.sgm_merge.specs.Sharing.{both}
use Rattle.sgm_merge.proofs.Cellwise.{same_cells}

-- ---- multiples

multiple_divided : (z : ℤ) (d : ℕ) → 0 < d → int_div_euclid (z *ℤ pos d) (pos d) ≡ z
multiple_divided (pos n) d some =
    let same : pos n *ℤ pos d ≡ pos (n * d + 0) = omega (arith, ints) in
    ap (λ (z : ℤ). int_div_euclid z (pos d)) same ∙ ap pos (div-mul-add n d 0 some)
multiple_divided (negsuc n) d some =
    let same : negsuc n *ℤ pos d ≡ negsuc (n * d + (d - 1)) = omega (arith, ints) in
    ap (λ (z : ℤ). int_div_euclid z (pos d)) same ∙ ap negsuc (div-mul-add n d (d - 1) (omega arith))

-- a multiple divided by that of which it is one
pub whole_quotient : (z d : ℤ) → pos 1 ≤ℤ d → int_div_euclid (z *ℤ d) d ≡ z
whole_quotient z (pos d) some = multiple_divided z d (omega (arith, ints))
whole_quotient z (negsuc d) some = absurd (omega (arith, ints))

-- a number without a rest is its quotient's multiple
pub whole_multiple : (z d : ℤ) → pos 1 ≤ℤ d → int_rem_euclid z d ≡ pos 0 → z ≡ int_div_euclid z d *ℤ d
whole_multiple (pos a) (pos b) some none =
    let rest : a % b ≡ 0 = omega (arith, ints) in
    omega (arith, ints)
whole_multiple (negsuc a) (pos b) some none =
    let rest : b - 1 - a % b ≡ 0 = omega (arith, ints) in
    omega (arith, ints)
whole_multiple z (negsuc b) some none = absurd (omega (arith, ints))

times_difference : (a b c : ℤ) → a *ℤ (b -ℤ c) ≡ (a *ℤ b) -ℤ (a *ℤ c)
times_difference a b c =
    let e : up (b -ℤ c) + (down b + up c) ≡ down (b -ℤ c) + (up b + down c) = omega (arith, ints) in
    omega (arith, ints, ap (λ (n : ℕ). up a * n) e, ap (λ (n : ℕ). down a * n) e)

difference_times : (a b c : ℤ) → (a -ℤ b) *ℤ c ≡ (a *ℤ c) -ℤ (b *ℤ c)
difference_times a b c = *ℤ_comm (a -ℤ b) c ∙ times_difference c a b ∙ ap₂ (λ (y z : ℤ). y -ℤ z) (*ℤ_comm c a) (*ℤ_comm c b)

-- ---- lines

-- how many whole cells of a grid lie before a line of another
line_over : (from side c d shift : ℤ) (line : ℕ) → pos 1 ≤ℤ c → d ≡ c → side -ℤ from ≡ shift *ℤ c
    → int_div_euclid ((from +ℤ (pos line *ℤ c)) -ℤ side) d ≡ pos line -ℤ shift
line_over from side c d shift line some same apart =
    let way : (from +ℤ (pos line *ℤ c)) -ℤ side ≡ (pos line -ℤ shift) *ℤ c = omega (arith, ints, apart, difference_times (pos line) shift c) in
    ap₂ int_div_euclid way same ∙ whole_quotient (pos line -ℤ shift) c some

pub index_in : (m n : ℕ) → m < n → index_below n (pos m) ≡ Some m
index_in m n within = ap (λ (b : Bool). if b then Some m else None) (lt-ltb m n within)

pub index_out : (z : ℤ) (n : ℕ) → ((m : ℕ) → z ≡ pos m → n ≤ m) → index_below n z ≡ None
index_out (negsuc m) n beyond = refl
index_out (pos m) n beyond = ap (λ (b : Bool). if b then Some m else None) (le-ltb m n (beyond m refl))

-- a column, and a row that is counted from the south
abbrev pub both_from : ℕ → Option ℕ → Option ℕ → Option (ℕ × ℕ)
both_from rows (Some col) (Some south) = Some (col, rows - 1 - south)
both_from rows _ _ = None

-- a row counted from the south and the same counted from the north
turned : (a : Option ℕ) (z y : ℤ) (n : ℕ) → (z +ℤ y) +ℤ pos 1 ≡ pos n
    → both_from n a (index_below n z) ≡ both a (index_below n y)
turned None z y n sum = refl
turned (Some col) (pos i) (pos j) n sum =
    let first : i < n = omega (arith, ints) in
    let second : j < n = omega (arith, ints) in
    let same : n - 1 - i ≡ j = omega (arith, ints) in
    ap (both_from n (Some col)) (index_in i n first) ∙ ap (λ (k : ℕ). Some (col, k)) same ∙ sym (ap (both (Some col)) (index_in j n second))
turned (Some col) (pos i) (negsuc j) n sum =
    ap (both_from n (Some col)) (index_out (pos i) n (λ m e. omega (arith, ints)))
turned (Some col) (negsuc i) (pos j) n sum =
    sym (ap (both (Some col)) (index_out (pos j) n (λ m e. omega (arith, ints))))
turned (Some col) (negsuc i) (negsuc j) n sum = absurd (omega (arith, ints))

from_is : (spec : GridSpec) (a b : Option ℕ) → from_north spec a b ≡ both_from spec.rows a b
from_is spec None b = refl
from_is spec (Some col) None = refl
from_is spec (Some col) (Some south) = refl

-- ---- cells

-- the shifts from a grid to an entry, columns from the west and rows from the north
abbrev pub east_of : GridSpec → GridSpec → ℤ
east_of spec entry = int_div_euclid (entry.west -ℤ spec.west) spec.cell

abbrev pub below_top : GridSpec → GridSpec → ℤ
below_top spec entry = (pos spec.rows -ℤ pos entry.rows) -ℤ int_div_euclid (entry.south -ℤ spec.south) spec.cell

-- the cell of an entry into which a corner falls whose column and row lie so many cells from its own
corner_over : (spec entry : GridSpec) (east north : ℤ) (col row : ℕ) → IsGridSpec spec → entry.cell ≡ spec.cell → entry.west -ℤ spec.west ≡ east *ℤ spec.cell
    → entry.south -ℤ spec.south ≡ north *ℤ spec.cell → row < spec.rows
    → cell_of entry (corner spec col row) ≡ both (index_below entry.cols (pos col -ℤ east)) (index_below entry.rows (pos row -ℤ ((pos spec.rows -ℤ pos entry.rows) -ℤ north)))
corner_over spec entry east north col row ranges same west south inside =
    let sum : ((pos (spec.rows - 1 - row) -ℤ north) +ℤ (pos row -ℤ ((pos spec.rows -ℤ pos entry.rows) -ℤ north))) +ℤ pos 1 ≡ pos entry.rows = omega (arith, ints) in
    ap₂ (from_north entry) (ap (index_below entry.cols) (line_over spec.west entry.west spec.cell entry.cell east col ranges.cell_in_range.0 same west))
    (ap (index_below entry.rows) (line_over spec.south entry.south spec.cell entry.cell north (spec.rows - 1 - row) ranges.cell_in_range.0 same south))
    ∙ from_is entry _ _
    ∙ turned (index_below entry.cols (pos col -ℤ east)) (pos (spec.rows - 1 - row) -ℤ north) (pos row -ℤ ((pos spec.rows -ℤ pos entry.rows) -ℤ north)) entry.rows sum

is_whole_means : (cell from side : ℤ) → is_whole cell from side ≡ true → int_rem_euclid (side -ℤ from) cell ≡ pos 0
is_whole_means cell from side whole = (Decides-int_eq (int_rem_euclid (side -ℤ from) cell) (pos 0)).0 whole

-- into which cell of an entry that fits the corner of a cell falls
pub fitting_corner : (spec entry : GridSpec) (col row : ℕ) → IsGridSpec spec → fits spec entry ≡ true → row < spec.rows
    → cell_of entry (corner spec col row) ≡ both (index_below entry.cols (pos col -ℤ east_of spec entry)) (index_below entry.rows (pos row -ℤ below_top spec entry))
fitting_corner spec entry col row ranges fit inside =
    let parts = and_parts _ _ fit in
    let sides = and_parts _ _ parts.1 in
    let same : entry.cell ≡ spec.cell = (Decides-int_eq entry.cell spec.cell).0 parts.0 in
    corner_over spec entry (east_of spec entry) (int_div_euclid (entry.south -ℤ spec.south) spec.cell) col row ranges same
    (whole_multiple (entry.west -ℤ spec.west) spec.cell ranges.cell_in_range.0 (is_whole_means spec.cell spec.west entry.west sides.0))
    (whole_multiple (entry.south -ℤ spec.south) spec.cell ranges.cell_in_range.0 (is_whole_means spec.cell spec.south entry.south sides.1)) inside

-- a cell's corner falls into that cell
pub own_corner : (spec : GridSpec) (col row : ℕ) → IsGridSpec spec → col < spec.cols → row < spec.rows → cell_of spec (corner spec col row) ≡ Some (col, row)
own_corner spec col row ranges hc hr =
    let none : (z : ℤ) → z -ℤ z ≡ pos 0 *ℤ spec.cell = λ z. omega (arith, ints) in
    let c : pos col -ℤ pos 0 ≡ pos col = omega (arith, ints) in
    let r : pos row -ℤ ((pos spec.rows -ℤ pos spec.rows) -ℤ pos 0) ≡ pos row = omega (arith, ints) in
    corner_over spec spec (pos 0) (pos 0) col row ranges refl (none spec.west) (none spec.south) hr
    ∙ ap₂ both (ap (index_below spec.cols) c ∙ index_in col spec.cols hc) (ap (index_below spec.rows) r ∙ index_in row spec.rows hr)

pub cells_meet : (spec : GridSpec) (entry : Cells) (col row entry_col entry_row : ℕ) → IsGridSpec entry.spec → entry_col < entry.spec.cols → entry_row < entry.spec.rows
    → corner spec col row ≡ corner entry.spec entry_col entry_row → height_over spec entry col row ≡ height_at entry entry_col entry_row
cells_meet spec entry col row entry_col entry_row ranges hc hr meet =
    ap (height_where entry) meet
    ∙ ap (option_and_then (λ (cell : ℕ × ℕ). height_at entry cell.0 cell.1)) (own_corner entry.spec entry_col entry_row ranges hc hr)

-- over its own cells a grid stays what it is
pub own_cells_stay : (entry : Cells) → IsCells entry → cut_to entry.spec entry ≡ entry
unfolding cut_to
own_cells_stay entry kept =
    let spec = entry.spec in
    ap (cells_of spec) (same_cells (height_over spec entry) (height_at entry) spec.cols spec.rows None kept.ranges.cols_in_range.0
    (λ col row hc hr. cells_meet spec entry col row col row kept.ranges hc hr refl))
    ∙ sym (grid_is entry spec (height_at entry) refl kept.ranges.cols_in_range.0 kept.full (λ col row hc hr. refl))
