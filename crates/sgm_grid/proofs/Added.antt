-- What points that are added make of the cells of a grid.
use Rattle.std.proofs.Common.{◌≡◌, ◌≢◌, ℕ, suc, ◌*◌, ◌<◌, ◌≤◌, Bool, true, false, ◌==◌, ◌&&◌, nat_lt, if◌then◌else◌, List, [], ◌∷◌, length, get_or, map, Option, Some, None, ℤ, pos, negsuc, neg_ℤ, ◌-ℤ◌, ◌^◌, to_z, of_z, w64, refl, sym, ap, subst, ◌∙◌, arith, rules, inl, inr, ◌⊎◌, ◌-◌, slice_set}
use Rattle.std.specs.Prelude.{fold, filter, replicate, slice_get, unwrap_or}
use Rattle.std.specs.Option.{ForSome}
use Rattle.std.specs.Int.{int_max, int_div_euclid}
use Rattle.std.proofs.lemmas.Int.{ints}
use Rattle.std.proofs.lemmas.List.{get_or-set_same, get_or-set_other, get_or_default, length-set, length-replicate, get_or-replicate}
use Rattle.std.proofs.lemmas.List.Elements.{All-set}
use Rattle.std.proofs.lemmas.Option.{unwrap_or-slice_get}
use Rattle.std.proofs.lemmas.Bool.{eqb-true, eq-eqb, ltb-true, cases_order}
use Rattle.std.proofs.Math.Nat.{mul-le-mul_right}
use Rattle.sgm_base.specs.declared.point.Point.{Point}
use Rattle.sgm_grid.specs.declared.grid_spec.GridSpec.{GridSpec}
use Rattle.sgm_grid.specs.Cells.{Cells, IsCells, IsHeight, cells_of, height_at, cell_index}
use Rattle.sgm_base.specs.Ranges.{IsFromTo}
use Rattle.sgm_grid.specs.Keeping.{cell_after}
use Rattle.sgm_grid.specs.declared.keep.Keep.TheVariants.{Highest}
use Rattle.sgm_grid.specs.Points.{added, cell_of, col_of, row_from_south, empty_grid, falls_into, from_north, greatest, higher, index_below, is_that_cell, raised, raised_at}

-- a cell of the grid
abbrev pub Inside : GridSpec → ℕ × ℕ → Type 0
Inside spec cell = (cell.0 < spec.cols) × (cell.1 < spec.rows)

-- the grid has all its cells
abbrev pub IsFull : Cells → Type 0
IsFull grid = length grid.heights ≡ grid.spec.cols * grid.spec.rows

index_shown : (m count n : ℕ) (b : Bool) → nat_lt m count ≡ b → (if b then Some m else None) ≡ Some n → n < count
index_shown m count n true t f = let same : m ≡ n = cc in subst (λ (k : ℕ). k < count) same (ltb-true m count t)
index_shown m count n false t f = absurd (cc)

index_inside : (count : ℕ) (z : ℤ) (n : ℕ) → index_below count z ≡ Some n → n < count
index_inside count (negsuc m) n e = absurd (cc)
index_inside count (pos m) n e = index_shown m count n (nat_lt m count) refl e

north_inside : (spec : GridSpec) (a b : Option ℕ) (cell : ℕ × ℕ) → ((n : ℕ) → a ≡ Some n → n < spec.cols) → ((n : ℕ) → b ≡ Some n → n < spec.rows)
    → from_north spec a b ≡ Some cell → Inside spec cell
north_inside spec None b cell ha hb e = absurd (cc)
north_inside spec (Some col) None cell ha hb e = absurd (cc)
north_inside spec (Some col) (Some south) cell ha hb e =
    let within : south < spec.rows = hb south refl in
    let here : Inside spec (col, spec.rows - 1 - south) = (ha col refl, omega arith) in
    let same : (col, spec.rows - 1 - south) ≡ cell = cc in
    subst (Inside spec) same here

-- a point falls into a cell of the grid
pub cell_inside : (spec : GridSpec) (p : Point) (cell : ℕ × ℕ) → cell_of spec p ≡ Some cell → Inside spec cell
cell_inside spec p cell e =
    north_inside spec (col_of spec p) (row_from_south spec p) cell (λ n f. index_inside spec.cols _ n f) (λ n f. index_inside spec.rows _ n f) e

pub place_inside : (spec : GridSpec) (col row : ℕ) → col < spec.cols → row < spec.rows → cell_index spec col row < spec.cols * spec.rows
place_inside spec col row hc hr =
    let whole : suc row * spec.cols ≤ spec.rows * spec.cols = mul-le-mul_right spec.cols hr in
    omega arith

-- two cells have two places
places_apart : (spec : GridSpec) (a b c d : ℕ) → a < spec.cols → c < spec.cols → cell_index spec a b ≡ cell_index spec c d
    → (b ≡ d) ⊎ ((b < d) ⊎ (d < b)) → (a ≡ c) × (b ≡ d)
places_apart spec a b c d ha hc e (inl same) =
    let rows : b * spec.cols ≡ d * spec.cols = ap (λ (n : ℕ). n * spec.cols) same in (omega arith, same)
places_apart spec a b c d ha hc e (inr (inl low)) =
    let rows : suc b * spec.cols ≤ d * spec.cols = mul-le-mul_right spec.cols low in absurd (omega arith)
places_apart spec a b c d ha hc e (inr (inr high)) =
    let rows : suc d * spec.cols ≤ b * spec.cols = mul-le-mul_right spec.cols high in absurd (omega arith)

place_apart : (spec : GridSpec) (a b c d : ℕ) → a < spec.cols → c < spec.cols → cell_index spec a b ≡ cell_index spec c d → (a ≡ c) × (b ≡ d)
place_apart spec a b c d ha hc e = places_apart spec a b c d ha hc e (cases_order b d)

not_both : (a b : ℕ) → (a == b) ≡ false → a ≡ b → ⊥
not_both a b f e = let yes : (a == b) ≡ true = eq-eqb a b e in cc

-- what a list has at a cell's place, or that default
abbrev pub at_cell : {X : Type 0} → GridSpec → List X → ℕ → ℕ → X → X
at_cell spec xs col row d = unwrap_or (slice_get xs (cell_index spec col row)) d

-- a cell that was written, and another
pub read_written : {X : Type 0} (spec : GridSpec) (xs : List X) (cell : ℕ × ℕ) (v d : X) (col row : ℕ)
    → length xs ≡ spec.cols * spec.rows → Inside spec cell → col < spec.cols → row < spec.rows
    → (x y : Bool) → (cell.0 == col) ≡ x → (cell.1 == row) ≡ y
    → at_cell spec (slice_set xs (cell_index spec cell.0 cell.1) v) col row d ≡ (if x && y then v else at_cell spec xs col row d)
read_written spec xs cell v d col row full inside hc hr true true ex ey =
    let same_col : cell.0 ≡ col = eqb-true _ _ ex in
    let same_row : cell.1 ≡ row = eqb-true _ _ ey in
    let at : cell_index spec cell.0 cell.1 ≡ cell_index spec col row = cc in
    let within : cell_index spec col row < length xs = omega (arith, place_inside spec col row hc hr) in
    ap (λ (n : ℕ). at_cell spec (slice_set xs n v) col row d) at
    ∙ unwrap_or-slice_get (slice_set xs (cell_index spec col row) v) (cell_index spec col row) d
    ∙ get_or-set_same xs (cell_index spec col row) v d within
read_written spec xs cell v d col row full inside hc hr true false ex ey =
    let other : cell_index spec col row ≢ cell_index spec cell.0 cell.1 = λ e. not_both cell.1 row ey (sym ((place_apart spec col row cell.0 cell.1 hc inside.0 e).1)) in
    unwrap_or-slice_get (slice_set xs (cell_index spec cell.0 cell.1) v) (cell_index spec col row) d
    ∙ get_or-set_other xs (cell_index spec cell.0 cell.1) (cell_index spec col row) v d other
    ∙ sym (unwrap_or-slice_get xs (cell_index spec col row) d)
read_written spec xs cell v d col row full inside hc hr false y ex ey =
    let other : cell_index spec col row ≢ cell_index spec cell.0 cell.1 = λ e. not_both cell.0 col ex (sym ((place_apart spec col row cell.0 cell.1 hc inside.0 e).0)) in
    unwrap_or-slice_get (slice_set xs (cell_index spec cell.0 cell.1) v) (cell_index spec col row) d
    ∙ get_or-set_other xs (cell_index spec cell.0 cell.1) (cell_index spec col row) v d other
    ∙ sym (unwrap_or-slice_get xs (cell_index spec col row) d)

same_held : (grid : Cells) (cell : ℕ × ℕ) (h : ℤ) (col row : ℕ) (x y : Bool) → (cell.0 == col) ≡ x → (cell.1 == row) ≡ y
    → (if x && y then Some (higher (height_at grid cell.0 cell.1) h) else height_at grid col row)
    ≡ (if x && y then Some (higher (height_at grid col row) h) else height_at grid col row)
same_held grid cell h col row true true ex ey =
    let same_col : cell.0 ≡ col = eqb-true _ _ ex in
    let same_row : cell.1 ≡ row = eqb-true _ _ ey in
    cc
same_held grid cell h col row true false ex ey = refl
same_held grid cell h col row false y ex ey = refl

-- the height of a cell after a point that falls into that cell, or into none
read_raised : (grid : Cells) (o : Option (ℕ × ℕ)) (h : ℤ) (col row : ℕ) → IsFull grid → ((cell : ℕ × ℕ) → o ≡ Some cell → Inside grid.spec cell)
    → col < grid.spec.cols → row < grid.spec.rows
    → height_at (raised grid o h) col row ≡ (if is_that_cell o col row then Some (higher (height_at grid col row) h) else height_at grid col row)
read_raised grid None h col row full inside hc hr = refl
read_raised grid (Some cell) h col row full inside hc hr =
    read_written grid.spec grid.heights cell (Some (higher (height_at grid cell.0 cell.1) h)) None col row full (inside cell refl) hc hr
    (cell.0 == col) (cell.1 == row) refl refl
    ∙ same_held grid cell h col row (cell.0 == col) (cell.1 == row) refl refl

-- the height that a cell ends with, if it holds that one and these come
abbrev pub carried : Option ℤ → List ℤ → Option ℤ
carried None hs = greatest hs
carried (Some held) hs = Some (fold int_max held hs)

carried-nil : (o : Option ℤ) → carried o [] ≡ o
carried-nil None = refl
carried-nil (Some held) = refl

carried-cons : (o : Option ℤ) (h : ℤ) (hs : List ℤ) → carried (Some (higher o h)) hs ≡ carried o (h ∷ hs)
carried-cons None h hs = refl
carried-cons (Some held) h hs = refl

-- the heights of some points
abbrev pub heights_of : List Point → List ℤ
heights_of points = map (λ p. p.h) points

carried_on : (b : Bool) (o : Option ℤ) (p : Point) (points : List Point)
    → carried (if b then Some (higher o p.h) else o) (heights_of points) ≡ carried o (heights_of (if b then p ∷ points else points))
carried_on true o p points = carried-cons o p.h (heights_of points)
carried_on false o p points = refl

raised-spec : (grid : Cells) (o : Option (ℕ × ℕ)) (h : ℤ) → (raised grid o h).spec ≡ grid.spec
raised-spec grid None h = refl
raised-spec grid (Some cell) h = refl

raised-length : (grid : Cells) (o : Option (ℕ × ℕ)) (h : ℤ) → length ((raised grid o h).heights) ≡ length grid.heights
raised-length grid None h = refl
raised-length grid (Some cell) h = length-set grid.heights _ _

-- what a list of points leaves in a cell
after_points : (points : List Point) (grid : Cells) (col row : ℕ) → IsFull grid → col < grid.spec.cols → row < grid.spec.rows
    → height_at (fold added grid points) col row ≡ carried (height_at grid col row) (heights_of (filter (falls_into grid.spec col row) points))
after_points [] grid col row full hc hr = sym (carried-nil (height_at grid col row))
after_points (p ∷ points) grid col row full hc hr =
    let o = cell_of grid.spec p in
    let spec_stays : (added grid p).spec ≡ grid.spec = raised-spec grid o p.h in
    let still_full : IsFull (added grid p) = raised-length grid o p.h ∙ full ∙ ap (λ (s : GridSpec). s.cols * s.rows) (sym spec_stays) in
    let rest = after_points points (added grid p) col row still_full (subst (λ (s : GridSpec). col < s.cols) (sym spec_stays) hc) (subst (λ (s : GridSpec). row < s.rows) (sym spec_stays) hr) in
    let held = read_raised grid o p.h col row full (λ cell e. cell_inside grid.spec p cell e) hc hr in
    rest
    ∙ ap (λ (s : GridSpec). carried (height_at (added grid p) col row) (heights_of (filter (falls_into s col row) points))) spec_stays
    ∙ ap (λ (held : Option ℤ). carried held (heights_of (filter (falls_into grid.spec col row) points))) held
    ∙ carried_on (falls_into grid.spec col row p) (height_at grid col row) p (filter (falls_into grid.spec col row) points)

pub added-spec : (points : List Point) (grid : Cells) → (fold added grid points).spec ≡ grid.spec
added-spec [] grid = refl
added-spec (p ∷ points) grid = added-spec points (added grid p) ∙ raised-spec grid (cell_of grid.spec p) p.h

pub added-length : (points : List Point) (grid : Cells) → length ((fold added grid points).heights) ≡ length grid.heights
added-length [] grid = refl
added-length (p ∷ points) grid = added-length points (added grid p) ∙ raised-length grid (cell_of grid.spec p) p.h

empty-height : (spec : GridSpec) (col row : ℕ) → col < spec.cols → row < spec.rows → height_at (empty_grid spec) col row ≡ None
empty-height spec col row hc hr =
    unwrap_or-slice_get (replicate (spec.cols * spec.rows) None) (cell_index spec col row) None
    ∙ get_or-replicate (spec.cols * spec.rows) (cell_index spec col row) None None (place_inside spec col row hc hr)

pub highest_of_points : (spec : GridSpec) (points : List Point) (col row : ℕ) → col < spec.cols → row < spec.rows
    → height_at (fold added (empty_grid spec) points) col row ≡ cell_after Highest spec points col row
highest_of_points spec points col row hc hr =
    after_points points (empty_grid spec) col row (length-replicate (spec.cols * spec.rows) None) hc hr
    ∙ ap (λ (held : Option ℤ). carried held (heights_of (filter (falls_into spec col row) points))) (empty-height spec col row hc hr)

-- the code's write is that of the definition
pub raised_there : (grid : Cells) (spec : GridSpec) (hs : List (Option ℤ)) (at : ℕ) (h v : ℤ) (read : Option ℤ)
    → cells_of spec hs ≡ grid → at < length hs → read ≡ get_or hs at read → v ≡ higher read h → cells_of spec (slice_set hs at (Some v)) ≡ raised_at grid at h
raised_there grid spec hs at h v read e within was is =
    let here : read ≡ unwrap_or (slice_get hs at) None = was ∙ get_or_default hs at read None within ∙ sym (unwrap_or-slice_get hs at None) in
    ap (λ (z : ℤ). cells_of spec (slice_set hs at (Some z))) (is ∙ ap (λ (o : Option ℤ). higher o h) here)
    ∙ ap (λ (g : Cells). raised_at g at h) e

some_height : (v : ℤ) → IsHeight v → ForSome (Some v) IsHeight
some_height v height = search rules

-- a grid keeps what every grid keeps
pub still_cells : (spec : GridSpec) (hs : List (Option ℤ)) (at : ℕ) (v : ℤ) → IsCells (cells_of spec hs) → IsHeight v → IsCells (cells_of spec (slice_set hs at (Some v)))
still_cells spec hs at v kept height = record {
  ranges = kept.ranges;
  full = length-set hs at (Some v) ∙ kept.full;
  heights_in_range = All-set (λ (h : Option ℤ). ForSome h IsHeight) hs at (Some v) (some_height v height) kept.heights_in_range;
}

-- from what the code computes in 64 bits to the definition
pub line_is : (x low cell : ℤ) (count : ℕ) (r : Option ℕ) → IsFromTo (neg_ℤ (pos (2 ^ 60))) (pos (2 ^ 60)) x → IsFromTo (neg_ℤ (pos 2000000000)) (pos 2000000000) low
    → IsFromTo (pos 1) (pos 1000000000) cell
    → r ≡ index_below count (int_div_euclid (to_z w64 (of_z w64 (to_z w64 (of_z w64 x) -ℤ to_z w64 (of_z w64 low)))) (to_z w64 (of_z w64 cell)))
    → r ≡ index_below count (int_div_euclid (x -ℤ low) cell)
line_is x low cell count r hx hl hc e =
    let distance : to_z w64 (of_z w64 (to_z w64 (of_z w64 x) -ℤ to_z w64 (of_z w64 low))) ≡ x -ℤ low = omega (arith, ints, hx.0, hx.1, hl.0, hl.1) in
    let side : to_z w64 (of_z w64 cell) ≡ cell = omega (arith, ints, hc.0, hc.1) in
    e
    ∙ ap (λ (t : ℤ). index_below count (int_div_euclid t (to_z w64 (of_z w64 cell)))) distance
    ∙ ap (λ (t : ℤ). index_below count (int_div_euclid (x -ℤ low) t)) side

pub outside_cols : (spec : GridSpec) (p : Point) → None ≡ col_of spec p → None ≡ cell_of spec p
outside_cols spec p e = ap (λ (col : Option ℕ). from_north spec col (row_from_south spec p)) e

pub outside_rows : (spec : GridSpec) (p : Point) (col : Option ℕ) → col ≡ col_of spec p → None ≡ row_from_south spec p → None ≡ cell_of spec p
outside_rows spec p None e f = outside_cols spec p e
outside_rows spec p (Some col) e f =
    ap (λ (south : Option ℕ). from_north spec (Some col) south) f ∙ ap (λ (c : Option ℕ). from_north spec c (row_from_south spec p)) e

pub inside_both : (spec : GridSpec) (p : Point) (col south : ℕ) → Some col ≡ col_of spec p → Some south ≡ row_from_south spec p
    → Some (col, spec.rows - 1 - south) ≡ cell_of spec p
inside_both spec p col south e f =
    ap (λ (s : Option ℕ). from_north spec (Some col) s) f ∙ ap (λ (c : Option ℕ). from_north spec c (row_from_south spec p)) e
