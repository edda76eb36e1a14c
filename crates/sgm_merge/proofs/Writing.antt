-- What a height that is written to an empty cell leaves.
use Rattle.std.proofs.Common.{◌≡◌, ℕ, ◌+◌, ◌<◌, ◌≤◌, ◌==◌, ◌&&◌, Bool, true, false, nat_lt, length, arith, inl, inr, ◌⊎◌, if◌then◌else◌, [], ◌∷◌, Option, Some, None, ℤ, pos, ◌+ℤ◌, ◌-◌, ◌*ℤ◌, refl, sym, ap, ◌∙◌}
use Rattle.std.proofs.lemmas.Bool.{and_left, and_right, eq-eqb, le-ltb, lt-ltb, ne_eqb}
use Rattle.sgm_base.specs.declared.point.Point.{Point}
use Rattle.sgm_grid.specs.declared.grid_spec.GridSpec.{GridSpec}
use Rattle.sgm_grid.specs.Cells.{Cells, IsCells, IsGridSpec, height_at}
use Rattle.sgm_grid.specs.Points.{added, cell_of, empty_grid, higher, raised}
use Rattle.sgm_grid.proofs.Added.{added-length, added-spec, highest_of_points, read_written}
use Rattle.sgm_merge.specs.Merged.{corner}
use Rattle.sgm_merge.proofs.Corners.{own_corner}

-- a point over a cell's corner falls into that cell
pub falls_there : (spec : GridSpec) (p : Point) (col row : ℕ) → IsGridSpec spec → col < spec.cols → row < spec.rows
    → p.x ≡ spec.west +ℤ (pos col *ℤ spec.cell) → p.y ≡ spec.south +ℤ (pos (spec.rows - 1 - row) *ℤ spec.cell) → cell_of spec p ≡ Some (col, row)
falls_there spec p col row ranges hc hr east north =
    ap (λ x. cell_of spec (let q : Point = record { x = x; y = p.y; h = p.h } in q)) east
    ∙ ap (λ y. cell_of spec (let q : Point = record { x = (corner spec col row).x; y = y; h = p.h } in q)) north
    ∙ own_corner spec col row ranges hc hr

pub written_height : (grid : Cells) (p : Point) (col row c r : ℕ) → IsCells grid → cell_of grid.spec p ≡ Some (col, row) → col < grid.spec.cols → row < grid.spec.rows
    → height_at grid col row ≡ None → c < grid.spec.cols → r < grid.spec.rows
    → height_at (added grid p) c r ≡ (if (col == c) && (row == r) then Some p.h else height_at grid c r)
written_height grid p col row c r kept falls inside below empty hc hr =
    ap (λ (o : Option (ℕ × ℕ)). height_at (raised grid o p.h) c r) falls
    ∙ read_written grid.spec grid.heights (col, row) (Some (higher (height_at grid col row) p.h)) None c r kept.full (inside, below) hc hr (col == c) (row == r) refl refl
    ∙ ap (λ (o : Option ℤ). if (col == c) && (row == r) then Some (higher o p.h) else height_at grid c r) empty

pub written_spec : (grid : Cells) (p : Point) → (added grid p).spec ≡ grid.spec
written_spec grid p = added-spec (p ∷ []) grid

pub written_length : (grid : Cells) (p : Point) → length ((added grid p).heights) ≡ length grid.heights
written_length grid p = added-length (p ∷ []) grid

no_test : (b : Bool) (k old : Option ℤ) → (if b && false then k else old) ≡ old
no_test true k old = refl
no_test false k old = refl

-- the cells of a row before one, and that cell
pub cell_more : (c here : ℕ) (t : Bool) (old now new k : Option ℤ) → now ≡ (if nat_lt c here && t then k else old) → (c ≡ here → t ≡ true → new ≡ k)
    → (((here == c) && t) ≡ false → new ≡ now) → (c ≡ here) ⊎ ((c < here) ⊎ (here < c)) → new ≡ (if nat_lt c (here + 1) && t then k else old)
cell_more c here true old now new k before is others (inl same) =
    is same refl ∙ sym (ap (λ (b : Bool). if b && true then k else old) (lt-ltb c (here + 1) (omega arith)))
cell_more c here false old now new k before is others (inl same) =
    others (and_right (here == c) false refl) ∙ before ∙ no_test (nat_lt c here) k old ∙ sym (no_test (nat_lt c (here + 1)) k old)
cell_more c here t old now new k before is others (inr (inl low)) =
    others (and_left (here == c) t (ne_eqb here c (λ e. omega arith))) ∙ before
    ∙ ap (λ (b : Bool). if b && t then k else old) (lt-ltb c here low) ∙ sym (ap (λ (b : Bool). if b && t then k else old) (lt-ltb c (here + 1) (omega arith)))
cell_more c here t old now new k before is others (inr (inr high)) =
    others (and_left (here == c) t (ne_eqb here c (λ e. omega arith))) ∙ before
    ∙ ap (λ (b : Bool). if b && t then k else old) (le-ltb c here (omega arith)) ∙ sym (ap (λ (b : Bool). if b && t then k else old) (le-ltb c (here + 1) (omega arith)))

-- no cell of a row yet, and all of them
pub no_cell : (c : ℕ) (t : Bool) (k old : Option ℤ) → old ≡ (if nat_lt c 0 && t then k else old)
no_cell c t k old = sym (ap (λ (b : Bool). if b && t then k else old) (le-ltb c 0 (omega arith)))

pub all_cells : (c end : ℕ) (t : Bool) (k old : Option ℤ) → c < end → (if nat_lt c end && t then k else old) ≡ (if t then k else old)
all_cells c end t k old inside = ap (λ (b : Bool). if b && t then k else old) (lt-ltb c end inside)

-- the rows before one, and that row
pub row_more : (line row : ℕ) (now new k : Option ℤ) → now ≡ (if nat_lt line row then k else None) → new ≡ (if row == line then k else now)
    → (line ≡ row) ⊎ ((line < row) ⊎ (row < line)) → new ≡ (if nat_lt line (row + 1) then k else None)
row_more line row now new k before is (inl same) =
    is ∙ ap (λ (b : Bool). if b then k else now) (eq-eqb row line (sym same)) ∙ sym (ap (λ (b : Bool). if b then k else None) (lt-ltb line (row + 1) (omega arith)))
row_more line row now new k before is (inr (inl low)) =
    is ∙ ap (λ (b : Bool). if b then k else now) (ne_eqb row line (λ e. omega arith)) ∙ before
    ∙ ap (λ (b : Bool). if b then k else None) (lt-ltb line row low) ∙ sym (ap (λ (b : Bool). if b then k else None) (lt-ltb line (row + 1) (omega arith)))
row_more line row now new k before is (inr (inr high)) =
    is ∙ ap (λ (b : Bool). if b then k else now) (ne_eqb row line (λ e. omega arith)) ∙ before
    ∙ ap (λ (b : Bool). if b then k else None) (le-ltb line row (omega arith)) ∙ sym (ap (λ (b : Bool). if b then k else None) (le-ltb line (row + 1) (omega arith)))

pub no_row_yet : (line : ℕ) (k now : Option ℤ) → now ≡ None → now ≡ (if nat_lt line 0 then k else None)
no_row_yet line k now none = none ∙ sym (ap (λ (b : Bool). if b then k else None) (le-ltb line 0 (omega arith)))

pub row_later : (line row : ℕ) (k now : Option ℤ) → row ≤ line → now ≡ (if nat_lt line row then k else None) → now ≡ None
row_later line row k now later is = is ∙ ap (λ (b : Bool). if b then k else None) (le-ltb line row later)

pub all_rows : (line end : ℕ) (k now : Option ℤ) → line < end → now ≡ (if nat_lt line end then k else None) → now ≡ k
all_rows line end k now inside is = is ∙ ap (λ (b : Bool). if b then k else None) (lt-ltb line end inside)

-- the cells of a grid of its own are empty at first
pub empty_height : (spec : GridSpec) (col row : ℕ) → col < spec.cols → row < spec.rows → height_at (empty_grid spec) col row ≡ None
empty_height spec col row hc hr = highest_of_points spec [] col row hc hr
