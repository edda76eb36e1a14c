-- What points that are added make of the sums of the cells of a grid.
use Rattle.std.proofs.Common.{◌≡◌, ℕ, suc, ◌+◌, ◌*◌, ◌<◌, Bool, true, false, ◌==◌, ◌&&◌, if◌then◌else◌, List, [], ◌∷◌, length, get_or, slice_set, Option, Some, None, ℤ, pos, ◌+ℤ◌, refl, sym, ap, subst, ◌∙◌, arith}
use Rattle.std.specs.Prelude.{fold, filter, replicate, slice_get, unwrap_or}
use Rattle.std.proofs.lemmas.List.{length-set, length-replicate, get_or-replicate, get_or_default}
use Rattle.std.proofs.lemmas.Option.{unwrap_or-slice_get}
use Rattle.std.proofs.lemmas.Bool.{eqb-true, ne_eqb}
use Rattle.sgm_base.specs.Rounding.{rounded}
use Rattle.sgm_base.specs.declared.point.Point.{Point}
use Rattle.sgm_grid.specs.declared.grid_spec.GridSpec.{GridSpec}
use Rattle.sgm_grid.specs.declared.keep.Keep.TheVariants.{Mean}
use Rattle.sgm_grid.specs.Binning.{CellSums, Sum, mean_told, no_sum, sum_at, summed, summed_at, summed_in, sums_of, with_height}
use Rattle.sgm_grid.specs.Cells.{cell_index}
use Rattle.sgm_grid.specs.Keeping.{cell_after, mean, total}
use Rattle.sgm_grid.specs.Points.{cell_of, falls_into, is_that_cell}
use Rattle.sgm_grid.proofs.Added.{Inside, cell_inside, heights_of, place_inside, read_written}

-- each cell has a sum
abbrev pub IsFull : CellSums → Type 0
IsFull held = length held.sums ≡ held.spec.cols * held.spec.rows

same_held : (held : CellSums) (cell : ℕ × ℕ) (h : ℤ) (col row : ℕ) (x y : Bool) → (cell.0 == col) ≡ x → (cell.1 == row) ≡ y
    → (if x && y then with_height (sum_at held cell.0 cell.1) h else sum_at held col row)
    ≡ (if x && y then with_height (sum_at held col row) h else sum_at held col row)
same_held held cell h col row true true ex ey =
    let same_col : cell.0 ≡ col = eqb-true _ _ ex in
    let same_row : cell.1 ≡ row = eqb-true _ _ ey in
    ap (λ (n : ℕ). with_height (sum_at held n cell.1) h) same_col ∙ ap (λ (n : ℕ). with_height (sum_at held col n) h) same_row
same_held held cell h col row true false ex ey = refl
same_held held cell h col row false y ex ey = refl

-- the sum of a cell after a point that falls into that cell, or into none
read_summed : (held : CellSums) (o : Option (ℕ × ℕ)) (h : ℤ) (col row : ℕ) → IsFull held → ((cell : ℕ × ℕ) → o ≡ Some cell → Inside held.spec cell)
    → col < held.spec.cols → row < held.spec.rows
    → sum_at (summed_in held o h) col row ≡ (if is_that_cell o col row then with_height (sum_at held col row) h else sum_at held col row)
read_summed held None h col row full inside hc hr = refl
read_summed held (Some cell) h col row full inside hc hr =
    read_written held.spec held.sums cell (with_height (sum_at held cell.0 cell.1) h) no_sum col row full (inside cell refl) hc hr
    (cell.0 == col) (cell.1 == row) refl refl
    ∙ same_held held cell h col row (cell.0 == col) (cell.1 == row) refl refl

carried_on : (b : Bool) (sum : Sum) (p : Point) (points : List Point)
    → fold with_height (if b then with_height sum p.h else sum) (heights_of points) ≡ fold with_height sum (heights_of (if b then p ∷ points else points))
carried_on true sum p points = refl
carried_on false sum p points = refl

summed-spec : (held : CellSums) (o : Option (ℕ × ℕ)) (h : ℤ) → (summed_in held o h).spec ≡ held.spec
summed-spec held None h = refl
summed-spec held (Some cell) h = refl

summed-length : (held : CellSums) (o : Option (ℕ × ℕ)) (h : ℤ) → length ((summed_in held o h).sums) ≡ length held.sums
summed-length held None h = refl
summed-length held (Some cell) h = length-set held.sums _ _

pub sums-spec : (points : List Point) (held : CellSums) → (fold summed held points).spec ≡ held.spec
sums-spec [] held = refl
sums-spec (p ∷ points) held = sums-spec points (summed held p) ∙ summed-spec held (cell_of held.spec p) p.h

pub sums-length : (points : List Point) (held : CellSums) → length ((fold summed held points).sums) ≡ length held.sums
sums-length [] held = refl
sums-length (p ∷ points) held = sums-length points (summed held p) ∙ summed-length held (cell_of held.spec p) p.h

-- what a list of points leaves in a cell
after_points : (points : List Point) (held : CellSums) (col row : ℕ) → IsFull held → col < held.spec.cols → row < held.spec.rows
    → sum_at (fold summed held points) col row ≡ fold with_height (sum_at held col row) (heights_of (filter (falls_into held.spec col row) points))
after_points [] held col row full hc hr = refl
after_points (p ∷ points) held col row full hc hr =
    let o = cell_of held.spec p in
    let spec_stays : (summed held p).spec ≡ held.spec = summed-spec held o p.h in
    let still_full : IsFull (summed held p) = summed-length held o p.h ∙ full ∙ ap (λ (s : GridSpec). s.cols * s.rows) (sym spec_stays) in
    let rest = after_points points (summed held p) col row still_full (subst (λ (s : GridSpec). col < s.cols) (sym spec_stays) hc) (subst (λ (s : GridSpec). row < s.rows) (sym spec_stays) hr) in
    let now = read_summed held o p.h col row full (λ cell e. cell_inside held.spec p cell e) hc hr in
    rest
    ∙ ap (λ (s : GridSpec). fold with_height (sum_at (summed held p) col row) (heights_of (filter (falls_into s col row) points))) spec_stays
    ∙ ap (λ (sum : Sum). fold with_height sum (heights_of (filter (falls_into held.spec col row) points))) now
    ∙ carried_on (falls_into held.spec col row p) (sum_at held col row) p (filter (falls_into held.spec col row) points)

-- the sum and the number of some heights, after those of a sum
abbrev pub summed_to : ℤ → ℕ → Sum
summed_to total count = record { total = total; count = count }

after_heights : (hs : List ℤ) (t : ℤ) (n : ℕ) → fold with_height (summed_to t n) hs ≡ summed_to (fold ◌+ℤ◌ t hs) (n + length hs)
after_heights [] t n = let same : n ≡ n + 0 = omega arith in ap (summed_to t) same
after_heights (h ∷ hs) t n =
    let same : n + 1 + length hs ≡ n + suc (length hs) = omega arith in
    after_heights hs (t +ℤ h) (n + 1) ∙ ap (summed_to (fold ◌+ℤ◌ (t +ℤ h) hs)) same

-- a sum tells the mean of its heights
mean_of : (hs : List ℤ) → mean_told (summed_to (total hs) (length hs)) ≡ mean hs
mean_of [] = refl
mean_of (h ∷ hs) =
    let some : (suc (length hs) == 0) ≡ false = ne_eqb _ _ (λ e. omega arith) in
    ap (λ (b : Bool). if b then None else Some (rounded (total (h ∷ hs)) (pos (length (h ∷ hs))))) some

no-sum : (spec : GridSpec) (col row : ℕ) → col < spec.cols → row < spec.rows → sum_at (sums_of spec (replicate (spec.cols * spec.rows) no_sum)) col row ≡ no_sum
no-sum spec col row hc hr =
    unwrap_or-slice_get (replicate (spec.cols * spec.rows) no_sum) (cell_index spec col row) no_sum
    ∙ get_or-replicate (spec.cols * spec.rows) (cell_index spec col row) no_sum no_sum (place_inside spec col row hc hr)

-- the mean that is told of a cell after a list of points
pub mean_of_points : (spec : GridSpec) (points : List Point) (col row : ℕ) → col < spec.cols → row < spec.rows
    → mean_told (sum_at (fold summed (sums_of spec (replicate (spec.cols * spec.rows) no_sum)) points) col row) ≡ cell_after Mean spec points col row
mean_of_points spec points col row hc hr =
    let hs = heights_of (filter (falls_into spec col row) points) in
    let none : 0 + length hs ≡ length hs = omega arith in
    ap mean_told (
    after_points points (sums_of spec (replicate (spec.cols * spec.rows) no_sum)) col row (length-replicate (spec.cols * spec.rows) no_sum) hc hr
    ∙ ap (λ (sum : Sum). fold with_height sum hs) (no-sum spec col row hc hr)
    ∙ after_heights hs (pos 0) 0
    ∙ ap (summed_to (total hs)) none)
    ∙ mean_of hs

-- the code's write is that of the definition
pub summed_there : (held : CellSums) (spec : GridSpec) (sums : List Sum) (at : ℕ) (h : ℤ) (read wrote : Sum)
    → sums_of spec sums ≡ held → at < length sums → read ≡ get_or sums at read → wrote ≡ with_height read h → sums_of spec (slice_set sums at wrote) ≡ summed_at held at h
summed_there held spec sums at h read wrote e within was is =
    let here : read ≡ unwrap_or (slice_get sums at) no_sum = was ∙ get_or_default sums at read no_sum within ∙ sym (unwrap_or-slice_get sums at no_sum) in
    ap (λ (sum : Sum). sums_of spec (slice_set sums at sum)) (is ∙ ap (λ (sum : Sum). with_height sum h) here)
    ∙ ap (λ (g : CellSums). summed_at g at h) e
