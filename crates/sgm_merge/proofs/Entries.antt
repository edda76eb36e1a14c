-- What entries that are added one by one leave in a cell.
use Rattle.std.proofs.Common.{◌≡◌, ℕ, suc, ◌+◌, ◌*◌, ◌<◌, Bool, false, ◌==◌, if◌then◌else◌, List, [], ◌∷◌, length, Option, Some, None, ℤ, pos, negsuc, ◌+ℤ◌, ◌*ℤ◌, refl, ap, ◌∙◌, arith}
use Rattle.std.specs.Prelude.{fold}
use Rattle.std.specs.List.{cons_option}
use Rattle.std.specs.Int.{int_div_euclid, int_max}
use Rattle.std.proofs.lemmas.Int.{ints}
use Rattle.std.proofs.lemmas.Nat.{div-mul-add}
use Rattle.std.proofs.lemmas.List.{get_or-replicate}
use Rattle.std.proofs.lemmas.Bool.{ne_eqb}
use Rattle.sgm_base.specs.Rounding.{rounded}
use Rattle.sgm_base.specs.Values.{row_by_row}
use Rattle.sgm_grid.specs.declared.grid_spec.GridSpec.{GridSpec}
use Rattle.sgm_grid.specs.declared.keep.Keep.{Keep}
use Rattle.sgm_grid.specs.declared.keep.Keep.TheVariants.{Highest, Mean}
use Rattle.sgm_grid.specs.Cells.{Cells, IsGridSpec, cell_index, cells_of}
use Rattle.sgm_grid.specs.Keeping.{kept}
use Rattle.sgm_merge.specs.Merged.{cut_to, height_over, heights_over, merged}
use Rattle.sgm_merge.specs.Merging.{Merging, grid_in, held_at, no_entries, with_entry}
use Rattle.sgm_merge.specs.Tallies.{Heights, kept_of, no_heights, with_cell, with_height}
use Rattle.sgm_merge.proofs.Cellwise.{place_below, read_cell, same_all, same_cells}

abbrev pub heights_are : ℤ → ℕ → ℤ → Heights
heights_are total count highest = record { total = total; count = count; highest = highest }

-- some heights, and more
more_heights : (hs : List ℤ) (t : ℤ) (n : ℕ) (m : ℤ) → 0 < n
    → fold with_height (heights_are t n m) hs ≡ heights_are (fold ◌+ℤ◌ t hs) (n + length hs) (fold int_max m hs)
more_heights [] t n m some = let same : n ≡ n + 0 = omega arith in ap (λ k. heights_are t k m) same
more_heights (h ∷ hs) t n m some =
    let not_none : (n == 0) ≡ false = ne_eqb n 0 (λ e. omega arith) in
    let same : n + 1 + length hs ≡ n + suc (length hs) = omega arith in
    ap (λ (b : Bool). fold with_height (heights_are (t +ℤ h) (n + 1) (if b then h else int_max m h)) hs) not_none
    ∙ more_heights hs (t +ℤ h) (n + 1) (int_max m h) (omega arith)
    ∙ ap (λ k. heights_are (fold ◌+ℤ◌ (t +ℤ h) hs) k (fold int_max (int_max m h) hs)) same

-- what is held of some heights tells what a cell keeps of them
pub kept_is : (keep : Keep) (hs : List ℤ) → kept_of keep (fold with_height no_heights hs) ≡ kept keep hs
kept_is Highest [] = refl
kept_is Mean [] = refl
kept_is Highest (h ∷ hs) = ap (kept_of Highest) (more_heights hs (pos 0 +ℤ h) 1 h (omega arith))
    ∙ (let some : (1 + length hs == 0) ≡ false = ne_eqb (1 + length hs) 0 (λ e. omega arith) in
    ap (λ (b : Bool). if b then None else Some (fold int_max h hs)) some)
kept_is Mean (h ∷ hs) = ap (kept_of Mean) (more_heights hs (pos 0 +ℤ h) 1 h (omega arith))
    ∙ (let some : (1 + length hs == 0) ≡ false = ne_eqb (1 + length hs) 0 (λ e. omega arith) in
    let count : 1 + length hs ≡ suc (length hs) = omega arith in
    ap (λ (b : Bool). if b then None else Some (rounded (fold ◌+ℤ◌ (pos 0 +ℤ h) hs) (pos (1 + length hs)))) some
    ∙ ap (λ (n : ℕ). Some (rounded (fold ◌+ℤ◌ (pos 0 +ℤ h) hs) (pos n))) count)

-- a cell's height, if it has one, before others
next_height : (o : Option ℤ) (held : Heights) (hs : List ℤ) → fold with_height (with_cell held o) hs ≡ fold with_height held (cons_option o hs)
next_height None held hs = refl
next_height (Some h) held hs = refl

-- what entries that are added leave in a cell
after_entries : (entries : List Cells) (m : Merging) (col row : ℕ) → col < m.spec.cols → row < m.spec.rows
    → held_at m.spec (fold with_entry m entries).held col row ≡ fold with_height (held_at m.spec m.held col row) (heights_over m.spec entries col row)
after_entries [] m col row hc hr = refl
after_entries (entry ∷ entries) m col row hc hr =
    after_entries entries (with_entry m entry) col row hc hr
    ∙ ap (λ (held : Heights). fold with_height held (heights_over m.spec entries col row))
    (read_cell (λ c r. with_cell (held_at m.spec m.held c r) (height_over m.spec entry c r)) m.spec.cols m.spec.rows col row no_heights hc hr)
    ∙ next_height (height_over m.spec entry col row) (held_at m.spec m.held col row) (heights_over m.spec entries col row)

stays : (entries : List Cells) (m : Merging) → ((fold with_entry m entries).spec ≡ m.spec) × ((fold with_entry m entries).keep ≡ m.keep)
stays [] m = (refl, refl)
stays (entry ∷ entries) m = stays entries (with_entry m entry)

none_held : (keep : Keep) (spec : GridSpec) (col row : ℕ) → col < spec.cols → row < spec.rows
    → held_at spec (no_entries keep spec).held col row ≡ no_heights
none_held keep spec col row hc hr =
    get_or-replicate (spec.cols * spec.rows) (cell_index spec col row) no_heights no_heights (place_below spec.cols spec.rows col row hc hr)

pub entries_are_merged : (keep : Keep) (spec : GridSpec) (entries : List Cells) → IsGridSpec spec
    → grid_in (fold with_entry (no_entries keep spec) entries) ≡ merged keep spec entries
unfolding merged
entries_are_merged keep spec entries ranges =
    let m = fold with_entry (no_entries keep spec) entries in
    let same = stays entries (no_entries keep spec) in
    ap (λ (s : GridSpec). cells_of s (row_by_row s.cols s.rows (λ col row. kept_of m.keep (held_at s m.held col row)))) same.0
    ∙ ap (λ (k : Keep). cells_of spec (row_by_row spec.cols spec.rows (λ col row. kept_of k (held_at spec m.held col row)))) same.1
    ∙ ap (cells_of spec) (same_cells _ _ spec.cols spec.rows None ranges.cols_in_range.0 (λ col row hc hr.
    ap (kept_of keep) (after_entries entries (no_entries keep spec) col row hc hr
    ∙ ap (λ (held : Heights). fold with_height held (heights_over spec entries col row)) (none_held keep spec col row hc hr))
    ∙ kept_is keep (heights_over spec entries col row)))

-- a height is its own mean
one_mean : (h : ℤ) → rounded (pos 0 +ℤ h) (pos 1) ≡ h
one_mean (pos n) =
    let twice : (pos 2 *ℤ (pos 0 +ℤ pos n)) +ℤ pos 1 ≡ pos (n * 2 + 1) = omega (arith, ints) in
    ap (λ (z : ℤ). int_div_euclid z (pos 2)) twice ∙ ap pos (div-mul-add n 2 1 (omega arith))
one_mean (negsuc n) =
    let twice : (pos 2 *ℤ (pos 0 +ℤ negsuc n)) +ℤ pos 1 ≡ negsuc (n * 2 + 0) = omega (arith, ints) in
    ap (λ (z : ℤ). int_div_euclid z (pos 2)) twice ∙ ap negsuc (div-mul-add n 2 0 (omega arith))

one_kept : (keep : Keep) (o : Option ℤ) → kept keep (cons_option o []) ≡ o
one_kept Highest None = refl
one_kept Mean None = refl
one_kept Highest (Some h) = refl
one_kept Mean (Some h) = ap Some (one_mean h)

pub one_entry_stays : (keep : Keep) (spec : GridSpec) (entry : Cells) → merged keep spec (entry ∷ []) ≡ cut_to spec entry
unfolding merged cut_to
one_entry_stays keep spec entry =
    ap (cells_of spec) (same_all _ _ spec.cols spec.rows (λ col row. one_kept keep (height_over spec entry col row)))
