-- What a merge holds after one entry more.
use Rattle.std.proofs.Common.{◌≡◌, ℕ, ◌+◌, ◌*◌, ◌/◌, ◌%◌, ◌<◌, ◌≤◌, List, ◌++◌, length, get_or, take, drop, Option, Some, None, ℤ, sym, ap, subst, ◌∙◌, arith}
use Rattle.std.specs.Prelude.{All}
use Rattle.std.proofs.lemmas.List.{take_at}
use Rattle.std.proofs.lemmas.List.Elements.{All-from_get_or, All-get_or}
use Rattle.std.proofs.lemmas.Nat.{div_below, mod_below}
use Rattle.sgm_grid.specs.declared.grid_spec.GridSpec.{GridSpec}
use Rattle.sgm_grid.specs.declared.keep.Keep.{Keep}
use Rattle.sgm_grid.specs.Cells.{Cells, IsGridSpec}
use Rattle.sgm_merge.specs.Merged.{height_over}
use Rattle.sgm_merge.specs.Merging.{IsMerging, Merging, held_at, merging_of, with_entry}
use Rattle.sgm_merge.specs.Tallies.{Heights, no_heights, with_cell}
use Rattle.sgm_merge.proofs.Cellwise.{cells_are}

-- each cell got the height that the entry has there
abbrev pub Adds : GridSpec → Cells → List Heights → List Heights → Type 0
Adds spec entry old new = (col row : ℕ) → col < spec.cols → row < spec.rows → held_at spec new col row ≡ with_cell (held_at spec old col row) (height_over spec entry col row)

-- what a list holds that was written whole
pub whole_written : {X : Type 0} (xs ys : List X) (n : ℕ) → n ≡ length xs → length ys ≡ length xs → take n (ys ++ drop (length ys) xs) ≡ ys
whole_written xs ys n len same = take_at ys (drop (length ys) xs) n (same ∙ sym len)

pub added_merge : (keep : Keep) (spec : GridSpec) (n : ℕ) (entry : Cells) (old new : List Heights) (m : Merging) → IsGridSpec spec → length new ≡ spec.cols * spec.rows
    → Adds spec entry old new → merging_of keep spec n old ≡ m → merging_of keep spec (n + 1) new ≡ with_entry m entry
added_merge keep spec n entry old new m ranges full adds is =
    ap (merging_of keep spec (n + 1))
    (cells_are new (λ col row. with_cell (held_at spec old col row) (height_over spec entry col row)) spec.cols spec.rows no_heights ranges.cols_in_range.0 full adds)
    ∙ ap (λ (m : Merging). with_entry m entry) is

count_more : (held : Heights) (o : Option ℤ) (n : ℕ) → held.count ≤ n → (with_cell held o).count ≤ n + 1
count_more held None n few = omega arith
count_more held (Some h) n few = omega arith

few_more : (spec : GridSpec) (entry : Cells) (old new : List Heights) (n : ℕ) → IsGridSpec spec → length old ≡ spec.cols * spec.rows → length new ≡ spec.cols * spec.rows
    → Adds spec entry old new → All (λ (h : Heights). h.count ≤ n) old → All (λ (h : Heights). h.count ≤ n + 1) new
few_more spec entry old new n ranges full_old full adds few =
    All-from_get_or (λ (h : Heights). h.count ≤ n + 1) new no_heights (λ k inside.
    let col = k % spec.cols in
    let row = k / spec.cols in
    let some : 0 < spec.cols = ranges.cols_in_range.0 in
    let hc : col < spec.cols = mod_below k spec.cols some in
    let hr : row < spec.rows = div_below k spec.cols spec.rows some (omega (arith, full)) in
    let at : row * spec.cols + col ≡ k = omega arith in
    let held = adds col row hc hr in
    let before : (held_at spec old col row).count ≤ n = subst (λ (j : ℕ). (get_or old j no_heights).count ≤ n) (sym at)
    (All-get_or (λ (h : Heights). h.count ≤ n) old k no_heights (omega (arith, full, full_old)) few) in
    subst (λ (j : ℕ). (get_or new j no_heights).count ≤ n + 1) at
    (subst (λ (h : Heights). h.count ≤ n + 1) (sym held) (count_more (held_at spec old col row) (height_over spec entry col row) n before)))

pub still_merging : (keep : Keep) (spec : GridSpec) (n : ℕ) (entry : Cells) (old new : List Heights) → IsMerging (merging_of keep spec n old) → length new ≡ length old
    → Adds spec entry old new → IsMerging (merging_of keep spec (n + 1) new)
still_merging keep spec n entry old new kept same adds = record {
  ranges = kept.ranges;
  full = same ∙ kept.full;
  few = few_more spec entry old new n kept.ranges kept.full (same ∙ kept.full) adds kept.few;
}
