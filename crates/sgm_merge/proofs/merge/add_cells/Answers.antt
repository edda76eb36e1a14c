use Rattle.std.proofs.Common.{◌≡◌, ℕ, ◌+◌, ◌-◌, ◌*◌, ◌<◌, ◌≤◌, ◌∙◌, length, take, drop, get_or, ℤ, Option, refl, sym, subst, arith}
use Rattle.std.specs.Option.{ForSome}
use Rattle.std.proofs.lemmas.List.Elements.{All-drop, All-get_or, All-take}
use Rattle.sgm_grid.specs.declared.grid_spec.GridSpec.{GridSpec}
use Rattle.sgm_grid.specs.Cells.{IsHeight}
use Rattle.sgm_merge.specs.Tallies.{Heights, no_heights}
use Rattle.sgm_merge.specs.declared.limits.TheConstants.{MAX_ENTRIES}
use Rattle.sgm_merge.proofs.SharedRows.{AddedTo, added_all, added_none, added_row, corresponds, not_added, part_is, part_within}
use Rattle.sgm_merge.proofs.merge.add_cells.Goals as goal

pub loop-index-init : goal.loop-index-init
loop-index-init c =
    let cols = c.sharing.result.0 in
    let rows = c.sharing.result.1 in
    record {
      len = refl;
      cells = added_none c.args.spec c.args.entry.now cols rows c.args.tallies.now (corresponds c.args.spec c.spec.result c.args.entry.now cols rows c.spec.ensures.spec c.sharing.ensures.cells);
    }

pub add_heights-requires-clause-inside : goal.add_heights-requires-clause-inside
add_heights-requires-clause-inside c =
    let cols = c.sharing.result.0 in
    let rows = c.sharing.result.1 in
    let width : cols.entry_first + cols.count ≤ c.args.entry.now.spec.cols = subst (λ (s : GridSpec). cols.entry_first + cols.count ≤ s.cols) c.spec.ensures.spec c.sharing.ensures.cols.entry_inside in
    let part = part_is c.args.entry.now cols (rows.entry_first + c.loop-index.index) c.row-heights.result.now width c.row-heights.ensures.whole c.row-heights.ensures.value in
    let below : rows.first + c.loop-index.index < c.args.spec.rows = omega (arith, c.sharing.ensures.rows.inside) in
    let within = part_within c.args.spec.cols c.args.spec.rows (rows.first + c.loop-index.index) cols.first cols.count c.sharing.ensures.cols.inside below in
    omega (arith, part.count, within, c.loop-index.invariant.len, c.requires.full)

pub add_heights-requires-clause-in_range : goal.add_heights-requires-clause-in_range
add_heights-requires-clause-in_range c =
    let P : Option ℤ → Type 0 = λ height. ForSome height IsHeight in
    let e = c.sharing.result.0.entry_first in
    All-take P (e + c.sharing.result.0.count - e) (drop e c.row-heights.result.now) (All-drop P e c.row-heights.result.now c.row-heights.ensures.in_range)

pub add_heights-requires-clause-room : goal.add_heights-requires-clause-room
add_heights-requires-clause-room c = λ k few.
    let cols = c.sharing.result.0 in
    let rows = c.sharing.result.1 in
    let row = rows.first + c.loop-index.index in
    let width : cols.entry_first + cols.count ≤ c.args.entry.now.spec.cols = subst (λ (s : GridSpec). cols.entry_first + cols.count ≤ s.cols) c.spec.ensures.spec c.sharing.ensures.cols.entry_inside in
    let part = part_is c.args.entry.now cols (rows.entry_first + c.loop-index.index) c.row-heights.result.now width c.row-heights.ensures.whole c.row-heights.ensures.value in
    let below : row < c.args.spec.rows = omega (arith, c.sharing.ensures.rows.inside) in
    let col : cols.first + k < c.args.spec.cols = omega (arith, part.count, c.sharing.ensures.cols.inside) in
    let within = part_within c.args.spec.cols c.args.spec.rows row cols.first cols.count c.sharing.ensures.cols.inside below in
    let place : row * c.args.spec.cols + (cols.first + k) ≡ row * c.args.spec.cols + cols.first + k = omega arith in
    let inside : row * c.args.spec.cols + cols.first + k < length c.args.tallies.now = omega (arith, part.count, within, c.requires.full) in
    let same = not_added c.args.spec c.args.entry.now c.args.tallies.now c.loop-index.tallies row (cols.first + k) row c.loop-index.invariant.cells col below (omega arith) in
    let old : get_or c.loop-index.tallies (row * c.args.spec.cols + cols.first + k) no_heights ≡ get_or c.args.tallies.now (row * c.args.spec.cols + cols.first + k) no_heights
    = subst (λ (n : ℕ). get_or c.loop-index.tallies n no_heights ≡ get_or c.args.tallies.now n no_heights) place same in
    subst (λ (h : Heights). h.count < MAX_ENTRIES) (sym old)
    (All-get_or (λ (h : Heights). h.count < MAX_ENTRIES) c.args.tallies.now (row * c.args.spec.cols + cols.first + k) no_heights inside c.requires.room)

pub loop-index-preserved : goal.loop-index-preserved
loop-index-preserved c =
    let cols = c.sharing.result.0 in
    let rows = c.sharing.result.1 in
    let e = cols.entry_first in
    let width : cols.entry_first + cols.count ≤ c.args.entry.now.spec.cols = subst (λ (s : GridSpec). cols.entry_first + cols.count ≤ s.cols) c.spec.ensures.spec c.sharing.ensures.cols.entry_inside in
    let part = part_is c.args.entry.now cols (rows.entry_first + c.loop-index.index) c.row-heights.result.now width c.row-heights.ensures.whole c.row-heights.ensures.value in
    record {
      len = c.add_heights.ensures.len ∙ c.loop-index.invariant.len;
      cells = added_row c.args.spec c.args.entry.now cols rows c.args.tallies.now c.loop-index.tallies c.add_heights.new.tallies c.loop-index.index
          (take (e + cols.count - e) (drop e c.row-heights.result.now))
          (corresponds c.args.spec c.spec.result c.args.entry.now cols rows c.spec.ensures.spec c.sharing.ensures.cells)
          c.sharing.ensures.cols.inside c.sharing.ensures.rows.inside c.loop-index-test.true part c.loop-index.invariant.cells c.add_heights.ensures.cells;
    }

pub returns-clause-cells : goal.returns-clause-cells
returns-clause-cells c =
    let cols = c.sharing.result.0 in
    let rows = c.sharing.result.1 in
    let last : c.loop-index.index ≡ rows.count = omega arith in
    added_all c.args.spec c.args.entry.now cols rows c.args.tallies.now c.loop-index.tallies
    (corresponds c.args.spec c.spec.result c.args.entry.now cols rows c.spec.ensures.spec c.sharing.ensures.cells)
    (subst (λ (n : ℕ). AddedTo c.args.spec c.args.entry.now c.args.tallies.now c.loop-index.tallies (rows.first + n)) last c.loop-index.invariant.cells)
