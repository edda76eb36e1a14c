use Rattle.std.proofs.Common.{◌≡◌, ℤ, ◌-◌, ◌<◌, ◌==◌, ◌&&◌, ◌+ℤ◌, ◌*ℤ◌, pos, Some, if◌then◌else◌, to_z, of_z, w32, w64, arith, length, ap, ap₂, sym, subst, ◌∙◌}
use Rattle.std.proofs.lemmas.Int.{ints}
use Rattle.sgm_base.specs.declared.point.Point.{Point}
use Rattle.sgm_grid.specs.declared.grid_spec.GridSpec.{GridSpec}
use Rattle.sgm_grid.specs.Cells.{Cells, IsGridSpec, height_at}
use Rattle.sgm_grid.specs.Points.{cell_of}
use Rattle.sgm_merge.proofs.Writing.{falls_there, written_height, written_length, written_spec}
use Rattle.sgm_merge.proofs.merge.write_height.Goals as goal

pub returns-clause-spec : goal.returns-clause-spec
returns-clause-spec c = ap (λ (g : Cells). g.spec) c.add.ensures ∙ written_spec c.args.grid.now _

pub returns-clause-len : goal.returns-clause-len
returns-clause-len c = ap (λ (g : Cells). length g.heights) c.add.ensures ∙ written_length c.args.grid.now _

pub returns-clause-cells : goal.returns-clause-cells
returns-clause-cells c = λ a b ha hb.
    let grid = c.args.grid.now in
    let spec = c.spec-spec.result in
    let col = c.args.col in
    let row = c.args.row in
    let same : spec ≡ grid.spec = c.spec-spec.ensures.spec in
    let kept = c.spec-spec.ensures.kept in
    let ranges : IsGridSpec spec = subst IsGridSpec (sym same) kept.ranges in
    let p : Point = record { x = to_z w64 (of_z w64 c.side_of.result); y = to_z w64 (of_z w64 c.side_of-2.result); h = to_z w64 (of_z w64 (to_z w32 (of_z w32 c.args.height))) } in
    let cell : to_z w64 (of_z w64 spec.cell) ≡ spec.cell = omega (arith, ints, ranges.cell_in_range.0, ranges.cell_in_range.1) in
    let west : to_z w64 (of_z w64 spec.west) ≡ spec.west = omega (arith, ints, ranges.west_in_range.0, ranges.west_in_range.1) in
    let south : to_z w64 (of_z w64 spec.south) ≡ spec.south = omega (arith, ints, ranges.south_in_range.0, ranges.south_in_range.1) in
    let x : p.x ≡ c.side_of.result = omega (arith, ints, c.side_of.ensures.near.0, c.side_of.ensures.near.1) in
    let y : p.y ≡ c.side_of-2.result = omega (arith, ints, c.side_of-2.ensures.near.0, c.side_of-2.ensures.near.1) in
    let height : p.h ≡ c.args.height = omega (arith, ints) in
    let hc : col < spec.cols = subst (λ (s : GridSpec). col < s.cols) (sym same) c.requires.col_in in
    let hr : row < spec.rows = subst (λ (s : GridSpec). row < s.rows) (sym same) c.requires.row_in in
    let falls : cell_of spec p ≡ Some (col, row) = falls_there spec p col row ranges hc hr
    (x ∙ c.side_of.ensures.value ∙ ap₂ (λ (w d : ℤ). w +ℤ (pos col *ℤ d)) west cell)
    (y ∙ c.side_of-2.ensures.value ∙ ap₂ (λ (w d : ℤ). w +ℤ (pos (spec.rows - 1 - row) *ℤ d)) south cell) in
    ap (λ (g : Cells). height_at g a b) c.add.ensures
    ∙ written_height grid p col row a b kept (subst (λ (s : GridSpec). cell_of s p ≡ Some (col, row)) same falls) c.requires.col_in c.requires.row_in c.requires.empty ha hb
    ∙ ap (λ (h : ℤ). if (col == a) && (row == b) then Some h else height_at grid a b) height
