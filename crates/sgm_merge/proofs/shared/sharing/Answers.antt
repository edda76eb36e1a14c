use Rattle.std.proofs.Common.{◌≡◌, ◌-ℤ◌, ℤ, pos, to_z, of_z, w64, arith, ap, ap₂, ◌∙◌}
use Rattle.std.specs.Int.{int_div_euclid}
use Rattle.std.proofs.lemmas.Int.{ints}
use Rattle.sgm_grid.specs.Points.{index_below}
use Rattle.sgm_merge.specs.Sharing.{both}
use Rattle.sgm_merge.proofs.Corners.{below_top, east_of, fitting_corner}
use Rattle.sgm_merge.proofs.shared.sharing.Goals as goal

pub returns-clause-cells : goal.returns-clause-cells
returns-clause-cells c = λ col row hr hc.
    let spec = c.args.spec in
    let entry = c.args.entry in
    let cell : to_z w64 (of_z w64 spec.cell) ≡ spec.cell = omega (arith, ints, c.requires.spec.cell_in_range.0, c.requires.spec.cell_in_range.1) in
    let west : to_z w64 (of_z w64 entry.west) -ℤ to_z w64 (of_z w64 spec.west) ≡ entry.west -ℤ spec.west = omega (arith, ints, c.requires.spec.west_in_range.0, c.requires.spec.west_in_range.1, c.requires.entry.west_in_range.0, c.requires.entry.west_in_range.1) in
    let south : to_z w64 (of_z w64 entry.south) -ℤ to_z w64 (of_z w64 spec.south) ≡ entry.south -ℤ spec.south = omega (arith, ints, c.requires.spec.south_in_range.0, c.requires.spec.south_in_range.1, c.requires.entry.south_in_range.0, c.requires.entry.south_in_range.1) in
    let east : c.cells_between-east.result ≡ east_of spec entry = c.cells_between-east.ensures.value ∙ ap₂ int_div_euclid west cell in
    let north : c.cells_between-north.result ≡ int_div_euclid (entry.south -ℤ spec.south) spec.cell = c.cells_between-north.ensures.value ∙ ap₂ int_div_euclid south cell in
    let cols : east_of spec entry ≡ to_z w64 (of_z w64 c.cells_between-east.result) = omega (arith, ints, east, c.cells_between-east.ensures.near.0, c.cells_between-east.ensures.near.1) in
    let rows : below_top spec entry ≡ to_z w64 (of_z w64 (to_z w64 (of_z w64 (to_z w64 spec.rows -ℤ to_z w64 entry.rows)) -ℤ to_z w64 (of_z w64 c.cells_between-north.result)))
    = omega (arith, ints, north, c.cells_between-north.ensures.near.0, c.cells_between-north.ensures.near.1, c.requires.spec.rows_in_range.1, c.requires.entry.rows_in_range.1) in
    fitting_corner spec entry col row c.requires.spec c.requires.fits hr
    ∙ ap₂ both (ap (λ (z : ℤ). index_below entry.cols (pos col -ℤ z)) cols ∙ c.shared_lines.ensures.lines col hc)
    (ap (λ (z : ℤ). index_below entry.rows (pos row -ℤ z)) rows ∙ c.shared_lines-2.ensures.lines row hr)
