use Rattle.std.proofs.Common.{◌≡◌, ◌≤ℤ◌, pos, ◌&&◌, to_z, of_z, w64, arith, ap, ap₂, sym, ◌∙◌}
use Rattle.std.specs.Ordering.{int_eq}
use Rattle.std.proofs.lemmas.Bool.{eq-eqb, ne_eqb}
use Rattle.std.proofs.lemmas.Int.{ints}
use Rattle.sgm_grid.specs.declared.grid_spec.GridSpec.{GridSpec}
use Rattle.sgm_grid.specs.Cells.{IsGridSpec}
use Rattle.sgm_merge.specs.Fits.{is_whole}
use Rattle.sgm_merge.proofs.Numbers.{all_three, first_fails, first_holds, not_three, same_bits}
use Rattle.sgm_merge.proofs.same_cells.fits.Goals as goal
use Rattle.sgm_merge.proofs.same_cells.fits.Goals.{then-entry-spec, else-entry-spec}

passed_west : (spec entry : GridSpec) → IsGridSpec spec → IsGridSpec entry
    → is_whole (to_z w64 (of_z w64 spec.cell)) (to_z w64 (of_z w64 spec.west)) (to_z w64 (of_z w64 entry.west)) ≡ is_whole spec.cell spec.west entry.west
passed_west spec entry s e =
    let cell : to_z w64 (of_z w64 spec.cell) ≡ spec.cell = omega (arith, ints, s.cell_in_range.0, s.cell_in_range.1) in
    let from : to_z w64 (of_z w64 spec.west) ≡ spec.west = omega (arith, ints, s.west_in_range.0, s.west_in_range.1) in
    let side : to_z w64 (of_z w64 entry.west) ≡ entry.west = omega (arith, ints, e.west_in_range.0, e.west_in_range.1) in
    ap (λ z. is_whole z (to_z w64 (of_z w64 spec.west)) (to_z w64 (of_z w64 entry.west))) cell ∙ ap₂ (is_whole spec.cell) from side

passed_south : (spec entry : GridSpec) → IsGridSpec spec → IsGridSpec entry
    → is_whole (to_z w64 (of_z w64 spec.cell)) (to_z w64 (of_z w64 spec.south)) (to_z w64 (of_z w64 entry.south)) ≡ is_whole spec.cell spec.south entry.south
passed_south spec entry s e =
    let cell : to_z w64 (of_z w64 spec.cell) ≡ spec.cell = omega (arith, ints, s.cell_in_range.0, s.cell_in_range.1) in
    let from : to_z w64 (of_z w64 spec.south) ≡ spec.south = omega (arith, ints, s.south_in_range.0, s.south_in_range.1) in
    let side : to_z w64 (of_z w64 entry.south) ≡ entry.south = omega (arith, ints, e.south_in_range.0, e.south_in_range.1) in
    ap (λ z. is_whole z (to_z w64 (of_z w64 spec.south)) (to_z w64 (of_z w64 entry.south))) cell ∙ ap₂ (is_whole spec.cell) from side

pub returns-then-is_whole : goal.returns-then-is_whole
returns-then-is_whole c =
    let spec = c.args.spec in
    let entry = c.args.entry in
    let low : pos 0 ≤ℤ spec.cell = omega (arith, ints, c.requires.spec.cell_in_range.0) in
    let low_entry : pos 0 ≤ℤ entry.cell = omega (arith, ints, c.requires.entry.cell_in_range.0) in
    let bits = same_bits entry.cell spec.cell low_entry low in
    let first : c.if-entry-spec.value ≡ (int_eq entry.cell spec.cell && is_whole spec.cell spec.west entry.west) = elim c.if-entry-spec.branch [
      | then-entry-spec w ↦ w.value-is ∙ w.is_whole.ensures ∙ passed_west spec entry c.requires.spec c.requires.entry ∙ first_holds _ _ (sym bits ∙ eq-eqb _ _ w.if-entry-spec.true)
      | else-entry-spec w ↦ first_fails _ _ _ (sym bits ∙ ne_eqb _ _ w.if-entry-spec.false) (w.value-is ∙ ne_eqb _ _ w.if-entry-spec.false)
    ] in
    all_three (int_eq entry.cell spec.cell) (is_whole spec.cell spec.west entry.west) (is_whole spec.cell spec.south entry.south) c.if-entry-spec.value _ first c.if-is_whole.true (c.is_whole-then-is_whole.ensures ∙ passed_south spec entry c.requires.spec c.requires.entry)

pub returns-else-is_whole : goal.returns-else-is_whole
returns-else-is_whole c =
    let spec = c.args.spec in
    let entry = c.args.entry in
    let low : pos 0 ≤ℤ spec.cell = omega (arith, ints, c.requires.spec.cell_in_range.0) in
    let low_entry : pos 0 ≤ℤ entry.cell = omega (arith, ints, c.requires.entry.cell_in_range.0) in
    let bits = same_bits entry.cell spec.cell low_entry low in
    let first : c.if-entry-spec.value ≡ (int_eq entry.cell spec.cell && is_whole spec.cell spec.west entry.west) = elim c.if-entry-spec.branch [
      | then-entry-spec w ↦ w.value-is ∙ w.is_whole.ensures ∙ passed_west spec entry c.requires.spec c.requires.entry ∙ first_holds _ _ (sym bits ∙ eq-eqb _ _ w.if-entry-spec.true)
      | else-entry-spec w ↦ first_fails _ _ _ (sym bits ∙ ne_eqb _ _ w.if-entry-spec.false) (w.value-is ∙ ne_eqb _ _ w.if-entry-spec.false)
    ] in
    not_three (int_eq entry.cell spec.cell) (is_whole spec.cell spec.west entry.west) (is_whole spec.cell spec.south entry.south) c.if-entry-spec.value first c.if-is_whole.false
