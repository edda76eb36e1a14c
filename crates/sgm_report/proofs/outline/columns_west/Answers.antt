use Rattle.std.proofs.Common.{◌≡◌, ◌+◌, ◌*◌, ℤ, pos, ◌+ℤ◌, ◌-ℤ◌, ◌*ℤ◌, ◌<ℤ◌, ap, ap₂, sym, ◌∙◌, to_z, of_z, w64}
use Rattle.sgm_report.specs.Outlines.{Corner, Edge, centre_east, centre_north, passes_east}
use Rattle.sgm_report.proofs.Crossings.{centre_on, counted_by, falls, held, held_cell, held_crossing, held_place, held_step, passes_by, passes_unless, rises, rises_not, west_of_falling, west_of_rising}
use Rattle.sgm_report.proofs.outline.columns_west.Goals as goal

pub step-requires-else-from-to-clause-rises : goal.step-requires-else-from-to-clause-rises
step-requires-else-from-to-clause-rises c =
    falls _ c.args.from.0 c.args.from.1 c.args.to.0 c.args.to.1 c.is_reached.result c.is_reached-2.result c.is_reached.ensures c.is_reached-2.ensures c.if-is_reached.false
    (rises_not c.args.from.1 c.args.to.1 c.requires.from.1 c.requires.to.1 c.if-from-to.false)

pub returns-then-is_reached-clause-value : goal.returns-then-is_reached-clause-value
returns-then-is_reached-clause-value c index h =
    let spec = c.args.part.spec in
    let at = c.centre-east.result in
    let north : to_z w64 (of_z w64 at.1) ≡ centre_north spec c.args.part.row =
    held_place at.1 c.centre-east.ensures.near_north ∙ ap (λ (p : Corner). p.1) c.centre-east.ensures.value in
    ap (λ (n : ℤ). passes_east (centre_east spec (c.args.part.col + index)) n (c.args.from, c.args.to)) (sym north)
    ∙ passes_unless _ _ (c.args.from, c.args.to) c.is_reached.result c.is_reached-2.result index c.is_reached.ensures c.is_reached-2.ensures c.if-is_reached.true

pub returns-then-from-to-clause-value : goal.returns-then-from-to-clause-value
returns-then-from-to-clause-value c index h =
    let spec = c.args.part.spec in
    let at = c.centre-east.result in
    let start : ℤ = to_z w64 (of_z w64 at.0) in
    let level : ℤ = to_z w64 (of_z w64 at.1) in
    let edge : Edge = (c.args.from, c.args.to) in
    let on : ℤ = pos (2 * index) *ℤ spec.cell in
    let north : level ≡ centre_north spec c.args.part.row =
    held_place at.1 c.centre-east.ensures.near_north ∙ ap (λ (p : Corner). p.1) c.centre-east.ensures.value in
    let east : start ≡ centre_east spec c.args.part.col =
    held_place at.0 c.centre-east.ensures.near_east ∙ ap (λ (p : Corner). p.0) c.centre-east.ensures.value in
    let place : centre_east spec (c.args.part.col + index) ≡ start +ℤ on =
    centre_on spec.west spec.cell c.args.part.col index ∙ ap (λ (z : ℤ). z +ℤ on) (sym east) in
    let up : c.args.from.1 <ℤ c.args.to.1 = rises c.args.from.1 c.args.to.1 c.requires.from.1 c.requires.to.1 c.if-from-to.true in
    let step : held c.step.result ≡ (pos 2 *ℤ spec.cell) *ℤ (c.args.to.1 -ℤ c.args.from.1) =
    held_step c.step.result c.step.ensures.near ∙ c.step.ensures.value
    ∙ ap (λ (z : ℤ). (pos 2 *ℤ z) *ℤ (c.args.to.1 -ℤ c.args.from.1)) (held_cell spec.cell c.requires.ranges.cell_in_range) in
    ap₂ (λ (e n : ℤ). passes_east e n edge) place (sym north)
    ∙ passes_by (start +ℤ on) level edge c.is_reached.result c.is_reached-2.result index c.columns_before.result
    c.is_reached.ensures c.is_reached-2.ensures c.if-is_reached.false
    (west_of_rising c.args.from.0 c.args.from.1 c.args.to.0 c.args.to.1 start level index spec.cell c.crossing.result up c.crossing.ensures.value
    ∙ counted_by index _ (held c.step.result) c.crossing.result (held c.crossing.result) step (held_crossing c.crossing.result c.crossing.ensures.near)
    ∙ c.columns_before.ensures.value index h)

pub returns-else-from-to-clause-value : goal.returns-else-from-to-clause-value
returns-else-from-to-clause-value c index h =
    let spec = c.args.part.spec in
    let at = c.centre-east.result in
    let start : ℤ = to_z w64 (of_z w64 at.0) in
    let level : ℤ = to_z w64 (of_z w64 at.1) in
    let edge : Edge = (c.args.from, c.args.to) in
    let on : ℤ = pos (2 * index) *ℤ spec.cell in
    let far = c.crossing-else-from-to.result in
    let north : level ≡ centre_north spec c.args.part.row =
    held_place at.1 c.centre-east.ensures.near_north ∙ ap (λ (p : Corner). p.1) c.centre-east.ensures.value in
    let east : start ≡ centre_east spec c.args.part.col =
    held_place at.0 c.centre-east.ensures.near_east ∙ ap (λ (p : Corner). p.0) c.centre-east.ensures.value in
    let place : centre_east spec (c.args.part.col + index) ≡ start +ℤ on =
    centre_on spec.west spec.cell c.args.part.col index ∙ ap (λ (z : ℤ). z +ℤ on) (sym east) in
    let down : c.args.to.1 <ℤ c.args.from.1 =
    falls level c.args.from.0 c.args.from.1 c.args.to.0 c.args.to.1 c.is_reached.result c.is_reached-2.result c.is_reached.ensures c.is_reached-2.ensures c.if-is_reached.false
    (rises_not c.args.from.1 c.args.to.1 c.requires.from.1 c.requires.to.1 c.if-from-to.false) in
    let step : held c.step-else-from-to.result ≡ (pos 2 *ℤ spec.cell) *ℤ (c.args.from.1 -ℤ c.args.to.1) =
    held_step c.step-else-from-to.result c.step-else-from-to.ensures.near ∙ c.step-else-from-to.ensures.value
    ∙ ap (λ (z : ℤ). (pos 2 *ℤ z) *ℤ (c.args.from.1 -ℤ c.args.to.1)) (held_cell spec.cell c.requires.ranges.cell_in_range) in
    ap₂ (λ (e n : ℤ). passes_east e n edge) place (sym north)
    ∙ passes_by (start +ℤ on) level edge c.is_reached.result c.is_reached-2.result index c.columns_before-else-from-to.result
    c.is_reached.ensures c.is_reached-2.ensures c.if-is_reached.false
    (west_of_falling c.args.to.0 c.args.to.1 c.args.from.0 c.args.from.1 start level index spec.cell far down c.crossing-else-from-to.ensures.value
    ∙ counted_by index _ (held c.step-else-from-to.result) far (held far) step (held_crossing far c.crossing-else-from-to.ensures.near)
    ∙ c.columns_before-else-from-to.ensures.value index h)
