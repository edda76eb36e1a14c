use Rattle.std.proofs.Common.{◌≡◌, ℤ, ◌≤◌, ◌++◌, ◌∷◌, [], to_z, of_z, w32, not, rules, sym, subst, ap, ◌∙◌, arith}
use Rattle.std.proofs.lemmas.Int.{ints, to_z-of_z}
use Rattle.sgm_grid.specs.Cells.{IsHeight}
use Rattle.sgm_grid.specs.Points.{higher}
use Rattle.sgm_report.specs.Sums.{lower, most_apart, sums_over}
use Rattle.sgm_report.specs.declared.volumes.RegionCell.{RegionCell}
use Rattle.sgm_report.proofs.Counted.{above-le, below-le, byte-le, byte_is, code_above, code_below, of_height, room_after, with_none, with_some}
use Rattle.sgm_report.proofs.volumes.Sums.with_cell.Goals as goal

pub returns-in-None-clause-value : goal.returns-in-None-clause-value
returns-in-None-clause-value c = λ cells e.
    let cell = c.args.cell in
    with_none cells c.args.self cell.measured cell.base e
    ∙ ap (λ (t : RegionCell). sums_over (cells ++ t ∷ [])) (sym (of_height cell _ c.in-None.is))

pub returns-in-Some-clause-value : goal.returns-in-Some-clause-value
returns-in-Some-clause-value c = λ cells e.
    let cell = c.args.cell in
    let h = c.in-Some.height in
    let height : IsHeight h = search rules in
    let over = code_above h cell.base c.max.result height c.requires.base c.max.ensures.value in
    let under = code_below h cell.base c.max-in-Some.result height c.requires.base c.max-in-Some.ensures.value in
    let same : to_z w32 (of_z w32 h) ≡ h = omega (arith, ints, height.0, height.1) in
    let low : to_z w32 (of_z w32 c.lower.result) ≡ lower c.args.self.lowest h =
    to_z-of_z w32 c.lower.result (record { sfits = c.lower.type_inv }) ∙ c.lower.ensures ∙ ap (λ (z : ℤ). lower c.args.self.lowest z) same in
    let high : to_z w32 (of_z w32 c.higher.result) ≡ higher c.args.self.highest h =
    to_z-of_z w32 c.higher.result (record { sfits = c.higher.type_inv }) ∙ c.higher.ensures.value ∙ ap (λ (z : ℤ). higher c.args.self.highest z) same in
    with_some cells c.args.self h cell.measured cell.base _ _ _ _ _ e (byte_is (not cell.measured)) over under low high
    ∙ ap (λ (t : RegionCell). sums_over (cells ++ t ∷ [])) (sym (of_height cell _ c.in-Some.is))

pub returns-in-Some-clause-room : goal.returns-in-Some-clause-room
returns-in-Some-clause-room c = λ left room.
    let h = c.in-Some.height in
    let base = c.args.cell.base in
    let height : IsHeight h = search rules in
    let over = code_above h base c.max.result height c.requires.base c.max.ensures.value in
    let under = code_below h base c.max-in-Some.result height c.requires.base c.max-in-Some.ensures.value in
    room_after c.args.self _ _ _ left _ _
    (byte-le (not c.args.cell.measured))
    (subst (λ n. n ≤ most_apart) (sym over) (above-le base h height c.requires.base))
    (subst (λ n. n ≤ most_apart) (sym under) (below-le base h height c.requires.base))
    room
