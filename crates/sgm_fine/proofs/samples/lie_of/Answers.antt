use Rattle.std.proofs.Common.{◌≡◌, ◌<◌, ◌%◌, ◌/◌, ℤ, pos, ◌-ℤ◌, ◌*ℤ◌, ap₂, arith, ◌∙◌, if◌then◌else◌}
use Rattle.std.specs.Ordering.{int_eq}
use Rattle.sgm_base.specs.Rounding.{rounded}
use Rattle.sgm_fine.specs.Slopes.{rise, step_at}
use Rattle.sgm_fine.specs.Windows.{column_of, number, row_of_place}
use Rattle.sgm_fine.proofs.PlaceSamples.{level_same}
use Rattle.sgm_fine.proofs.samples.lie_of.Goals as goal

pub returns-clause-holds : goal.returns-clause-holds
returns-clause-holds c = λ p ex ev ef h k lt.
    let rising : ℤ → ℤ → ℤ → ℤ = λ n m s. if int_eq s (pos 0) then pos 0 else rounded (n *ℤ m) s in
    let i : k % 5 < 5 = omega arith in
    let j : k / 5 < 5 = omega (arith, lt) in
    let across : number c.rises-across.result (k % 5) ≡ rise column_of (step_at p.map p.x p.y p.value) (column_of k) =
    c.rises-across.ensures.each (k % 5) i ∙ ap₂ (rising (column_of k)) h.across_moment h.across_spread in
    let down : number c.rises.result (k / 5) ≡ rise row_of_place (step_at p.map p.x p.y p.value) (row_of_place k) =
    c.rises.ensures.each (k / 5) j ∙ ap₂ (rising (row_of_place k)) h.down_moment h.down_spread in
    ap₂ (λ (y z : ℤ). y -ℤ z)
    (c.columns_of.ensures.each (k % 5) i
    ∙ ap₂ (λ (y z : ℤ). y -ℤ z) (level_same c.args.at.x p.x c.args.at.value p.value c.args.at.first p.first (column_of k) ex ev ef) across) down
