use Rattle.std.proofs.Common.{◌≡◌, ℤ, pos, ◌≤◌, ◌≤ℤ◌, to_z, of_z, w64, arith, ap}
use Rattle.std.specs.Prelude.{unsigned_abs}
use Rattle.std.proofs.lemmas.Int.{ints}
use Rattle.sgm_base.specs.Ranges.{IsFromTo}
use Rattle.sgm_grid.specs.declared.limits.TheConstants.{MAX_CELL}
use Rattle.sgm_report.specs.Tallies.{square}
use Rattle.sgm_report.proofs.Counted.{abs_at_most, tally_is, volume_fits}
use Rattle.sgm_report.proofs.volumes.Sums.over.Goals as goal

-- the side of a cell as the code multiplies it
side_is : (side : ℤ) → IsFromTo (pos 1) MAX_CELL side → unsigned_abs (to_z w64 (of_z w64 side)) ≤ 1000000000
side_is side range =
    let low : pos 0 ≤ℤ to_z w64 (of_z w64 side) = omega (arith, ints, range.0, range.1) in
    let high : to_z w64 (of_z w64 side) ≤ℤ pos 1000000000 = omega (arith, ints, range.0, range.1) in
    abs_at_most (to_z w64 (of_z w64 side)) 1000000000 low high

pub overflow_mul-result : goal.overflow_mul-result
overflow_mul-result c =
    let side = side_is c.args.side c.requires.side in
    volume_fits _ c.args.self.above side (omega (arith, c.requires.room.heights_above))

pub overflow_mul-result-2 : goal.overflow_mul-result-2
overflow_mul-result-2 c =
    let side = side_is c.args.side c.requires.side in
    volume_fits _ c.args.self.below side (omega (arith, c.requires.room.heights_below))

pub returns : goal.returns
returns c = λ cells e.
    let same : to_z w64 (of_z w64 c.args.side) ≡ c.args.side = omega (arith, ints, c.requires.side.0, c.requires.side.1) in
    tally_is c.args.side cells c.args.self _ e (ap (λ (z : ℤ). square z) same)
