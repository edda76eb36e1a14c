use Rattle.std.proofs.Common.{◌-◌, ℤ, arith, ap₂}
use Rattle.std.proofs.lemmas.Int.{ints}
use Rattle.sgm_report.proofs.Crossings.{way_near}
use Rattle.sgm_report.proofs.outline.centre.Goals as goal

pub overflow_add-east : goal.overflow_add-east
overflow_add-east c =
    let ranges = c.requires.ranges in
    let east = way_near c.args.part.col c.args.part.spec.cell _ (omega (arith, c.requires.column, ranges.cols_in_range.1)) ranges.cell_in_range c.twice_way.ensures in
    omega (arith, ints, east)

pub overflow_add-north : goal.overflow_add-north
overflow_add-north c =
    let ranges = c.requires.ranges in
    let north = way_near (c.args.part.spec.rows - 1 - c.args.part.row) c.args.part.spec.cell _ (omega (arith, ranges.rows_in_range.1)) ranges.cell_in_range c.twice_way-2.ensures in
    omega (arith, ints, north)

pub returns-clause-value : goal.returns-clause-value
returns-clause-value c =
    let ranges = c.requires.ranges in
    let east = way_near c.args.part.col c.args.part.spec.cell _ (omega (arith, c.requires.column, ranges.cols_in_range.1)) ranges.cell_in_range c.twice_way.ensures in
    let north = way_near (c.args.part.spec.rows - 1 - c.args.part.row) c.args.part.spec.cell _ (omega (arith, ranges.rows_in_range.1)) ranges.cell_in_range c.twice_way-2.ensures in
    ap₂ (λ (y z : ℤ). (y, z)) (omega (arith, ints, east, north)) (omega (arith, ints, east, north))

pub returns-clause-near_east : goal.returns-clause-near_east
returns-clause-near_east c =
    let ranges = c.requires.ranges in
    let east = way_near c.args.part.col c.args.part.spec.cell _ (omega (arith, c.requires.column, ranges.cols_in_range.1)) ranges.cell_in_range c.twice_way.ensures in
    (omega (arith, ints, east), omega (arith, ints, east))

pub returns-clause-near_north : goal.returns-clause-near_north
returns-clause-near_north c =
    let ranges = c.requires.ranges in
    let north = way_near (c.args.part.spec.rows - 1 - c.args.part.row) c.args.part.spec.cell _ (omega (arith, ranges.rows_in_range.1)) ranges.cell_in_range c.twice_way-2.ensures in
    (omega (arith, ints, north), omega (arith, ints, north))
