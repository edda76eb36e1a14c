use Rattle.std.proofs.Common.{◌<◌, ℤ, pos, ◌+ℤ◌, ap, ap₂, ◌∙◌, arith}
use Rattle.sgm_base.specs.Rounding.{rounded}
use Rattle.sgm_report.specs.Bases.{base_at, from_south}
use Rattle.sgm_report.proofs.Planes.{are_parts, base_fits, base_read, cast_fits, part_fits, rise_fits, rise_near, risen_is, risen_near}
use Rattle.sgm_report.proofs.base.BasePlane.at.Goals as goal

pub overflow_mul-east : goal.overflow_mul-east
overflow_mul-east c =
    let few : c.args.col < 4096 = omega (arith, c.requires.col, c.requires.ranges.cols_in_range.1) in
    part_fits c.args.self.rise_east c.args.col c.args.spec.cell c.twice_way.result
    c.requires.base.rise_east_in_range few c.requires.ranges.cell_in_range c.twice_way.ensures

pub overflow_mul-north : goal.overflow_mul-north
overflow_mul-north c =
    let line = from_south c.args.spec c.args.row in
    let few : line < 4096 = omega (arith, c.requires.row, c.requires.ranges.rows_in_range.1) in
    part_fits c.args.self.rise_north line c.args.spec.cell c.twice_way-2.result
    c.requires.base.rise_north_in_range few c.requires.ranges.cell_in_range c.twice_way-2.ensures

pub overflow_add-from : goal.overflow_add-from
overflow_add-from c =
    let parts = are_parts c.args.spec c.args.self c.args.col c.args.row c.twice_way.result
    c.twice_way-2.result c.from.result c.from-2.result
    c.requires.ranges c.requires.base c.requires.col c.requires.row c.twice_way.ensures
    c.twice_way-2.ensures c.from.ensures c.from-2.ensures in
    rise_fits c.from.result c.from-2.result parts.east_near parts.north_near

pub round_div-rise-requires-clause-a_low : goal.round_div-rise-requires-clause-a_low
round_div-rise-requires-clause-a_low c =
    let parts = are_parts c.args.spec c.args.self c.args.col c.args.row c.twice_way.result
    c.twice_way-2.result c.from.result c.from-2.result
    c.requires.ranges c.requires.base c.requires.col c.requires.row c.twice_way.ensures
    c.twice_way-2.ensures c.from.ensures c.from-2.ensures in
    (rise_near c.from.result c.from-2.result parts.east_near parts.north_near).0

pub round_div-rise-requires-clause-a_high : goal.round_div-rise-requires-clause-a_high
round_div-rise-requires-clause-a_high c =
    let parts = are_parts c.args.spec c.args.self c.args.col c.args.row c.twice_way.result
    c.twice_way-2.result c.from.result c.from-2.result
    c.requires.ranges c.requires.base c.requires.col c.requires.row c.twice_way.ensures
    c.twice_way-2.ensures c.from.ensures c.from-2.ensures in
    (rise_near c.from.result c.from-2.result parts.east_near parts.north_near).1

pub overflow_cast-result : goal.overflow_cast-result
overflow_cast-result c =
    let parts = are_parts c.args.spec c.args.self c.args.col c.args.row c.twice_way.result
    c.twice_way-2.result c.from.result c.from-2.result
    c.requires.ranges c.requires.base c.requires.col c.requires.row c.twice_way.ensures
    c.twice_way-2.ensures c.from.ensures c.from-2.ensures in
    let is = risen_is c.from.result c.from-2.result c.round_div-rise.result parts.east_near
    parts.north_near c.round_div-rise.ensures in
    let near = risen_near c.from.result c.from-2.result c.round_div-rise.result parts.east_near
    parts.north_near is in
    cast_fits c.round_div-rise.result near

pub overflow_add-result : goal.overflow_add-result
overflow_add-result c =
    let parts = are_parts c.args.spec c.args.self c.args.col c.args.row c.twice_way.result
    c.twice_way-2.result c.from.result c.from-2.result
    c.requires.ranges c.requires.base c.requires.col c.requires.row c.twice_way.ensures
    c.twice_way-2.ensures c.from.ensures c.from-2.ensures in
    let is = risen_is c.from.result c.from-2.result c.round_div-rise.result parts.east_near
    parts.north_near c.round_div-rise.ensures in
    let near = risen_near c.from.result c.from-2.result c.round_div-rise.result parts.east_near
    parts.north_near is in
    base_fits c.args.self.height c.round_div-rise.result c.requires.base.height_in_range near

pub returns : goal.returns
unfolding base_at
returns c =
    let parts = are_parts c.args.spec c.args.self c.args.col c.args.row c.twice_way.result
    c.twice_way-2.result c.from.result c.from-2.result
    c.requires.ranges c.requires.base c.requires.col c.requires.row c.twice_way.ensures
    c.twice_way-2.ensures c.from.ensures c.from-2.ensures in
    let is = risen_is c.from.result c.from-2.result c.round_div-rise.result parts.east_near
    parts.north_near c.round_div-rise.ensures in
    let near = risen_near c.from.result c.from-2.result c.round_div-rise.result parts.east_near
    parts.north_near is in
    base_read c.args.self.height c.round_div-rise.result c.requires.base.height_in_range near
    ∙ ap (λ (z : ℤ). c.args.self.height +ℤ z)
    (is ∙ ap₂ (λ (y z : ℤ). rounded (y +ℤ z) (pos 2000000)) parts.east_is parts.north_is)
