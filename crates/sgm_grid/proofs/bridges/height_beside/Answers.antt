use Rattle.std.proofs.Common.{◌≤◌, arith, subst}
use Rattle.sgm_grid.specs.declared.bridges.Side.{Side}
use Rattle.sgm_grid.specs.declared.bridges.Side.TheVariants.{East, North, South, West}
use Rattle.sgm_grid.proofs.Neighbours.{number_to, read_to, within_to}
use Rattle.sgm_grid.proofs.bridges.height_beside.Goals as goal

pub overflow_add-col : goal.overflow_add-col
overflow_add-col c =
    let a = c.args in
    let r = c.requires in
    let near = subst (λ (side : Side). a.away ≤ number_to side a.grid.now.spec a.col a.row) c.in-East.is (within_to a.side a.grid.now a.col a.row a.away r.kept r.col_in r.row_in r.away.1) in
    omega (arith, r.kept.ranges.cols_in_range.1)

pub overflow_add-row : goal.overflow_add-row
overflow_add-row c =
    let a = c.args in
    let r = c.requires in
    let near = subst (λ (side : Side). a.away ≤ number_to side a.grid.now.spec a.col a.row) c.in-South.is (within_to a.side a.grid.now a.col a.row a.away r.kept r.col_in r.row_in r.away.1) in
    omega (arith, r.kept.ranges.rows_in_range.1)

pub get-requires-in-South-clause-row_in : goal.get-requires-in-South-clause-row_in
get-requires-in-South-clause-row_in c =
    let a = c.args in
    let r = c.requires in
    let near = subst (λ (side : Side). a.away ≤ number_to side a.grid.now.spec a.col a.row) c.in-South.is (within_to a.side a.grid.now a.col a.row a.away r.kept r.col_in r.row_in r.away.1) in
    omega arith

pub returns-in-West-clause-value : goal.returns-in-West-clause-value
returns-in-West-clause-value c =
    let r = c.requires in
    read_to c.args.side West c.args.grid.now c.args.col c.args.row c.args.away c.get.result r.kept r.col_in r.row_in r.away c.in-West.is c.get.ensures.value

pub returns-in-East-clause-value : goal.returns-in-East-clause-value
returns-in-East-clause-value c =
    let r = c.requires in
    read_to c.args.side East c.args.grid.now c.args.col c.args.row c.args.away c.get-in-East.result r.kept r.col_in r.row_in r.away c.in-East.is c.get-in-East.ensures.value

pub returns-in-North-clause-value : goal.returns-in-North-clause-value
returns-in-North-clause-value c =
    let r = c.requires in
    read_to c.args.side North c.args.grid.now c.args.col c.args.row c.args.away c.get-in-North.result r.kept r.col_in r.row_in r.away c.in-North.is c.get-in-North.ensures.value

pub returns-in-South-clause-value : goal.returns-in-South-clause-value
returns-in-South-clause-value c =
    let r = c.requires in
    read_to c.args.side South c.args.grid.now c.args.col c.args.row c.args.away c.get-in-South.result r.kept r.col_in r.row_in r.away c.in-South.is c.get-in-South.ensures.value
