use Rattle.std.proofs.Common.{arith}
use Rattle.sgm_grid.specs.Beside.{cells_to}
use Rattle.sgm_grid.proofs.Neighbours.{found_pier, no_pier, one_more}
use Rattle.sgm_grid.proofs.bridges.first_pier.Goals as goal

pub loop-away-preserved : goal.loop-away-preserved
loop-away-preserved c =
    one_more (cells_to c.args.side c.args.grid.now c.args.col c.args.row) c.loop-away.away c.loop-away.auto.away c.loop-away.invariant c.in_default.ensures.value

pub returns-in-Some : goal.returns-in-Some
returns-in-Some c =
    found_pier (cells_to c.args.side c.args.grid.now c.args.col c.args.row) c.args.most c.loop-away.away c.in-Some.height (c.loop-away.auto.away, omega (arith, c.min-reach.ensures))
    c.loop-away.invariant c.in-Some.ensures.value c.in-Some.ensures.in_range

pub returns : goal.returns
returns c =
    let none = no_pier (cells_to c.args.side c.args.grid.now c.args.col c.args.row) c.args.most
    (λ k l. c.loop-away.invariant k (omega (arith, c.min-reach.ensures, c.cells_beside.ensures.count))) in
    cc
