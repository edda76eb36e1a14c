use Rattle.std.proofs.Common.{◌≡◌, length}
use Rattle.sgm_census.specs.Appending.{AppendsCosts}
use Rattle.sgm_census.specs.Costs.{single_cost}
use Rattle.sgm_census.proofs.cost.append_single.Given as goal

abbrev pub invariant-loop-x : goal.invariant-loop-x
invariant-loop-x l =
    record {
      cells_length : length l.cells ≡ l.fn.span.count;
      appends : AppendsCosts l.x l.fn.span.count (λ z d. single_cost l.fn.left l.fn.right l.fn.span.first z l.fn.y d) l.fn.into.items l.into.items;
    }
