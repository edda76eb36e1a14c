use Rattle.std.proofs.Common.{arith}
use Rattle.sgm_fine.specs.Windows.{number}
use Rattle.sgm_fine.proofs.SideSums.{near_zero, total_from_to}
use Rattle.sgm_fine.proofs.scores.window_sums.Goals as goal

pub products_of-requires-2-clause-a_small : goal.products_of-requires-2-clause-a_small
products_of-requires-2-clause-a_small c = near_zero (number c.args.window.now.here) c.requires.here

pub products_of-requires-2-clause-b_small : goal.products_of-requires-2-clause-b_small
products_of-requires-2-clause-b_small c = near_zero (number c.args.window.now.after) c.requires.after

pub products_of-requires-3-clause-a_small : goal.products_of-requires-3-clause-a_small
products_of-requires-3-clause-a_small c = near_zero (number c.args.window.now.here) c.requires.here

pub products_of-requires-3-clause-b_small : goal.products_of-requires-3-clause-b_small
products_of-requires-3-clause-b_small c = near_zero (number c.args.window.now.before) c.requires.before

pub returns-clause-kept : goal.returns-clause-kept
returns-clause-kept c = record {
  left = total_from_to 255 (number c.args.window.now.left) c.total_of.result (omega arith) c.requires.left c.total_of.ensures;
  after = c.sums_of.ensures.kept;
  here = c.sums_of-2.ensures.kept;
  before = c.sums_of-3.ensures.kept;
}
