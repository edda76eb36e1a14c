use Rattle.std.proofs.Common.{arith}
use Rattle.sgm_fine.specs.Windows.{number}
use Rattle.sgm_fine.proofs.SideSums.{total_from_to}
use Rattle.sgm_fine.proofs.scores.sums_of.Goals as goal

pub returns-clause-kept : goal.returns-clause-kept
returns-clause-kept c = total_from_to 4095 (number c.args.right.now) c.total_of.result (omega arith) c.requires.right c.total_of.ensures
