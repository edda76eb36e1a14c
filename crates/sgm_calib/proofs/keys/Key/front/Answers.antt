use Rattle.std.proofs.Common.{length, ap, arith}
use Rattle.sgm_calib.proofs.Short.{part_short}
use Rattle.sgm_calib.proofs.keys.Key.front.Goals as goal

pub returns-else-has_index-clause-short : goal.returns-else-has_index-clause-short
returns-else-has_index-clause-short c = omega (arith, part_short c.args.self.now.number, ap length c.part.ensures)
