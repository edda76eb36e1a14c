use Rattle.std.proofs.Common.{sym, arith}
use Rattle.sgm_refine.proofs.Kept.{all_kept}
use Rattle.sgm_map.proofs.refining.without_peaks.Goals as goal

pub returns-then-peak-le1 : goal.returns-then-peak-le1
returns-then-peak-le1 c = sym (all_kept c.args.map c.args.peak c.size-size.ensures.kept (omega (arith, c.if-peak-le1.true)))
