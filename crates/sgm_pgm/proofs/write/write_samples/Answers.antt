use Rattle.std.proofs.Common.{sym, arith}
use Rattle.sgm_pgm.proofs.RasterLaws.{pairs_are}
use Rattle.sgm_pgm.proofs.write.write_samples.Goals as goal

pub returns : goal.returns
returns c =
    sym (pairs_are c.args.samples.now c.loop-index.into c.loop-index.invariant.full c.loop-index.invariant.bytes (λ k h. c.loop-index.invariant.written k (omega (arith, h, c.loop-index-test.false))))
