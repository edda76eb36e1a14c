use Rattle.std.proofs.Common.{arith, ap, ◌∙◌}
use Rattle.sgm_fine.specs.Bands.{packed}
use Rattle.sgm_fine.proofs.Bands.{rows_more}
use Rattle.sgm_fine.proofs.band.pack_rows.Goals as goal

pub overflow_add-y : goal.overflow_add-y
overflow_add-y c = omega (arith, c.requires.row, c.loop-j-test.true)

pub loop-j-preserved : goal.loop-j-preserved
loop-j-preserved c =
    let row = c.row.ensures in
    let made = c.pack_row.ensures in
    record {
      few = omega (arith, c.loop-j-test.true);
      held = rows_more c.loop-j.j c.args.y _ _ c.args.plane.now (omega (arith, row.few)) c.loop-j.invariant.held made.kept
          (λ q hq. made.written q (omega (arith, hq, row.whole)) ∙ ap packed (row.each q hq));
    }
