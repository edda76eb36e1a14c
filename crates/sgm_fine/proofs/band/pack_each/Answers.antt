use Rattle.std.proofs.Common.{◌≡◌, ◌+◌, ◌<◌, None, slice_index_or, to_z, of_z, w16, length-set, length, arith, ◌∙◌}
use Rattle.std.proofs.lemmas.Int.{ints}
use Rattle.sgm_fine.specs.Bands.{packed}
use Rattle.sgm_fine.proofs.Bands.{row_kept, row_more}
use Rattle.sgm_fine.proofs.band.pack_each.Goals as goal

pub loop-q-preserved : goal.loop-q-preserved
loop-q-preserved c =
    let q = c.loop-q.q in
    let from = c.args.from in
    let before = c.loop-q.invariant in
    let whole : to_z w16 (of_z w16 c.pack.result) ≡ c.pack.result = omega (arith, ints, c.pack.type_inv) in
    let inside : from + q < length c.loop-q.band = omega (arith, c.requires, c.loop-q-test.true, before.len) in
    record {
      few = omega (arith, c.loop-q-test.true);
      len = length-set c.loop-q.band (from + q) _ ∙ before.len;
      written = row_more (λ q. packed (slice_index_or c.args.samples.now q None)) c.loop-q.band from q _ inside (whole ∙ c.pack.ensures) before.written;
      kept = row_kept c.loop-q.band _ from q _ before.kept;
    }
