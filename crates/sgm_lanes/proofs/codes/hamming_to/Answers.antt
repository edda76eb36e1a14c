use Rattle.std.proofs.Common.{◌≡◌, ◌*◌, ◌∙◌, slice_index, count_ones, bit_xor, ap₂, arith}
use Rattle.sgm_lanes.proofs.Lanes.{chunk_more}
use Rattle.sgm_lanes.proofs.codes.hamming_to.Goals as goal

pub loop-number-preserved : goal.loop-number-preserved
loop-number-preserved c =
    chunk_more (λ k x. x ≡ count_ones (bit_xor c.args.word (slice_index c.args.words.now k))) c.loop-number.into c.store.new.into c.differing_lanes.result
    (16 * c.loop-number.number) _ (omega arith) c.loop-number.invariant
    (λ i lt. c.differing_lanes.ensures.each i lt ∙ ap₂ (λ x y. count_ones (bit_xor x y)) (c.repeated-lanes.ensures.each i lt) (c.load.ensures.each i lt))
    c.store.ensures.inside c.store.ensures.outside
