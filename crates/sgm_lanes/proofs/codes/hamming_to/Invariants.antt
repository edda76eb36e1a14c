use Rattle.std.proofs.Common.{◌≡◌, ℕ, ◌<◌, ◌*◌, slice_index, count_ones, bit_xor}
use Rattle.sgm_lanes.proofs.codes.hamming_to.Given as goal

abbrev pub invariant-loop-number : goal.invariant-loop-number
invariant-loop-number l =
    (k : ℕ) → k < 16 * l.number → slice_index l.into k ≡ count_ones (bit_xor l.word (slice_index l.words k))

abbrev pub invariant-loop-i : goal.invariant-loop-i
invariant-loop-i l = (k : ℕ) → k < l.i → slice_index l.into k ≡ count_ones (bit_xor l.word (slice_index l.words k))
