use Rattle.std.proofs.Common.{◌≡◌, ℕ, length, take, slice_index_or}
use Rattle.sgm_merge.specs.Sharing.{from_place}
use Rattle.sgm_merge.specs.Tallies.{no_heights, with_cell}
use Rattle.sgm_merge.proofs.merge.add_heights.Given as goal

-- the heights before this one were added
abbrev pub invariant-loop-index : goal.invariant-loop-index
invariant-loop-index l = record {
  len : length l.tallies ≡ length l.fn.tallies;
  cells : (place : ℕ) → slice_index_or l.tallies place no_heights ≡ with_cell (slice_index_or l.fn.tallies place no_heights) (from_place l.at (take l.index l.heights) place);
}
