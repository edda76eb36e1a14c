use Rattle.std.proofs.Common.{◌≡◌, ℕ, ◌<◌, ◌≤◌, slice_index_or, vec_len, None}
use Rattle.sgm_handover.proofs.Maps.{released}
use Rattle.sgm_handover.proofs.machine.release.Given as goal

abbrev pub invariant-loop-i : goal.invariant-loop-i
invariant-loop-i l = record {
  done : (k : ℕ) → k < l.i → slice_index_or l.list.items k None ≡ released l.worker (slice_index_or l.initial.list.items k None);
  left : (k : ℕ) → l.i ≤ k → slice_index_or l.list.items k None ≡ slice_index_or l.initial.list.items k None;
  whole : vec_len l.list ≡ vec_len l.initial.list;
}
