use Rattle.std.proofs.Common.{◌≡◌, ◌≤◌, None, replicate, vec_capacity, vec_len}
use Rattle.sgm_threads.proofs.places.empty_places.Given as goal

abbrev pub invariant-loop : goal.invariant-loop
invariant-loop g l = record {
  count : vec_len l.places ≡ l.counter;
  room : l.count ≤ vec_capacity l.places;
  empty : l.places.items ≡ replicate l.counter None;
}
