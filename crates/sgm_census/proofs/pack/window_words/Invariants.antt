use Rattle.std.proofs.Common.{◌≡◌, ℕ, ◌+◌, ◌*◌, ◌<◌, length, take, drop, slice_index}
use Rattle.std.specs.List.{flat_map, range_with_len}
use Rattle.sgm_census.specs.Packed.{lesser, pushed}
use Rattle.sgm_census.proofs.pack.window_words.Given as goal

abbrev pub invariant-loop-j : goal.invariant-loop-j
invariant-loop-j l = (k : ℕ) → k < length l.words → slice_index l.words k
    ≡ pushed 0 (lesser (slice_index l.centres k) (flat_map (λ j. take l.fn.window.width (drop k (take l.width (drop ((l.top + j) * l.width) l.fn.plain.values.now)))) (range_with_len 0 l.j)))
