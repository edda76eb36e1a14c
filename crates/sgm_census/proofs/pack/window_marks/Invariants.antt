use Rattle.std.proofs.Common.{◌≡◌, ℕ, ◌+◌, ◌*◌, ◌<◌, false, length, take, drop, get_or}
use Rattle.std.specs.List.{flat_map, list_all, range_with_len}
use Rattle.sgm_census.proofs.pack.window_marks.Given as goal

abbrev pub invariant-loop-j : goal.invariant-loop-j
invariant-loop-j l = (k : ℕ) → k < length l.present → get_or l.present k false
    ≡ list_all (λ t. t) (flat_map (λ j. take l.fn.window.width (drop k (take l.width (drop ((l.top + j) * l.width) l.fn.plain.there.now)))) (range_with_len 0 l.j))
