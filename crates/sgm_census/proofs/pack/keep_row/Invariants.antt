use Rattle.std.proofs.Common.{◌≡◌, ℕ, ◌<◌, ◌&&◌, false, length, take, drop, get_or}
use Rattle.std.specs.List.{list_all}
use Rattle.sgm_census.proofs.pack.keep_row.Given as goal

abbrev pub invariant-loop-i : goal.invariant-loop-i
invariant-loop-i l = (k : ℕ) → k < length l.present → get_or l.present k false ≡ (get_or l.fn.present k false && list_all (λ t. t) (take l.i (drop k l.row)))
