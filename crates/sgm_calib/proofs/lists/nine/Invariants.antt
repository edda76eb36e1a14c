use Rattle.std.proofs.Common.{◌≡◌, ℕ, ◌<◌, pos, map, length, get_or}
use Rattle.serde_json.specs.View.{view}
use Rattle.sgm_calib.proofs.ListLemmas.{amount}
use Rattle.sgm_calib.proofs.lists.nine.Given as goal

abbrev pub invariant-loop-index : goal.invariant-loop-index
invariant-loop-index l =
    (length l.entries ≡ 9) × ((k : ℕ) → k < l.index → get_or l.entries k (pos 0) ≡ get_or (map (λ v. amount (view v)) l.items) k (pos 0))
