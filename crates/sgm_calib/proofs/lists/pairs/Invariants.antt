use Rattle.std.proofs.Common.{◌≡◌, ◌*◌, map, length, ◌++◌, drop}
use Rattle.serde_json.specs.View.{view}
use Rattle.sgm_calib.specs.WarpKeys.{pairs}
use Rattle.sgm_calib.proofs.ListLemmas.{amount}
use Rattle.sgm_calib.proofs.lists.pairs.Given as goal

abbrev pub invariant-loop-index : goal.invariant-loop-index
invariant-loop-index l =
    (length l.places.items ≡ l.index)
    × (l.places.items ++ pairs (map (λ v. amount (view v)) (drop (2 * l.index) l.items)) ≡ pairs (map (λ v. amount (view v)) l.items))
