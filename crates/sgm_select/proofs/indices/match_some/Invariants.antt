use Rattle.std.proofs.Common.{◌≡◌, ℕ, ◌+◌, ◌<◌, Some, slice_get}
use Rattle.sgm_select.specs.Rows.{matched_in}
use Rattle.sgm_select.proofs.indices.match_some.Given as goal

abbrev pub invariant-loop-k : goal.invariant-loop-k
invariant-loop-k l = (k : ℕ) → k < l.k → slice_get l.into k ≡ Some (matched_in l.sums l.width l.fn.span.first l.fn.span.count (l.from + k))
