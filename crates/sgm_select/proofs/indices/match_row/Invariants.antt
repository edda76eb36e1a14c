use Rattle.std.proofs.Common.{◌≡◌, ℕ, ◌*◌, ◌<◌, Some, slice_get}
use Rattle.sgm_select.specs.Rows.{matched_in}
use Rattle.sgm_select.proofs.indices.match_row.Given as goal

abbrev pub invariant-loop-block : goal.invariant-loop-block
invariant-loop-block l = (q : ℕ) → q < 4096 * l.block → q < l.width → slice_get l.into q ≡ Some (matched_in l.sums l.width l.fn.span.first l.fn.span.count q)
