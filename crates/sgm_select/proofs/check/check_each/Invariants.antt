use Rattle.std.proofs.Common.{◌≡◌, ℕ, ◌<◌, Some, slice_get}
use Rattle.sgm_select.specs.Rows.{checked_in}
use Rattle.sgm_select.proofs.check.check_each.Given as goal

abbrev pub invariant-loop-x : goal.invariant-loop-x
invariant-loop-x l = (x : ℕ) → x < l.x → slice_get l.into x ≡ Some (checked_in l.row.sums.now l.row.span.count l.row.base.now l.row.matched.now l.row.left.now l.row.right.now l.row.span.first x)
