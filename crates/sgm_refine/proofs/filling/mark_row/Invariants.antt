use Rattle.std.proofs.Common.{◌≡◌, ℕ, ◌<◌, true, false, Some, slice_index_or}
use Rattle.sgm_refine.specs.Met.{matched_column}
use Rattle.sgm_refine.proofs.filling.mark_row.Given as goal

-- those columns are marked that the matches before this one give
abbrev pub invariant-loop-q : goal.invariant-loop-q
invariant-loop-q l = record {
  given : (x : ℕ) → x < l.matched.width → slice_index_or l.into x false ≡ true → (q : ℕ) × (q < l.q) × (matched_column l.matched.width l.fn.span.first l.values q ≡ Some x);
  marked : (x q : ℕ) → q < l.q → matched_column l.matched.width l.fn.span.first l.values q ≡ Some x → slice_index_or l.into x false ≡ true;
}
