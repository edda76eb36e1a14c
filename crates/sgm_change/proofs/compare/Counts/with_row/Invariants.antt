use Rattle.std.proofs.Common.{◌≡◌, ℕ, ◌+◌, ◌-◌, ◌++◌, List, length, take, ℤ, Option}
use Rattle.std.specs.List.{zip}
use Rattle.sgm_change.specs.Counts.{HasRoom, counts_of}
use Rattle.sgm_change.proofs.compare.Counts.with_row.Given as goal

abbrev pub invariant-loop-before : goal.invariant-loop-before
invariant-loop-before l = record {
  value : (cells : List (Option ℤ × Option ℤ)) → l.fn.self ≡ counts_of cells
      → l.counts ≡ counts_of (cells ++ zip (take (length l.yielded) l.earlier) (take (length l.yielded) l.later));
  room : (left : ℕ) → HasRoom l.fn.self (left + length l.earlier) → HasRoom l.counts (left + (length l.earlier - length l.yielded));
}
