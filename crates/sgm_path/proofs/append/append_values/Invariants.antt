use Rattle.std.proofs.Common.{◌≤◌, length}
use Rattle.sgm_path.specs.Paths.{terms_of}
use Rattle.sgm_path.proofs.Appending.{Turned}
use Rattle.sgm_path.proofs.append.append_values.Given as goal

abbrev pub invariant-loop-x : goal.invariant-loop-x
invariant-loop-x g l =
    record {
      inside : l.x ≤ length l.row.guide.now;
      made : Turned (terms_of l.row) l.x l.fn.into.items l.into.items l.even l.odd;
    }
