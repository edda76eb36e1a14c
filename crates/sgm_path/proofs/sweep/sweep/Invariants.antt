use Rattle.std.proofs.Common.{IsTrue, nat_eq}
use Rattle.std.specs.Prelude.{not}
use Rattle.sgm_path.specs.Paths.{terms_of}
use Rattle.sgm_path.proofs.Sweeps.{Added, Swept}
use Rattle.sgm_path.proofs.sweep.sweep.Given as goal

abbrev pub invariant-loop-i : goal.invariant-loop-i
invariant-loop-i g l =
    record {
      values : Swept (terms_of l.row) l.i l.fn.values l.values;
      sums : IsTrue (not (nat_eq g.row.ADD 0)) → Added (terms_of l.row) l.i l.fn.sums l.sums l.values;
    }
