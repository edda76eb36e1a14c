use Rattle.std.proofs.Common.{◌≡◌, ℕ, ◌-◌, length, List}
use Rattle.sgm_path.specs.Paths.{far_in, terms_of}
use Rattle.sgm_path.proofs.Pairs.{Trails}
use Rattle.sgm_path.proofs.Sweeps.{Added, Swept}
use Rattle.sgm_path.proofs.pair.sweep_two.Given as goal

abbrev pub invariant-loop-i : goal.invariant-loop-i
invariant-loop-i g l =
    record {
      mid : List ℕ;
      long : length mid ≡ length l.fn.values;
      first : Swept (terms_of l.first) l.i l.fn.values mid;
      sums : Added (terms_of l.first) l.i l.fn.sums l.sums mid;
      second : Trails (terms_of l.first) (terms_of l.second).penalties.p1 (far_in (terms_of l.second)) (terms_of l.second).costs (l.i - l.lag) l.fn.values mid l.values;
      more : Added (terms_of l.first) (l.i - l.lag) l.fn.more l.more l.values;
    }
