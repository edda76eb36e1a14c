use Rattle.std.proofs.Common.{◌≡◌, ℕ, ◌<◌, ◌≤◌, ◌&&◌, false, get_or}
use Rattle.sgm_census.proofs.pack.keep.Given as goal

abbrev pub invariant-loop-k : goal.invariant-loop-k
invariant-loop-k l =
    record {
      done : (j : ℕ) → j < l.k → get_or l.present j false ≡ (get_or l.fn.present j false && get_or l.there j false);
      left : (j : ℕ) → l.k ≤ j → get_or l.present j false ≡ get_or l.fn.present j false;
    }
