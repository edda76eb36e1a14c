use Rattle.std.proofs.Common.{◌≡◌, ℕ, ◌+◌, ◌<◌, ◌≤◌, slice_index}
use Rattle.sgm_energy.specs.Energies.{change}
use Rattle.sgm_trace.proofs.steps.index_before.Given as goal

abbrev pub invariant-loop-a : goal.invariant-loop-a
invariant-loop-a l =
    record {
      before : l.best < l.a;
      is : l.least ≡ slice_index l.energies l.best + change l.near l.far l.best l.d;
      low : (k : ℕ) → k < l.a → l.least ≤ slice_index l.energies k + change l.near l.far k l.d;
      first : (k : ℕ) → k < l.best → l.least < slice_index l.energies k + change l.near l.far k l.d;
    }
