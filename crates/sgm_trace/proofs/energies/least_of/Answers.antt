use Rattle.std.proofs.Common.{slice_index, inl, inr, arith, below_more}
use Rattle.std.proofs.lemmas.Bool.{cases_lt}
use Rattle.sgm_trace.proofs.energies.least_of.Goals as goal

pub loop-d-preserved : goal.loop-d-preserved
loop-d-preserved c =
    record {
      low = below_more _ _ (λ k h. omega (arith, c.loop-d.invariant.low k h, c.min-least.ensures)) (omega (arith, c.min-least.ensures));
      some = elim (cases_lt (slice_index c.args.energies.now c.loop-d.d) c.loop-d.least) [
        | inl h ↦ (c.loop-d.d, omega arith, omega (arith, c.min-least.ensures))
        | inr h ↦ (let w = c.loop-d.invariant.some in (w.0, w.1, omega (arith, w.2, c.min-least.ensures)))
      ];
    }
