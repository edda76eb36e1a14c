use Rattle.std.proofs.Common.{◌≤◌, Contains, slice_index, below_more, subst, sym, arith}
use Rattle.std.proofs.lemmas.List.Elements.{All-from_get_or, Contains-get_or}
use Rattle.sgm_fine.proofs.Halvings.{Contains-max}
use Rattle.sgm_fine.proofs.small.greatest_of.Goals as goal

pub loop-k-preserved : goal.loop-k-preserved
loop-k-preserved c =
    let samples = c.args.samples.now in
    let k = c.loop-k.k in
    let found = c.max-greatest.ensures in
    record {
      few = omega arith;
      contained = subst (Contains samples) (sym found) (Contains-max samples c.loop-k.greatest (slice_index samples k) c.loop-k.invariant.contained (Contains-get_or samples k 0 (omega arith)));
      bound = below_more _ _ (λ j lt. omega (arith, found, c.loop-k.invariant.bound j lt)) (omega (arith, found));
    }

pub returns : goal.returns
returns c = record {
  contained = c.loop-k.invariant.contained;
  bound = All-from_get_or (λ v. v ≤ c.loop-k.greatest) c.args.samples.now 0 (λ k lt. c.loop-k.invariant.bound k (omega (arith, lt)));
}
