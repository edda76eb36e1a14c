use Rattle.std.proofs.Common.{◌≡◌, ◌≤◌, All}
use Rattle.sgm_stages.specs.Pair.{pair_sample}
use Rattle.sgm_stages.proofs.PairLaws.{first_pixels}
use Rattle.sgm_stages.proofs.generated.samples.Given as goal

abbrev pub invariant-loop-i : goal.invariant-loop-i
invariant-loop-i l = record {
  samples : l.samples.items ≡ first_pixels l.width (pair_sample l.number l.side) l.i;
  bytes : All (λ s. s ≤ 255) l.samples.items;
}
