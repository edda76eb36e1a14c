use Rattle.std.proofs.Common.{◌≡◌, ◌≤◌, ◌*◌, map, take}
use Rattle.std.specs.List.{sum}
use Rattle.sgm_stages.specs.Texts.{sample_of}
use Rattle.sgm_stages.proofs.made.sample_sum.Given as goal

abbrev pub invariant-loop-entry : goal.invariant-loop-entry
invariant-loop-entry l = record {
  total : l.total ≡ sum (map sample_of (take l.entry-index l.entries));
  bound : l.total ≤ 65535 * l.entry-index;
}
