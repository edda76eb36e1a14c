use Rattle.std.proofs.Common.{◌≡◌, map, take}
use Rattle.sgm_stages.specs.Texts.{sample_of}
use Rattle.sgm_stages.proofs.made.samples.Given as goal

abbrev pub invariant-loop-entry : goal.invariant-loop-entry
invariant-loop-entry l = l.samples.items ≡ map sample_of (take l.entry-index l.entries)
