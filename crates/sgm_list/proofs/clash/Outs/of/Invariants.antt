use Rattle.std.proofs.Common.{take}
use Rattle.sgm_list.specs.Reading.{AreFirsts}
use Rattle.sgm_list.proofs.clash.Outs.of.Given as goal

abbrev pub invariant-loop-place : goal.invariant-loop-place
invariant-loop-place l = AreFirsts l.firsts (take l.place l.entries)
