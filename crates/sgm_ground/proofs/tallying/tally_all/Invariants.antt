use Rattle.std.proofs.Common.{◌≡◌, map, take}
use Rattle.sgm_report.specs.Tallies.{tally_of}
use Rattle.sgm_ground.proofs.tallying.tally_all.Given as goal

abbrev pub invariant-loop-region : goal.invariant-loop-region
invariant-loop-region l = l.tallies.items ≡ map (tally_of l.grid l.measured) (take l.region-index l.regions)
