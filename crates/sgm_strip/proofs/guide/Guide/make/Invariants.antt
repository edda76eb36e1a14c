use Rattle.std.proofs.Common.{◌≡◌, ◌*◌, ◌/◌, map, option_map, take}
use Rattle.sgm_strip.proofs.guide.Guide.make.Given as goal

abbrev pub invariant-loop-entry : goal.invariant-loop-entry
invariant-loop-entry l = l.entries.items ≡ map (option_map (λ v. 255 * v / l.maxval)) (take l.entry-index l.entry-items)
