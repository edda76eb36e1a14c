use Rattle.std.proofs.Common.{◌≡◌, ◌-◌, length}
use Rattle.std.specs.Prelude.{find}
use Rattle.std.specs.List.{range_with_len}
use Rattle.sgm_list.specs.Clashes.{clashes, first_clash}
use Rattle.sgm_list.proofs.clash.first_clash.Given as goal

abbrev pub invariant-loop-place : goal.invariant-loop-place
invariant-loop-place l = find (clashes l.list l.entries) (range_with_len l.place (length l.entries - l.place)) ≡ first_clash l.list l.entries
