use Rattle.std.proofs.Common.{◌-◌, length}
use Rattle.sgm_refine.proofs.Floods.{IsVisiting}
use Rattle.sgm_refine.proofs.segments.flood.Given as goal

abbrev pub invariant-loop-next : goal.invariant-loop-next
invariant-loop-next l = IsVisiting l.pixels.width l.pixels.entries.now l.from l.fn.seen l.seen l.segment.items l.next

abbrev pub decreases-loop-next : goal.decreases-loop-next
decreases-loop-next l = length l.pixels.entries.now - l.next
