use Rattle.sgm_refine.proofs.Floods.{IsThrough}
use Rattle.sgm_refine.proofs.segments.kept_entries.Given as goal

abbrev pub invariant-loop-at : goal.invariant-loop-at
invariant-loop-at l = IsThrough l.pixels.width l.pixels.entries.now l.least l.seen.items l.kept.items l.at
