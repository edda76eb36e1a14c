use Rattle.std.proofs.Common.{◌≡◌, length, map}
use Rattle.std.specs.List.{range_with_len}
use Rattle.sgm_report.specs.Outlines.{centre_east, centre_north, edges, passes_east}
use Rattle.sgm_report.proofs.Marks.{odd_of}
use Rattle.sgm_report.proofs.outline.mark_enclosed.Given as goal

-- each mark is whether an odd number of the edges so far pass to the east of its cell's centre
abbrev pub invariant-loop-index : goal.invariant-loop-index
invariant-loop-index l =
    l.inside ≡ map
    (λ col. odd_of (passes_east (centre_east l.part.spec col) (centre_north l.part.spec l.part.row)) (edges l.corners) l.index)
    (range_with_len l.part.col (length l.fn.inside))
