use Rattle.std.proofs.Common.{◌≡◌, ◌*◌, take, map}
use Rattle.sgm_base.specs.Values.{Values}
use Rattle.sgm_strip.specs.Cuts.{CutParts, first_row}
use Rattle.sgm_select.specs.Strips.{AreRowsOf}
use Rattle.sgm_select.proofs.maps.joined.Given as goal

-- the rows of the strips before this one are there
abbrev pub invariant-loop-rows : goal.invariant-loop-rows
invariant-loop-rows l =
    (whole : Values) (cut : CutParts) → AreRowsOf whole cut (map (λ v. v.items) l.strips) → l.entries.items ≡ take (first_row cut l.rows-index * whole.width) whole.entries
