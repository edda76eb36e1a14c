use Rattle.sgm_strip.specs.Cuts.{first_row}
use Rattle.sgm_strip.specs.Scenes.{problem_of}
use Rattle.sgm_select.specs.Strips.{HoldsMatchesFrom}
use Rattle.sgm_select.proofs.matching.match_rows.Given as goal

-- the rows before this one are written
abbrev pub invariant-loop-place : goal.invariant-loop-place
invariant-loop-place l =
    HoldsMatchesFrom (problem_of l.parcel.scene) l.parcel.scene.span.first (first_row l.parcel.cut l.parcel.strip) l.place l.into
