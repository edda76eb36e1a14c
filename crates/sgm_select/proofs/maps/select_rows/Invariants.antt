use Rattle.std.proofs.Common.{◌≡◌, length}
use Rattle.sgm_strip.specs.Cuts.{first_row}
use Rattle.sgm_strip.specs.Scenes.{problem_of}
use Rattle.sgm_select.specs.Strips.{HoldsFrom}
use Rattle.sgm_select.proofs.maps.select_rows.Given as goal

-- the rows before this one are written
abbrev pub invariant-loop-place : goal.invariant-loop-place
invariant-loop-place l = record {
  done : HoldsFrom (problem_of l.parcel.scene) l.planes.left.now l.planes.right.now l.parcel.scene.span.first (first_row l.parcel.cut l.parcel.strip) l.place l.into;
  wide : length l.indices.bases.items ≡ l.planes.left.now.width;
}
