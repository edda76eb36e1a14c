use Rattle.std.proofs.Common.{◌≡◌, ℕ, length, Some}
use Rattle.std.specs.Prelude.{slice_get}
use Rattle.sgm_energy.specs.declared.dir.Dir.{Dir}
use Rattle.sgm_energy.specs.Dirs.{front_of}
use Rattle.sgm_strip.specs.Fronts.{FrontParts}
use Rattle.sgm_board.specs.Ready.{IsNewFront}
use Rattle.sgm_work.proofs.parcels.fronts.Given as goal

-- the fronts before this one are made
abbrev pub invariant-loop-place : goal.invariant-loop-place
invariant-loop-place l = record {
  six : length l.fronts.items ≡ l.place;
  new : (dir : Dir) (place : ℕ) (front : FrontParts) → front_of dir ≡ Some place → slice_get l.fronts.items place ≡ Some front → IsNewFront l.scene l.cut dir front;
}
