use Rattle.std.proofs.Common.{◌≡◌, ℕ, length, Some}
use Rattle.std.specs.Prelude.{slice_get}
use Rattle.sgm_energy.specs.declared.dir.Dir.{Dir}
use Rattle.sgm_energy.specs.Dirs.{dir_of_front}
use Rattle.sgm_strip.specs.Fronts.{FrontParts}
use Rattle.sgm_board.specs.Ready.{IsNewFront}
use Rattle.sgm_board_tests.proofs.tests.making.fronts_of.Given as goal

abbrev pub invariant-loop-number : goal.invariant-loop-number
invariant-loop-number l = record {
  all : length l.fronts.items ≡ l.number;
  each : (place : ℕ) (front : FrontParts) → slice_get l.fronts.items place ≡ Some front → (dir : Dir) × (dir_of_front place ≡ Some dir) × IsNewFront l.scene l.cut dir front;
}
