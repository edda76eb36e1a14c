use Rattle.std.proofs.Common.{◌≡◌}
use Rattle.std.specs.Prelude.{All}
use Rattle.sgm_strip.specs.Scenes.{row_length}
use Rattle.sgm_strip.specs.Parcels.{IsOf}
use Rattle.sgm_board_tests.proofs.tests.strips.handed_through.Given as goal

abbrev pub invariant-loop-number : goal.invariant-loop-number
invariant-loop-number l = record {
  spare : l.spare ≡ row_length l.scene;
  kind : All (IsOf l.scene l.cut) l.parcels.items;
}
