use Rattle.std.proofs.Common.{◌≡◌}
use Rattle.std.specs.Prelude.{All}
use Rattle.sgm_strip.specs.Parcels.{IsOf}
use Rattle.sgm_board_tests.proofs.tests.strips.hand_through.Given as goal

abbrev pub invariant-loop-k : goal.invariant-loop-k
invariant-loop-k l =
    record {
      scene : l.front.scene ≡ l.fn.front.scene;
      cut : l.front.cut ≡ l.fn.front.cut;
      spare : l.spare ≡ l.fn.spare;
      kind : All (IsOf l.fn.front.scene l.fn.front.cut) l.parcels.items;
    }
