use Rattle.std.proofs.Common.{◌≡◌, length}
use Rattle.sgm_strip.specs.Fronts.{IsFront}
use Rattle.sgm_strip.specs.Strips.{AreStrips}
use Rattle.sgm_work.specs.Finished.{GoesOnBy}
use Rattle.sgm_work.specs.Left.{IsDoneFirst, KeepsOthers}
use Rattle.sgm_work.proofs.finishing.finish_front.Given as goal

-- the front has visited the strips at the positions before this one
abbrev pub invariant-loop-position : goal.invariant-loop-position
invariant-loop-position l = record {
  strips : AreStrips l.fn.front.scene l.fn.front.cut l.parcels;
  scene : l.front.scene ≡ l.fn.front.scene;
  cut : l.front.cut ≡ l.fn.front.cut;
  dir : l.front.dir ≡ l.fn.front.dir;
  kept : IsFront l.front;
  visits : length l.front.visits ≡ l.position;
  spare : l.spare ≡ l.fn.spare;
  done : IsDoneFirst l.fn.front.dir l.fn.front.cut.strips l.position l.parcels;
  others : KeepsOthers l.fn.front.dir l.fn.parcels l.parcels;
  goes_on : GoesOnBy 16 l.fn.front l.front;
}
