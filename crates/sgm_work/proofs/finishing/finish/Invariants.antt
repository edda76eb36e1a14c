use Rattle.std.proofs.Common.{◌≡◌, ℕ, ◌<◌, ◌≤◌, Some}
use Rattle.std.specs.Prelude.{slice_get, slice_index_or}
use Rattle.sgm_strip.specs.Cuts.{CutParts}
use Rattle.sgm_strip.specs.Scenes.{SceneParts}
use Rattle.sgm_strip.specs.Fronts.{FrontParts}
use Rattle.sgm_board.specs.Settled.{AreSettled}
use Rattle.sgm_work.specs.Finished.{GoesOnBy, HasVisitedAll}
use Rattle.sgm_work.proofs.finishing.finish.Given as goal

-- the fronts before this one have all visits, and the others are as they were
abbrev pub invariant-loop-front : goal.invariant-loop-front
invariant-loop-front l = record {
  spare : l.spare ≡ l.fn.spare;
  settled : (scene : SceneParts) (cut : CutParts) → AreSettled scene cut l.fn.parcels l.fn.fronts → AreSettled scene cut l.parcels l.fronts;
  visited : (scene : SceneParts) (cut : CutParts) → AreSettled scene cut l.fn.parcels l.fn.fronts → (k : ℕ) (front : FrontParts) → k < l.front-index → slice_get l.fronts k ≡ Some front → HasVisitedAll cut front;
  goes_on : (k : ℕ) (d : FrontParts) → k < l.front-index → GoesOnBy 16 (slice_index_or l.fn.fronts k d) (slice_index_or l.fronts k d);
  rest : (k : ℕ) (d : FrontParts) → l.front-index ≤ k → slice_index_or l.fronts k d ≡ slice_index_or l.fn.fronts k d;
}
