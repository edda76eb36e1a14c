use Rattle.std.proofs.Common.{◌+◌, ◌-◌, ◌*◌, ◌≤ℤ◌, pos, unsigned_abs}
use Rattle.sgm_fine.specs.Finer.{ArePixelParts, fits, place_score}
use Rattle.sgm_fine.specs.Samples.{Centre}
use Rattle.sgm_fine.specs.Scores.{HoldsParts, HoldsWalk, divided}
use Rattle.sgm_fine.specs.Windows.{number}
use Rattle.sgm_fine.specs.declared.small.SmallWindow.{SmallWindow}
use Rattle.sgm_fine.proofs.PlaceTests.{IsBest, IsNear}
use Rattle.sgm_fine.proofs.finer.best.Given as goal

-- the places nearer than this one are tried
abbrev pub invariant-loop-n : goal.invariant-loop-n
invariant-loop-n l = record {
  some : pos 1 ≤ℤ l.n;
  few : l.n ≤ℤ pos 9;
  near : IsNear l.most l.m l.best.place;
  after : (w : SmallWindow) → HoldsParts l.parts w → HoldsWalk l.after (number w.left) (number w.here) (number w.after) (unsigned_abs l.n - 1);
  before : (w : SmallWindow) → HoldsParts l.parts w → HoldsWalk l.before (number w.left) (number w.here) (number w.before) (unsigned_abs l.n - 1);
  held : (p : Centre) → ArePixelParts l.parts p → IsBest (fits l.most l.m) (place_score p) (2 * (unsigned_abs l.n - 1) + 1) l.best.place (divided l.best.score);
}
