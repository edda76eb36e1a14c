use Rattle.std.proofs.Common.{◌≡◌, ℕ, ◌+◌, drop}
use Rattle.std.specs.Prelude.{fold}
use Rattle.sgm_grid.specs.Binning.{HasRoom}
use Rattle.sgm_grid.specs.Placing.{spec_in, with_placed}
use Rattle.sgm_ground.proofs.placing.add_places.Given as goal

abbrev pub invariant-loop-at : goal.invariant-loop-at
invariant-loop-at l = record {
  value : fold with_placed l.bins (drop l.at l.places) ≡ fold with_placed l.fn.bins l.places;
  spec : spec_in l.bins ≡ spec_in l.fn.bins;
  room : (more : ℕ) → HasRoom l.fn.bins (more + l.at) → HasRoom l.bins more;
}
