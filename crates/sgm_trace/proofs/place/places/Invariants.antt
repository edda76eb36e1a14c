use Rattle.std.proofs.Common.{◌≡◌, ◌+◌, ◌≤◌, ◌++◌, All, length, map, reverse}
use Rattle.sgm_energy.specs.Rays.{IsInside, before, ray}
use Rattle.sgm_energy.proofs.RayLemmas.{room}
use Rattle.sgm_strip.specs.Scenes.{problem_of}
use Rattle.sgm_trace.specs.Rows.{pixel_of}
use Rattle.sgm_trace.proofs.place.places.Given as goal

abbrev pub invariant-loop-before : goal.invariant-loop-before
invariant-loop-before l =
    record {
      here : IsInside (problem_of l.scene) (pixel_of l.here);
      some : 1 ≤ length l.places.items;
      short : length l.places.items + room (problem_of l.scene) l.dir (pixel_of l.here) ≤ 1 + room (problem_of l.scene) l.dir (pixel_of l.fn.last);
      inside : All (λ p. IsInside (problem_of l.scene) (pixel_of p)) l.places.items;
      ray : before (problem_of l.scene) l.dir (pixel_of l.here) ++ reverse (map pixel_of l.places.items) ≡ ray (problem_of l.scene) l.dir (pixel_of l.fn.last);
    }

abbrev pub decreases-loop-before : goal.decreases-loop-before
decreases-loop-before l = room (problem_of l.scene) l.dir (pixel_of l.here)
