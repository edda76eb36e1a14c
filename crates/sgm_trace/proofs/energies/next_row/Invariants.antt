use Rattle.std.proofs.Common.{◌≡◌, List, [], ◌∷◌, ◌++◌, map}
use Rattle.sgm_energy.specs.Energies.{below, least_ending}
use Rattle.sgm_energy.specs.Rays.{Pixel}
use Rattle.sgm_strip.specs.Scenes.{problem_of}
use Rattle.sgm_trace.specs.Rows.{energies_of, pixel_of}
use Rattle.sgm_trace.proofs.energies.next_row.Given as goal

abbrev pub invariant-loop-d : goal.invariant-loop-d
invariant-loop-d l =
    (ps : List Pixel) → l.before ≡ energies_of (problem_of l.scene) (ps ++ pixel_of l.fn.from ∷ [])
    → l.row.items ≡ map (least_ending (problem_of l.scene) ((ps ++ pixel_of l.fn.from ∷ []) ++ pixel_of l.here ∷ [])) (below l.d)
