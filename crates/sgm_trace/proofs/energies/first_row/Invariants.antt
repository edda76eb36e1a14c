use Rattle.std.proofs.Common.{◌≡◌, [], ◌∷◌, map}
use Rattle.sgm_energy.specs.Energies.{below, least_ending}
use Rattle.sgm_strip.specs.Scenes.{problem_of}
use Rattle.sgm_trace.specs.Rows.{pixel_of}
use Rattle.sgm_trace.proofs.energies.first_row.Given as goal

abbrev pub invariant-loop-d : goal.invariant-loop-d
invariant-loop-d l = l.row.items ≡ map (least_ending (problem_of l.scene) (pixel_of l.first ∷ [])) (below l.d)
