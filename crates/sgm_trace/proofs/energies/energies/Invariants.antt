use Rattle.std.proofs.Common.{◌≡◌, map}
use Rattle.sgm_strip.specs.Scenes.{problem_of}
use Rattle.sgm_trace.specs.Rows.{first_energies, pixel_of}
use Rattle.sgm_trace.proofs.energies.energies.Given as goal

abbrev pub invariant-loop-k : goal.invariant-loop-k
invariant-loop-k l = map (λ row. row.items) l.rows.items ≡ first_energies (problem_of l.scene) (map pixel_of l.places) l.k
