-- The text of a certificate: the least energy, and a line for each pixel of the ray.
use Rattle.std.specs.Prelude.{ℕ, List, [], ◌∷◌, ◌++◌, codes, decimal, flat_map, map}
use Rattle.std.specs.List.{join_with_byte}
use Rattle.sgm_text.specs.Texts.{line}
use Rattle.sgm_energy.specs.declared.dir.Dir.{Dir}
use Rattle.sgm_energy.specs.Rays.{Pixel, Problem, ray}
use Rattle.sgm_energy.specs.Energies.{least_ending}
use Rattle.sgm_trace.specs.declared.traced.Step.{Step}
use Rattle.sgm_trace.specs.Best.{best, steps_of}

-- a step: `X Y D COST JUMP`
abbrev pub step_text : Step → List ℕ
step_text step =
    line (join_with_byte 32 (map decimal (step.x ∷ step.y ∷ step.d ∷ step.cost ∷ step.jump ∷ [])))

-- `least E`, and the steps
abbrev pub traced_text : ℕ → List Step → List ℕ
traced_text energy steps = line (codes "least " ++ decimal energy) ++ flat_map step_text steps

-- the certificate of the index d at the pixel p in a direction
abbrev pub trace_text : Problem → Dir → Pixel → ℕ → List ℕ
trace_text g dir p d = let ps = ray g dir p in
    traced_text (least_ending g ps d) (steps_of g ps (best g ps d))
