-- The definitions, computed on small problems. The path values are found by trying every sequence.
use Rattle.std.proofs.Common.{◌≡◌, ℕ, true, false, Option, Some, None, [], ◌∷◌, ◌*◌, ◌+◌, map, refl, slice_index}
use Rattle.sgm_energy.specs.declared.dir.Dir.TheVariants.{Right, DownRight}
use Rattle.sgm_base.specs.Values.{Values, values_of}
use Rattle.sgm_energy.specs.Pens.{Penalties, far_of, guide_of}
use Rattle.sgm_energy.specs.Rays.{pixel_at, Problem, guided_problem, ray_within, ray, before}
use Rattle.sgm_energy.specs.Energies.{least, sequences, ends_in, costs, jumps, least_of_all, least_ending, path_value}

-- penalties that are the same everywhere, and such that follow the image
fixed : ℕ → ℕ → Penalties
fixed p1 p2 = record { p1 = p1; p2 = p2; adaptive = false }

adaptive : ℕ → ℕ → Penalties
adaptive p1 p2 = record { p1 = p1; p2 = p2; adaptive = true }

fars : map (λ (pair : Option ℕ × Option ℕ). far_of (adaptive 10 120) pair.0 pair.1) ((Some 100, Some 100) ∷ (Some 100, Some 103) ∷ (Some 100, Some 120) ∷ (None, Some 5) ∷ []) ≡ 120 ∷ 40 ∷ 10 ∷ 120 ∷ []
unfolding adaptive
fars = refl

-- grey values of a plane whose values go up to 1000
guide : (guide_of (values_of 4 1 (Some 0 ∷ None ∷ Some 999 ∷ Some 1000 ∷ [])) 1000).entries ≡ Some 0 ∷ None ∷ Some 254 ∷ Some 255 ∷ []
guide = refl

-- nothing is known of the image
blank : Values
blank = values_of 0 0 []

-- three pixels in a row, with the costs (0, 5), (5, 0), (0, 5)
three : Problem
three = guided_problem 3 1 2 (λ p d. slice_index (0 ∷ 5 ∷ 5 ∷ 0 ∷ 0 ∷ 5 ∷ []) (p.x * 2 + d)) (fixed 1 3) blank

values_of_three : map (λ x. map (path_value three Right (pixel_at x 0)) (0 ∷ 1 ∷ [])) (0 ∷ 1 ∷ 2 ∷ []) ≡ (0 ∷ 5 ∷ []) ∷ (5 ∷ 1 ∷ []) ∷ (1 ∷ 5 ∷ []) ∷ []
unfolding three fixed blank path_value ray ray_within before least_ending least_of_all least sequences ends_in costs jumps
values_of_three = refl

-- in an image of 2 by 2 pixels, a ray downwards to the right begins at (0, 1), and comes to (1, 1) from (0, 0)
square : Problem
square = guided_problem 2 2 1 (λ _ _. 0) (fixed 1 1) blank

diagonal_begins : ray square DownRight (pixel_at 0 1) ≡ pixel_at 0 1 ∷ []
unfolding square ray ray_within
diagonal_begins = refl

diagonal_follows : ray square DownRight (pixel_at 1 1) ≡ pixel_at 0 0 ∷ pixel_at 1 1 ∷ []
unfolding square ray ray_within
diagonal_follows = refl

-- two pixels in a row, with the costs (0, 9, 9), (9, 9, 0) and the grey values 10 and 13
two : Penalties → Problem
two penalties = guided_problem 2 1 3 (λ p d. slice_index (0 ∷ 9 ∷ 9 ∷ 9 ∷ 9 ∷ 0 ∷ []) (p.x * 3 + d)) penalties (values_of 2 1 (Some 10 ∷ Some 13 ∷ []))

far_is_six : map (path_value (two (fixed 1 6)) Right (pixel_at 1 0)) (0 ∷ 1 ∷ 2 ∷ []) ≡ 9 ∷ 10 ∷ 6 ∷ []
unfolding two fixed path_value ray ray_within before least_ending least_of_all least sequences ends_in costs jumps
far_is_six = refl

far_is_two : map (path_value (two (adaptive 1 6)) Right (pixel_at 1 0)) (0 ∷ 1 ∷ 2 ∷ []) ≡ 9 ∷ 10 ∷ 2 ∷ []
unfolding two adaptive path_value ray ray_within before least_ending least_of_all least sequences ends_in costs jumps
far_is_two = refl
