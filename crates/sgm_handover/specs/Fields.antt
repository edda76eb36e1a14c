-- The hand-over state that stands in some lists.
use Rattle.std.specs.Prelude.{ℕ, List, Option, None, slice_index_or}
use Rattle.std.specs.Option.{option_map_or}
use Rattle.sgm_energy.specs.declared.dir.Dir.{Dir}
use Rattle.sgm_energy.specs.Dirs.{front_of}
use Rattle.sgm_handover.specs.Handover.{Handover}

-- what a list has at the number of a direction's front
abbrev pub at_front : {A : Type 0} → List A → A → Dir → A
at_front xs none dir = option_map_or (λ front. slice_index_or xs front none) (front_of dir) none

-- by front how many strips it has passed and who has it, by strip who holds it
abbrev pub handover : ℕ → List ℕ → List (Option ℕ) → List (Option ℕ) → Handover
handover strips passed away holders =
    record {
      strips = strips;
      passed = at_front passed 0;
      away = at_front away None;
      holder = λ strip. slice_index_or holders strip None;
    }
