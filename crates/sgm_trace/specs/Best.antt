-- Which sequence of indices is shown for a pixel, a direction and an index: of those along the ray
-- that end in the index and have the least energy, the one that comes first when they are compared
-- from their ends backwards.
use Rattle.std.specs.Prelude.{ℕ, Bool, ◌==◌, List, [], ◌∷◌, length, filter, reverse, unwrap_or}
use Rattle.std.specs.List.{find, list_all}
use Rattle.std.specs.Cmp.Lexicographic.{slice_cmp}
use Rattle.std.specs.Ordering.{is_le, nat_cmp}
use Rattle.sgm_energy.specs.Rays.{Pixel, Problem}
use Rattle.sgm_energy.specs.Energies.{sequences, ends_in, energy, jump, least_ending}
use Rattle.sgm_trace.specs.declared.traced.Step.{Step}

-- the sequences along the ray ps that end in d and have the least energy of all that do
unfoldable pub attaining : Problem → List Pixel → ℕ → List (List ℕ)
attaining g ps d =
    filter (λ s. energy g ps s == least_ending g ps d)
    (filter (ends_in d) (sequences g.count (length ps)))

-- whether s is t or comes before it, entry by entry from their ends backwards
abbrev pub not_after : List ℕ → List ℕ → Bool
not_after s t = is_le (slice_cmp nat_cmp (reverse s) (reverse t))

-- the first of them
unfoldable pub best : Problem → List Pixel → ℕ → List ℕ
best g ps d = let among = attaining g ps d in
    unwrap_or (find (λ s. list_all (not_after s) among) among) []

-- the step that comes to the pixel p with the index b, from q with the index a
abbrev pub step_between : Problem → Pixel → Pixel → ℕ → ℕ → Step
step_between g q p a b = record {
  x = p.x;
  y = p.y;
  d = b;
  cost = g.cost p b;
  jump = jump g q p a b;
}

-- the first step: before the first pixel there is no change
abbrev pub first_step : Problem → Pixel → ℕ → Step
first_step g p b = record { x = p.x; y = p.y; d = b; cost = g.cost p b; jump = 0 }

-- the steps of a sequence, of those pixels that come after q with the index a
unfoldable pub steps_after : Problem → Pixel → ℕ → List Pixel → List ℕ → List Step
steps_after g q a (p ∷ ps) (b ∷ s) = step_between g q p a b ∷ steps_after g p b ps s
steps_after g q a _ _ = []

-- the steps of a sequence
unfoldable pub steps_of : Problem → List Pixel → List ℕ → List Step
steps_of g (p ∷ ps) (b ∷ s) = first_step g p b ∷ steps_after g p b ps s
steps_of g _ _ = []
