-- Sequences of indices along a ray, their energies, and the values of paths.
use Rattle.std.specs.Prelude.{ℕ, ◌+◌, ◌-◌, ◌<◌, ◌≤◌, min, Bool, false, ◌||◌, ◌==◌, List, [], ◌∷◌}
use Rattle.std.specs.Prelude.{◌++◌, length, map, filter, sum_by, zero, suc, if◌then◌else◌}
use Rattle.std.specs.Prelude.{unwrap_or}
use Rattle.std.specs.List.{flat_map, range_with_len, reduce}
use Rattle.sgm_energy.specs.declared.dir.Dir.{Dir}
use Rattle.sgm_energy.specs.Dirs.{directions}
use Rattle.sgm_energy.specs.Rays.{Pixel, Problem, IsInside, ray, before}

-- the numbers below n
abbrev pub below : ℕ → List ℕ
below n = range_with_len 0 n

-- the least of some numbers, and 0 of none
unfoldable pub least : List ℕ → ℕ
least xs = unwrap_or (reduce min xs) 0

-- all lists of n numbers below count
unfoldable pub sequences : ℕ → ℕ → List (List ℕ)
sequences count zero = [] ∷ []
sequences count (suc n) = flat_map (λ s. map (λ d. s ++ d ∷ []) (below count)) (sequences count n)

-- whether a list has d as its last number
unfoldable pub ends_in : ℕ → List ℕ → Bool
ends_in d [] = false
ends_in d (a ∷ []) = a == d
ends_in d (a ∷ b ∷ s) = ends_in d (b ∷ s)

-- the penalty of a change from the index a to b: none, p1 for a change by one, far for one by more
abbrev pub change : ℕ → ℕ → ℕ → ℕ → ℕ
change p1 far a b = if a == b then 0 else if (a + 1 == b) || (b + 1 == a) then p1 else far

-- the penalty of a change from the index a at q to b at p
abbrev pub jump : Problem → Pixel → Pixel → ℕ → ℕ → ℕ
jump g q p a b = change g.p1 (g.far q p) a b

-- the costs of a sequence's indices, each at its pixel
unfoldable pub costs : Problem → List Pixel → List ℕ → ℕ
costs g (p ∷ ps) (a ∷ s) = g.cost p a + costs g ps s
costs g _ _ = 0

-- the penalties of its changes, each from one pixel to the next
unfoldable pub jumps : Problem → List Pixel → List ℕ → ℕ
jumps g (q ∷ p ∷ ps) (a ∷ b ∷ s) = jump g q p a b + jumps g (p ∷ ps) (b ∷ s)
jumps g _ _ = 0

-- the energy of a sequence that has an index for each pixel of a ray
abbrev pub energy : Problem → List Pixel → List ℕ → ℕ
energy g ps s = costs g ps s + jumps g ps s

-- the least energy of all sequences along a ray, which is 0 for the empty ray
unfoldable pub least_of_all : Problem → List Pixel → ℕ
least_of_all g ps = least (map (energy g ps) (sequences g.count (length ps)))

-- the least energy of those that end in d
unfoldable pub least_ending : Problem → List Pixel → ℕ → ℕ
least_ending g ps d = least (map (energy g ps) (filter (ends_in d) (sequences g.count (length ps))))

-- the value of the path that comes to p and ends in d: the least energy along the ray, less that of
-- the ray before p
unfoldable pub path_value : Problem → Dir → Pixel → ℕ → ℕ
path_value g dir p d = least_ending g (ray g dir p) d - least_of_all g (before g dir p)

-- the least of the path values of a pixel in a direction
abbrev pub least_value : Problem → Dir → Pixel → ℕ
least_value g dir p = least (map (path_value g dir p) (below g.count))

-- the sum of the path values over the directions that are done
unfoldable pub sum_done : (Dir → Bool) → Problem → Pixel → ℕ → ℕ
sum_done done g p d = sum_by (λ dir. if done dir then path_value g dir p d else 0) directions

-- the sum of the path values over all eight directions
unfoldable pub path_sum : Problem → Pixel → ℕ → ℕ
path_sum g p d = sum_by (λ dir. path_value g dir p d) directions

-- no cost in the image is above most, no penalty above top, and far is never below p1
pub record IsWithin (g : Problem) (most top : ℕ) : Type 0 where
  pub costs : (p : Pixel) (d : ℕ) → IsInside g p → d < g.count → g.cost p d ≤ most
  pub ordered : (q p : Pixel) → g.p1 ≤ g.far q p
  pub penalties : (q p : Pixel) → g.far q p ≤ top
