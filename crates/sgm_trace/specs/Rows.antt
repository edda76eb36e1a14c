-- The least energies at the pixels of a ray, one after the other.
use Rattle.std.specs.Prelude.{ℕ, ◌+◌, ◌*◌, ◌<◌, ◌≤◌, List, length, map, take, slice_index}
use Rattle.sgm_base.specs.declared.limits.TheConstants.{MAX_COST, MAX_SIDE}
use Rattle.sgm_energy.specs.Rays.{Pixel, pixel_at, Problem}
use Rattle.sgm_energy.specs.Energies.{below, least_ending}
use Rattle.sgm_trace.specs.declared.place.Place.{Place}

abbrev pub pixel_of : Place → Pixel
pixel_of place = pixel_at place.x place.y

-- the least energies along ps of the sequences that end in each index
abbrev pub energies_of : Problem → List Pixel → List ℕ
energies_of g ps = map (least_ending g ps) (below g.count)

-- those along the first pixels of ps, up to each of the first n
abbrev pub first_energies : Problem → List Pixel → ℕ → List (List ℕ)
first_energies g ps n = map (λ k. energies_of g (take (k + 1) ps)) (below n)

-- a is the first of the indices below n at which f is least
pub record IsFirstLeast (f : ℕ → ℕ) (n a : ℕ) : Type 0 where
  pub inside : a < n
  pub low : (b : ℕ) → b < n → f a ≤ f b
  pub first : (b : ℕ) → b < a → f a < f b

-- no energy of a ray is greater: the same index everywhere costs no more
abbrev pub AreSmall : List ℕ → Type 0
AreSmall energies = (d : ℕ) → d < length energies → slice_index energies d ≤ MAX_COST * MAX_SIDE
