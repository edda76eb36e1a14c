-- Samples as bytes.
use Rattle.std.specs.Prelude.{ℕ, ◌*◌, ◌/◌, ◌%◌, ◌≤◌, List, [], ◌∷◌, flat_map, nat_lt, if◌then◌else◌}
use Rattle.sgm_pgm.specs.declared.limits.TheConstants.{MAX_MAXVAL}

-- a greatest allowed sample
abbrev pub IsMaxval : ℕ → Type 0
IsMaxval maxval = (1 ≤ maxval) × (maxval ≤ MAX_MAXVAL)

-- two bytes, the most significant first
abbrev pub two_bytes : ℕ → List ℕ
two_bytes sample = sample / 256 ∷ sample % 256 ∷ []

-- a sample's bytes: one where maxval is below 256, otherwise two
abbrev pub sample_bytes : ℕ → ℕ → List ℕ
sample_bytes maxval sample = if nat_lt maxval 256 then sample ∷ [] else two_bytes sample

-- the samples one after the other
abbrev pub raster_of : ℕ → List ℕ → List ℕ
raster_of maxval samples = flat_map (sample_bytes maxval) samples

-- the number of bytes of an image's samples
abbrev pub raster_size : ℕ → ℕ → ℕ → ℕ
raster_size width height maxval = width * height * (if nat_lt maxval 256 then 1 else 2)
