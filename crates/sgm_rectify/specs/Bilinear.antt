-- The bilinear value of an image at a place (u, v), in 1/256 of a pixel.
use Rattle.std.specs.Prelude.{ℕ, ◌+◌, ◌-◌, ◌*◌, ◌/◌, ◌==◌, ◌&&◌, nat_lt, if◌then◌else◌, ℤ, pos}
use Rattle.std.specs.Prelude.{◌+ℤ◌, unsigned_abs, List, [], ◌∷◌, slice_index, Option, Some, None}
use Rattle.std.specs.Prelude.{option_map}
use Rattle.std.specs.Int.{int_div_euclid, int_rem_euclid}
use Rattle.sgm_base.specs.Picture.{Picture}

-- floor(u / 256): the column or row at or before u
abbrev pub whole : ℤ → ℤ
whole u = int_div_euclid u (pos 256)

-- u - 256 floor(u / 256): how far u lies behind it, in 1/256
abbrev pub fraction : ℤ → ℕ
fraction u = unsigned_abs (int_rem_euclid u (pos 256))

-- the sample in the column i and the row j, none outside the image
abbrev pub sample_at : Picture → ℤ → ℤ → Option ℕ
sample_at image (pos i) (pos j) =
    if nat_lt i image.width
    && nat_lt j image.height then Some (slice_index image.samples (j * image.width + i))
    else None
sample_at image _ _ = None

-- a weight times a sample: none where a sample of non-zero weight is missing
abbrev pub weighted : ℕ → Option ℕ → Option ℕ
weighted weight sample = if weight == 0 then Some 0 else option_map (λ s. weight * s) sample

-- the sum of these numbers, none where one is missing
abbrev pub total : List (Option ℕ) → Option ℕ
total [] = Some 0
total (None ∷ rest) = None
total (Some n ∷ rest) = option_map (λ m. n + m) (total rest)

-- The mean of the four samples round a place, by their weights, rounded to the nearest whole
-- number, halves upwards. The place lies right and down behind the column i and the row j, in
-- 1/256. None where a neighbour of non-zero weight lies outside the image.
unfoldable pub mean_at : Picture → ℤ → ℤ → ℕ → ℕ → Option ℕ
mean_at image i j right down =
    option_map (λ sum. (sum + 32768) / 65536)
    (total (
    weighted ((256 - right) * (256 - down)) (sample_at image i j)
    ∷ weighted (right * (256 - down)) (sample_at image (i +ℤ pos 1) j)
    ∷ weighted ((256 - right) * down) (sample_at image i (j +ℤ pos 1))
    ∷ weighted (right * down) (sample_at image (i +ℤ pos 1) (j +ℤ pos 1))
    ∷ []))

-- the bilinear value at the place (u, v)
unfoldable pub bilinear : Picture → ℤ → ℤ → Option ℕ
bilinear image u v = mean_at image (whole u) (whole v) (fraction u) (fraction v)
