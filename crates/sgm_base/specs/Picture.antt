-- What contracts see of an image.
use Rattle.std.specs.Prelude.{◌≡◌, ℕ, ◌*◌, ◌≤◌, List, length, All}
use Rattle.sgm_base.specs.Sides.{IsSide}

-- an image: its sides, its greatest allowed sample, and its samples row by row
pub record Picture : Type 0 where
  pub width : ℕ
  pub height : ℕ
  pub maxval : ℕ
  pub samples : List ℕ

-- what every image keeps
pub record IsPicture (image : Picture) : Type 0 where
  pub width_in_range : IsSide image.width
  pub height_in_range : IsSide image.height
  pub full : length image.samples ≡ image.width * image.height
  pub maxval_in_range : 1 ≤ image.maxval
  pub below : All (λ s. s ≤ image.maxval) image.samples

-- the image with these sides, this maxval and these samples
abbrev pub picture : ℕ → ℕ → ℕ → List ℕ → Picture
picture width height maxval samples = record {
  width = width;
  height = height;
  maxval = maxval;
  samples = samples;
}
