-- Rectified images.
use Rattle.std.specs.Prelude.{ℕ, ◌*◌, ◌/◌, ◌%◌, map, Option}
use Rattle.std.specs.List.{range_with_len}
use Rattle.sgm_base.specs.Picture.{Picture}
use Rattle.sgm_base.specs.Sides.{Sides}
use Rattle.sgm_base.specs.Values.{Values, values_of}
use Rattle.sgm_rectify.specs.declared.warp.Warp.{Warp}
use Rattle.sgm_rectify.specs.Bilinear.{bilinear}
use Rattle.sgm_rectify.specs.Places.{place_of}

-- the sides of an image
abbrev pub sides_of : Picture → Sides
sides_of image = record { width = image.width; height = image.height }

-- the value of the pixel (x, y) of the rectified image: that of the source at the pixel's place
unfoldable pub rectified : Picture → Warp → ℕ → ℕ → Option ℕ
rectified image warp x y = let place = place_of warp x y in bilinear image place.0 place.1

-- the rectified image, which has the sides of the source, row by row
unfoldable pub rectified_values : Picture → Warp → Values
rectified_values image warp =
    values_of image.width image.height
    (map (λ k. rectified image warp (k % image.width) (k / image.width))
    (range_with_len 0 (image.width * image.height)))
