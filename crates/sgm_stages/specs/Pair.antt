-- The pair of images that is generated from a number.
use Rattle.std.specs.Prelude.{ℕ, ◌+◌, ◌-◌, ◌*◌, ◌/◌, ◌%◌, ◌^◌, ◌&&◌, nat_le, nat_lt, if◌then◌else◌}
use Rattle.std.specs.Prelude.{bit_xor}
use Rattle.sgm_base.specs.Picture.{Picture, picture}
use Rattle.sgm_base.specs.Values.{row_by_row}
use Rattle.sgm_base.specs.declared.side.Side.{Side}
use Rattle.sgm_base.specs.declared.side.Side.TheVariants.{Left, Right}

-- a number below 256 for a place, which looks like chance
abbrev pub grey : ℕ → ℕ → ℕ → ℕ
grey number x y =
    let first = ((number + 1) * 2654435761 + 40503 * x + 69069 * y) % 2 ^ 32 in
    let second = bit_xor first (first / 32768) in
    ((1664525 * second + 1013904223) % 2 ^ 32) / 16777216

-- how far a pixel of the left image stands to the right of its match: a square in front of a ground
-- of four bands
abbrev pub shift : ℕ → ℕ → ℕ
shift x y = if (nat_le 96 x && nat_lt x 160)
    && (nat_le 64 y && nat_lt y 128) then 28 else 8 + 4 * ((y / 48) % 4)

-- the sample of a side at a pixel
unfoldable pub pair_sample : ℕ → Side → ℕ → ℕ → ℕ
pair_sample number Left x y = grey number (x + 64 - shift x y) y
pair_sample number Right x y = grey number (x + 64) y

-- the image of a side
unfoldable pub pair_image : ℕ → Side → ℕ → ℕ → Picture
pair_image number side width height =
    picture width height 255 (row_by_row width height (pair_sample number side))
