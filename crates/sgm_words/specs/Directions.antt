-- The words for directions.
use Rattle.std.specs.Prelude.{ℕ, List, Bool, codes, Option, find}
use Rattle.std.specs.Str.{bytes_eq}
use Rattle.sgm_energy.specs.Dirs.{directions}
use Rattle.sgm_energy.specs.declared.dir.Dir.{Dir}
use Rattle.sgm_energy.specs.declared.dir.Dir.TheVariants.{Right, Left, Down, DownRight, DownLeft}
use Rattle.sgm_energy.specs.declared.dir.Dir.TheVariants.{Up, UpRight, UpLeft}

-- a direction's word
abbrev pub direction_word : Dir → List ℕ
direction_word Right = codes "right"
direction_word Left = codes "left"
direction_word Down = codes "down"
direction_word DownRight = codes "downright"
direction_word DownLeft = codes "downleft"
direction_word Up = codes "up"
direction_word UpRight = codes "upright"
direction_word UpLeft = codes "upleft"

-- this is the direction's word
abbrev pub is_direction : List ℕ → Dir → Bool
is_direction text dir = bytes_eq (direction_word dir) text

-- the direction of this word
unfoldable pub direction_of : List ℕ → Option Dir
direction_of text = find (is_direction text) directions
