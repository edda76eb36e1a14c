-- The eight directions in which rays run: steps, numbers, fronts and the order in which strips are
-- visited.
use Rattle.std.specs.Prelude.{ℕ, ◌-◌, Bool, true, false, List, [], ◌∷◌, Option, Some, None}
use Rattle.std.specs.Prelude.{slice_get, ℤ, pos, negsuc, if◌then◌else◌}
use Rattle.sgm_energy.specs.declared.dir.Dir.{Dir}
use Rattle.sgm_energy.specs.declared.dir.Dir.TheVariants.{Right, Left, Down, DownRight, DownLeft}
use Rattle.sgm_energy.specs.declared.dir.Dir.TheVariants.{Up, UpRight, UpLeft}

-- all directions, by their numbers 0 to 7
abbrev pub directions : List Dir
directions = Right ∷ Left ∷ Down ∷ DownRight ∷ DownLeft ∷ Up ∷ UpRight ∷ UpLeft ∷ []

abbrev pub number_of : Dir → ℕ
number_of Right = 0
number_of Left = 1
number_of Down = 2
number_of DownRight = 3
number_of DownLeft = 4
number_of Up = 5
number_of UpRight = 6
number_of UpLeft = 7

-- how far one step goes to the right and downwards
abbrev pub offset : Dir → ℤ × ℤ
offset Right = (pos 1, pos 0)
offset Left = (negsuc 0, pos 0)
offset Down = (pos 0, pos 1)
offset DownRight = (pos 1, pos 1)
offset DownLeft = (negsuc 0, pos 1)
offset Up = (pos 0, negsuc 0)
offset UpRight = (pos 1, negsuc 0)
offset UpLeft = (negsuc 0, negsuc 0)

-- whether a ray stays in its row
abbrev pub is_level : Dir → Bool
is_level Right = true
is_level Left = true
is_level _ = false

-- the number of a direction's front. A level direction has none
abbrev pub front_of : Dir → Option ℕ
front_of dir = if is_level dir then None else Some (number_of dir - 2)

-- the direction whose front has this number
abbrev pub dir_of_front : ℕ → Option Dir
dir_of_front front = slice_get (Down ∷ DownRight ∷ DownLeft ∷ Up ∷ UpRight ∷ UpLeft ∷ []) front

-- whether a ray goes from an upper row to a lower one
abbrev pub goes_down : Dir → Bool
goes_down Down = true
goes_down DownRight = true
goes_down DownLeft = true
goes_down _ = false

-- where a strip stands in the order in which a direction visits the strips: from the top downwards,
-- or from the bottom upwards
abbrev pub position_of : Dir → ℕ → ℕ → ℕ
position_of dir strip strips = if goes_down dir then strip else strips - 1 - strip

-- the strip that a direction visits at this position
abbrev pub strip_at : Dir → ℕ → ℕ → ℕ
strip_at dir position strips = if goes_down dir then position else strips - 1 - position
