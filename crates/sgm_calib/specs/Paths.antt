-- How a key is printed.
use Rattle.std.specs.Prelude.{ℕ, ◌==◌, Bool, false, ◌||◌, if◌then◌else◌, List, [], ◌++◌, codes}
use Rattle.std.specs.Prelude.{decimal, find, Option}
use Rattle.std.specs.Option.{option_map_or}
use Rattle.sgm_calib.specs.declared.keys.Key.{Key}
use Rattle.sgm_calib.specs.Rows.{Row}
use Rattle.sgm_calib.specs.Table.{keys, region_list, region}

-- the row of a number
unfoldable pub row_of : ℕ → Option Row
row_of number = find (λ row. row.number == number) keys

-- whether a row is a region or a key of one
abbrev pub is_of_region : Row → Bool
is_of_region row = (row.object == region_list.number) || (row.object == region.number)

-- whether a key belongs to a region
abbrev pub has_index : ℕ → Bool
has_index number = option_map_or is_of_region (row_of number) false

-- the path of a row, of a region's what follows its place in the list
abbrev pub part_of : ℕ → List ℕ
part_of number = option_map_or (λ row. row.path) (row_of number) []

abbrev pub front_of : ℕ → List ℕ
front_of number = if has_index number then codes "regions[" else part_of number

abbrev pub back_of : ℕ → List ℕ
back_of number = if has_index number then part_of number else []

-- the path of a key as it is printed
unfoldable pub path_of : Key → List ℕ
path_of key =
    if has_index key.number then front_of key.number ++ decimal key.index ++ back_of key.number
    else front_of key.number
