-- The order of the checks, and the paths of the keys.
use Rattle.std.specs.Prelude.{◌≡◌, ℕ, Bool, List, ◌++◌, map, codes, decimal, All}
use Rattle.std.specs.Str.{bytes_eq}
use Rattle.sgm_calib.specs.declared.keys.Key.{Key}
use Rattle.sgm_calib.specs.Paths.{path_of}
use Rattle.sgm_calib.specs.Rows.{Row}
use Rattle.sgm_calib.specs.Table.{keys, region, all_region_keys}

-- the numbers of the keys, in the order of the checks
unfoldable pub numbers : List ℕ
numbers = map (λ row. row.number) keys

-- the key of a row, and that of the region at that place of the list
abbrev pub key_with : ℕ → Row → Key
key_with index row = record { number = row.number; index = index }

-- whether the path that is printed is that of the row
abbrev pub has_path : Row → Bool
has_path row = bytes_eq (path_of (key_with 0 row)) row.path

-- the path of a region
abbrev pub region_path : ℕ → List ℕ
region_path index = codes "regions[" ++ decimal index ++ codes "]"

-- a region's path, and each of its keys' paths
pub record HasRegionPaths (index : ℕ) : Type 0 where
  pub itself : path_of (key_with index region) ≡ region_path index
  pub keys : All (λ row. path_of (key_with index row) ≡ region_path index ++ codes "." ++ row.name)
      all_region_keys
