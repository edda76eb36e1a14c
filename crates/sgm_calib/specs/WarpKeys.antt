-- The keys of the warps: an object with one side each for the left and the right image. A side
-- names its kind, and has the keys of that kind.
use Rattle.std.specs.Prelude.{ℕ, ℤ, pos, neg_ℤ, Bool, false, List, [], ◌∷◌, filter, Option, Some}
use Rattle.std.specs.Prelude.{None, unwrap_or}
use Rattle.std.specs.Str.{bytes_eq}
use Rattle.serde_json.specs.Data.{Data}
use Rattle.serde_json.specs.Find.{get, as_object}
use Rattle.sgm_base.specs.Ranges.{IsFromTo}
use Rattle.sgm_rectify.specs.declared.warp.Warp.{Warp}
use Rattle.sgm_rectify.specs.declared.warp.Warp.TheVariants as warp
use Rattle.sgm_calib.specs.declared.kind.Kind.{Kind}
use Rattle.sgm_calib.specs.declared.kind.Kind.TheVariants.{Identity, Projective, Mesh}
use Rattle.sgm_calib.specs.declared.keys.CalibFault.{CalibFault}
use Rattle.sgm_calib.specs.declared.keys.CalibFault.TheVariants.{Missing}
use Rattle.sgm_calib.specs.declared.place.Place.{Place}
use Rattle.sgm_calib.specs.declared.sort.Sort.TheVariants.{Plain, Side}
use Rattle.sgm_calib.specs.declared.place.TheConstants.{PLAIN, RIGHT_SIDE}
use Rattle.sgm_calib.specs.Kinds.{kind_name, kind_named}
use Rattle.sgm_calib.specs.Table as table
use Rattle.sgm_calib.specs.Rows.{Row, Presence, of_kind, key_at, count_of}
use Rattle.sgm_calib.specs.Checks.{first_of, object_fault, type_fault, key_fault, keys_fault}
use Rattle.sgm_calib.specs.Checks.{numbers_at, value_of, text_of}

-- the kind of a side
unfoldable pub kind_of : Data → Kind
kind_of side = unwrap_or (kind_named (text_of table.side_kind side)) Identity

-- the keys that a kind requires beside its name
abbrev pub is_of_kind : List ℕ → Presence → Bool
is_of_kind word (of_kind key) = bytes_eq key word
is_of_kind word _ = false

abbrev pub rows_of_kind : Kind → List Row
rows_of_kind kind = filter (λ row. is_of_kind (kind_name kind) row.presence) table.side_keys

-- the keys of a mesh before its nodes
abbrev pub shape_keys : List Row
shape_keys = table.mesh_step ∷ table.mesh_cols ∷ table.mesh_rows ∷ []

-- ---- what is wrong with the warps

-- what is wrong with the keys of a mesh: those before its nodes, its nodes
unfoldable pub mesh_fault : Place → Data → Option CalibFault
mesh_fault place side =
    first_of (keys_fault place side shape_keys ∷ key_fault place side table.mesh_nodes ∷ [])

-- what is wrong with a side: its type, its kind, an unknown name, its keys; the rows are those of
-- the left side
abbrev pub side_checks : Place → Data → List (Option CalibFault)
side_checks place side =
    type_fault (key_at place table.left) (as_object side)
    ∷ key_fault place side table.side_kind
    ∷ object_fault place table.left (Side (kind_of side)) side
    ∷ keys_fault place side (rows_of_kind (kind_of side))
    ∷ []

abbrev pub side_fault_of : Place → Option Data → Option CalibFault
side_fault_of place None = Some (Missing (key_at place table.left))
side_fault_of place (Some side) = first_of (side_checks place side)

-- what is wrong with the side under a name of the object `warp`: it is missing, or what is wrong
-- with it
unfoldable pub side_fault : Place → List ℕ → Data → Option CalibFault
side_fault place name d = side_fault_of place (get name d)

abbrev pub warps_fault_of : Option Data → Option CalibFault
warps_fault_of None = None
warps_fault_of (Some d) =
    first_of (
    object_fault PLAIN table.warp Plain d
    ∷ side_fault PLAIN table.left.name d
    ∷ side_fault RIGHT_SIDE table.right.name d
    ∷ [])

-- what is wrong with the warps of a value
unfoldable pub warps_fault : Data → Option CalibFault
warps_fault top = warps_fault_of (get table.warp.name top)

-- ---- the warp that a side without a fault is

-- whether a number fits 32 bits
abbrev pub IsWithin32 : ℤ → Type 0
IsWithin32 z = IsFromTo (neg_ℤ (pos 2147483648)) (pos 2147483647) z

-- numbers by twos
abbrev pub pairs : List ℤ → List (ℤ × ℤ)
pairs [] = []
pairs (u ∷ []) = []
pairs (u ∷ v ∷ more) = (u, v) ∷ pairs more

unfoldable pub matrix_in : Data → List ℤ
matrix_in side = numbers_at table.side_matrix side

unfoldable pub nodes_in : Data → List (ℤ × ℤ)
nodes_in side = pairs (numbers_at table.mesh_nodes side)

abbrev pub warp_of_kind : Kind → Data → Warp
warp_of_kind Identity side = warp.Identity
warp_of_kind Projective side = warp.Projective (matrix_in side)
warp_of_kind Mesh side =
    warp.Mesh (count_of table.mesh_step side) (count_of table.mesh_cols side)
    (count_of table.mesh_rows side) (nodes_in side)

unfoldable pub side_warp : Data → Warp
side_warp side = warp_of_kind (kind_of side) side

abbrev pub warp_under : Row → Option Data → Warp
warp_under row None = warp.Identity
warp_under row (Some d) = side_warp (value_of row d)

-- the warp of a value's side: the identity where the value has no warps
unfoldable pub warp_in : Row → Data → Warp
warp_in row top = warp_under row (get table.warp.name top)
