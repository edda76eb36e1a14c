-- The names of an object, as a map's keys and as the members of its data.
use Rattle.std.proofs.Common.{◌≡◌, Bool, ◌&&◌, List, [], ◌∷◌, map, String, string_bytes, Some, refl, ap, sym, ◌∙◌}
use Rattle.std.specs.declared.alloc.Global.{Global}
use Rattle.std.specs.List.{list_all}
use Rattle.serde_json.specs.Data.{Data}
use Rattle.serde_json.specs.Find.{as_object}
use Rattle.serde_json.specs.View.{members_view}
use Rattle.serde_json.specs.declared.value.Value.{Value}
use Rattle.sgm_calib.specs.declared.place.Place.{Place}
use Rattle.sgm_calib.specs.declared.sort.Sort.{Sort}
use Rattle.sgm_calib.specs.Rows.{Row, key_at}
use Rattle.sgm_calib.specs.Table.{is_known}
use Rattle.sgm_calib.specs.Checks.{has_only, members_fault, object_fault, unknown_fault}

list_all-keys : (object : Row) (sort : Sort) (ms : List (String Global × Value))
    → list_all (λ name. is_known object sort (string_bytes name)) (map (λ m. m.0) ms) ≡ has_only object sort (members_view ms)
list_all-keys object sort [] = refl
list_all-keys object sort (m ∷ ms) = ap (λ b. is_known object sort (string_bytes m.0) && b) (list_all-keys object sort ms)

-- the check of an object by the keys of its map
pub object_fault-keys : (place : Place) (object : Row) (sort : Sort) (d : Data) (ms : List (String Global × Value)) (known : Bool)
    → Some (members_view ms) ≡ as_object d
    → known ≡ list_all (λ name. is_known object sort (string_bytes name)) (map (λ m. m.0) ms)
    → object_fault place object sort d ≡ unknown_fault (key_at place object) known
unfolding object_fault
object_fault-keys place object sort d ms known is_object tested =
    ap (members_fault (key_at place object) object sort) (sym is_object)
    ∙ ap (unknown_fault (key_at place object)) (sym (tested ∙ list_all-keys object sort ms))
