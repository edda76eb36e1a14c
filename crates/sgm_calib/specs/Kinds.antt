-- The kinds of a warp's side, by their names.
use Rattle.std.specs.Prelude.{ℕ, Bool, if◌then◌else◌, List, codes, Option, Some, None, is_some}
use Rattle.std.specs.Str.{bytes_eq}
use Rattle.sgm_calib.specs.declared.kind.Kind.{Kind}
use Rattle.sgm_calib.specs.declared.kind.Kind.TheVariants.{Identity, Projective, Mesh}

abbrev pub kind_name : Kind → List ℕ
kind_name Identity = codes "identity"
kind_name Projective = codes "projective"
kind_name Mesh = codes "mesh"

-- the kind of that name
abbrev pub kind_named : List ℕ → Option Kind
kind_named name =
    if bytes_eq name (kind_name Identity) then Some Identity
    else if bytes_eq name (kind_name Projective) then Some Projective
    else if bytes_eq name (kind_name Mesh) then Some Mesh
    else None

abbrev pub is_kind : List ℕ → Bool
is_kind name = is_some (kind_named name)
