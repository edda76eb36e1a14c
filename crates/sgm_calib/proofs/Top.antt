-- The checks of the value itself.
use Rattle.std.proofs.Common.{◌≡◌, Option, Some, None, refl, ap, sym, ◌∙◌}
use Rattle.std.specs.Option.{option_or}
use Rattle.serde_json.specs.Data.{Data, Members}
use Rattle.serde_json.specs.Find.{as_object}
use Rattle.sgm_calib.specs.declared.keys.CalibFault.{CalibFault}
use Rattle.sgm_calib.specs.declared.place.TheConstants.{PLAIN}
use Rattle.sgm_calib.specs.Table as table
use Rattle.sgm_calib.specs.Rows.{key_at}
use Rattle.sgm_calib.specs.Checks.{type_fault, object_fault, sort_of}
use Rattle.sgm_calib.specs.Judge.{version_fault, top_fault}

option_or-None : (fault : Option CalibFault) → option_or fault None ≡ fault
option_or-None None = refl
option_or-None (Some fault) = refl

-- an object with the right version has no other fault of its own than an unknown name
pub top_fault-right : (d : Data) (ms : Members) → Some ms ≡ as_object d → version_fault d ≡ None → top_fault d ≡ object_fault PLAIN table.top (sort_of d) d
unfolding top_fault
top_fault-right d ms is_object right =
    ap (λ o. option_or (type_fault (key_at PLAIN table.top) o) (option_or (version_fault d) (option_or (object_fault PLAIN table.top (sort_of d) d) None))) (sym is_object)
    ∙ ap (λ v. option_or v (option_or (object_fault PLAIN table.top (sort_of d) d) None)) right
    ∙ option_or-None (object_fault PLAIN table.top (sort_of d) d)
