use Rattle.std.proofs.Common.{◌≡◌, ◌∙◌, ap, sym, subst}
use Rattle.std.specs.List.{list_all}
use Rattle.sgm_strip.specs.Parcels.{ParcelParts, IsParcel}
use Rattle.sgm_strip.proofs.Sets.{complete_from, complete_to}
use Rattle.sgm_strip.proofs.parcel.Parcel.is_complete.Goals as goal

pub returns : goal.returns
returns c =
    let kept : IsParcel c.args.self.now = subst IsParcel c.self.view_is c.self.invariant.0 in
    let is : c.are_all.result ≡ list_all (λ value. value) c.args.self.now.done =
    c.are_all.ensures ∙ ap (λ (p : ParcelParts). list_all (λ value. value) p.done) c.self.view_is in
    (λ h. complete_from c.args.self.now.done kept.directions (sym is ∙ h), λ h. is ∙ complete_to c.args.self.now.done kept.directions h)
