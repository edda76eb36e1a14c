use Rattle.std.proofs.Common.{◌≡◌, ℕ, List, Option, IfSome, ap, ◌∙◌, arith}
use Rattle.std.proofs.lemmas.List.{with_items_is}
use Rattle.std.specs.Vec.{with_items}
use Rattle.sgm_base.specs.Values.{values_of}
use Rattle.sgm_rectify.specs.Rectified.{rectified_values}
use Rattle.sgm_rectify.proofs.Rows.{made_is}
use Rattle.sgm_rectify.proofs.rectified.rectify_by.Goals as goal

pub returns : goal.returns
unfolding rectified_values
returns g c =
    let image = c.args.image.now in
    let width = c.size-size.result.width in
    let height = c.size-size.result.height in
    let entries = (rectified_values image c.args.warp.now).entries in
    let written = with_items c.in_ok-entries.entries c.rectify_parts.new.into in
    let made : IfSome c.make.result (λ p. p ≡ values_of width height written.items) = c.make.ensures.made in
    made_is c.make.result c.unwrap.result (values_of width height written.items) c.unwrap.ensures made
    ∙ ap (λ (es : List (Option ℕ)). values_of width height es) (with_items_is c.in_ok-entries.entries c.rectify_parts.new.into (omega arith) ∙ c.rectify_parts.ensures)
    ∙ ap (λ (w : ℕ). values_of w height entries) c.size-size.ensures.width
    ∙ ap (λ (h : ℕ). values_of image.width h entries) c.size-size.ensures.height
