use Rattle.std.proofs.Common.{◌≡◌, ℕ, ◌*◌, ◌/◌, ◌%◌, length, List, Option, IfSome, ap, ◌∙◌, arith}
use Rattle.std.proofs.lemmas.List.{with_items_is}
use Rattle.std.specs.Vec.{with_items}
use Rattle.sgm_base.specs.Values.{values_of}
use Rattle.sgm_rectify.specs.Rectified.{rectified, rectified_values}
use Rattle.sgm_rectify.proofs.Rows.{all_rows, made_is}
use Rattle.sgm_rectify.proofs.rectified.rectify.Goals as goal

pub returns : goal.returns
unfolding rectified_values
returns c =
    let image = c.args.image.now in
    let width = c.size-size.result.width in
    let height = c.size-size.result.height in
    let entries = (rectified_values image c.args.warp.now).entries in
    let new = c.rectify_rows.new.into in
    let full : length new ≡ image.width * image.height = omega (arith, c.rectify_rows.auto.into, ap length c.as_mut_slice.ensures.value, c.in_ok-entries.ensures.len, c.pixels.ensures.pixels, ap (λ n. n * height) c.size-size.ensures.width, ap (λ n. image.width * n) c.size-size.ensures.height) in
    let whole : new ≡ entries =
    all_rows image c.args.warp.now new full (λ k l. c.rectify_rows.ensures k l ∙ ap (λ n. rectified image c.args.warp.now (n % image.width) (n / image.width)) (omega arith)) in
    let written = with_items c.in_ok-entries.entries c.rectify_rows.new.into in
    let made : IfSome c.make.result (λ p. p ≡ values_of width height written.items) = c.make.ensures.made in
    made_is c.make.result c.unwrap.result (values_of width height written.items) c.unwrap.ensures made
    ∙ ap (λ (es : List (Option ℕ)). values_of width height es) (with_items_is c.in_ok-entries.entries c.rectify_rows.new.into (omega arith) ∙ whole)
    ∙ ap (λ (w : ℕ). values_of w height entries) c.size-size.ensures.width
    ∙ ap (λ (h : ℕ). values_of image.width h entries) c.size-size.ensures.height
