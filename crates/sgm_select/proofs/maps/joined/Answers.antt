use Rattle.std.proofs.Common.{◌≡◌, ◌∙◌, ◌++◌, sym, ap, arith, length, map, take, ◌*◌, Some}
use Rattle.std.proofs.lemmas.List.{length-map}
use Rattle.std.proofs.lemmas.Option.{slice_get-get_or, slice_get-map}
use Rattle.std.specs.Prelude.{option_map}
use Rattle.sgm_strip.specs.Cuts.{first_row}
use Rattle.sgm_select.proofs.Strips.{all_rows, no_rows, strip_more}
use Rattle.sgm_select.proofs.maps.joined.Goals as goal

pub loop-rows-init : goal.loop-rows-init
loop-rows-init c whole cut are = c.in_ok-entries.ensures.items ∙ sym (no_rows whole cut _ are)

pub loop-rows-preserved : goal.loop-rows-preserved
loop-rows-preserved c whole cut are =
    let strips = c.args.strips.now in
    let k = c.loop-rows.rows-index in
    let item = c.rows-item.result in
    let found = slice_get-map (λ v. v.items) strips k ∙ ap (option_map (λ v. v.items)) (slice_get-get_or strips k item c.loop-rows-test.true ∙ ap (λ v. Some v) (sym c.rows-item.is)) in
    c.in_ok-extend_from_slice.ensures.items ∙ ap (λ xs. xs ++ c.deref.result.now) (c.loop-rows.invariant whole cut are)
    ∙ ap (λ xs. take (first_row cut k * whole.width) whole.entries ++ xs) c.deref.ensures.value
    ∙ strip_more whole cut (map (λ v. v.items) strips) k item.items are (are.each k item.items found)

pub returns : goal.returns
returns c whole cut are =
    let end : c.loop-rows.rows-index ≡ length c.args.strips.now = omega (arith, c.loop-rows.auto.rows-index-end) in
    c.loop-rows.invariant whole cut are ∙ all_rows whole cut (map (λ v. v.items) c.args.strips.now) c.loop-rows.rows-index are (end ∙ sym (length-map c.args.strips.now (λ v. v.items)))
