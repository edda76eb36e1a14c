use Rattle.std.proofs.Common.{◌≡◌, ◌<◌, ◌*◌, ◌∙◌, ap, arith, length, rules}
use Rattle.std.proofs.lemmas.Bool.{false≢true}
use Rattle.std.proofs.lemmas.List.{with_items_is}
use Rattle.std.proofs.lemmas.Result.{IfOk-from_err}
use Rattle.sgm_base.specs.Sides.{Sides}
use Rattle.sgm_refine.specs.Met.{filled_at}
use Rattle.sgm_refine.proofs.Filled.{map_is}
use Rattle.sgm_refine.proofs.MetRows.{none_all}
use Rattle.sgm_refine.proofs.filling.fill.Goals as goal

pub returns-in_err-up : goal.returns-in_err-up
returns-in_err-up c = IfOk-from_err c.from_residual-in_err-up.result _ c.from_residual-in_err-up.ensures.0

pub returns-in_err-entries : goal.returns-in_err-entries
returns-in_err-entries c = IfOk-from_err c.from_residual-in_err-entries.result _ c.from_residual-in_err-entries.ensures.0

pub fill_rows-requires-clause-room_width : goal.fill_rows-requires-clause-room_width
fill_rows-requires-clause-room_width c = c.in_ok-room.ensures.width ∙ ap (λ (s : Sides). s.width) c.size.view_is ∙ c.size-size.ensures.width

pub meet_upwards-requires-clause-whole : goal.meet_upwards-requires-clause-whole
meet_upwards-requires-clause-whole c =
    let wide : c.size.inside.width ≡ c.args.map.now.width = ap (λ (s : Sides). s.width) c.size.view_is ∙ c.size-size.ensures.width in
    let tall : c.size.inside.height ≡ c.args.map.now.height = ap (λ (s : Sides). s.height) c.size.view_is ∙ c.size-size.ensures.height in
    c.as_mut_slice.ensures.len ∙ c.in_ok-up.ensures.len ∙ ap (λ n. 3 * c.size.inside.height * n) wide ∙ ap (λ n. 3 * n * c.args.map.now.width) tall

pub fill_rows-requires-clause-into_length : goal.fill_rows-requires-clause-into_length
fill_rows-requires-clause-into_length c =
    c.as_mut_slice-2.ensures.len ∙ c.in_ok-entries.ensures.len ∙ c.pixels.ensures.pixels
    ∙ ap (λ n. n * c.size-size.result.height) c.size-size.ensures.width ∙ ap (λ n. c.args.map.now.width * n) c.size-size.ensures.height

pub meet_upwards-requires-clause-none : goal.meet_upwards-requires-clause-none
meet_upwards-requires-clause-none c =
    none_all c.as_mut_slice.result.now _ (c.as_mut_slice.ensures.value ∙ c.in_ok-up.ensures.items_if_clones_equal (λ y e. search rules))

pub unreachable-requires : goal.unreachable-requires
unreachable-requires c =
    let new = c.fill_rows.new.into in
    let len : length new ≡ c.pixels.result = c.fill_rows.auto.into ∙ c.as_mut_slice-2.ensures.len ∙ c.in_ok-entries.ensures.len in
    let same = with_items_is c.in_ok-entries.entries new (c.fill_rows.auto.into ∙ c.as_mut_slice-2.ensures.len) in
    false≢true (c.in_default.ensures.exact.1 (ap length same ∙ len ∙ c.pixels.ensures.pixels))

pub returns : goal.returns
returns c =
    let m = c.args.map.now in
    let new = c.fill_rows.new.into in
    let some : 0 < m.width = omega (arith, c.size-size.ensures.kept.width_in_range) in
    let len : length new ≡ c.pixels.result = c.fill_rows.auto.into ∙ c.as_mut_slice-2.ensures.len ∙ c.in_ok-entries.ensures.len in
    c.in-Some.ensures.made
    ∙ map_is (filled_at m c.args.matched.now c.args.left.now c.args.span.first c.args.span.count) m.width m.height _ _ _ new
    c.size-size.ensures.width c.size-size.ensures.height some (with_items_is c.in_ok-entries.entries new (c.fill_rows.auto.into ∙ c.as_mut_slice-2.ensures.len))
    (len ∙ c.pixels.ensures.pixels ∙ ap (λ n. n * c.size-size.result.height) c.size-size.ensures.width ∙ ap (λ n. m.width * n) c.size-size.ensures.height)
    c.fill_rows.ensures
