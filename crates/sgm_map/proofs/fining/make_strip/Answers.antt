use Rattle.std.proofs.Common.{◌≡◌, ◌+◌, ◌*◌, ◌<◌, ◌≤◌, ◌∙◌, ap, arith, length, subst}
use Rattle.std.proofs.lemmas.List.{with_items_is}
use Rattle.sgm_base.specs.Sides.{Sides}
use Rattle.sgm_strip.proofs.CutLemmas.{first_more, first_within}
use Rattle.sgm_strip.specs.Cuts.{first_row, rows_of}
use Rattle.sgm_select.specs.Strips.{rows_between}
use Rattle.sgm_select.proofs.Strips.{rows_held}
use Rattle.sgm_map.specs.Fining.{HoldsMade, made, made_at}
use Rattle.sgm_map.proofs.fining.make_strip.Goals as goal

pub returns : goal.returns
returns c =
    let step = c.args.making.now.step in
    let left = c.args.making.now.left.now in
    let right = c.args.making.now.right.now in
    let map = c.args.making.now.map.now in
    let span = c.args.making.now.span in
    let cut = c.args.cut in
    let strip = c.args.strip in
    let kept = c.first-first.ensures.kept in
    let top = first_row cut strip in
    let n = rows_of cut strip in
    let end = first_row cut (strip + 1) in
    let new = c.make_rows.new.into in
    let more : top < end = first_more cut strip kept in
    let low : end ≤ cut.height = first_within cut (strip + 1) kept (omega (arith, c.requires.strip)) in
    let to : top + n ≡ end = omega (arith, more) in
    let wide : c.width.inside.width ≡ map.width = ap (λ (s : Sides). s.width) c.width.view_is ∙ c.size.ensures.width in
    let some : 0 < map.width = omega (arith, c.size.ensures.kept.width_in_range) in
    let len : length new ≡ c.rows-rows.result * c.width.inside.width = omega (arith, c.in_ok-entries.ensures.len) in
    let full : length new ≡ n * map.width = len ∙ ap (λ k. c.rows-rows.result * k) wide ∙ ap (λ k. k * map.width) c.rows-rows.ensures.rows in
    let held : HoldsMade step left right map span top n new =
    subst (λ k. HoldsMade step left right map span top k new) c.rows-rows.ensures.rows
    (subst (λ k. HoldsMade step left right map span k c.rows-rows.result new) c.first-first.ensures.row c.make_rows.ensures) in
    with_items_is c.in_ok-entries.entries new (omega arith)
    ∙ rows_held map.width map.height (λ x y. made_at step left right map span x y) top n new some (omega (arith, to, low, c.requires.height)) full held
    ∙ ap (λ k. rows_between (made step left right map span) top k) to
