use Rattle.std.proofs.Common.{◌≡◌, ◌+◌, ◌*◌, ◌<◌, ◌≤◌, ◌∙◌, ap, arith, length}
use Rattle.std.proofs.lemmas.List.{with_items_is}
use Rattle.sgm_base.specs.Sides.{Sides}
use Rattle.sgm_strip.proofs.CutLemmas.{first_more, first_within}
use Rattle.sgm_strip.specs.Cuts.{first_row, rows_of}
use Rattle.sgm_strip.specs.Scenes.{problem_of}
use Rattle.sgm_select.specs.Selection.{disparities_of}
use Rattle.sgm_select.specs.Strips.{rows_between}
use Rattle.sgm_select.proofs.Strips.{rows_exact}
use Rattle.sgm_select.proofs.maps.select_strip.Goals as goal

pub returns : goal.returns
returns c =
    let parcel = c.args.parcel.now in
    let kept = c.strip.ensures.kept in
    let g = problem_of parcel.scene in
    let top = first_row parcel.cut parcel.strip in
    let n = rows_of parcel.cut parcel.strip in
    let end = first_row parcel.cut (parcel.strip + 1) in
    let new = c.select_rows.new.into in
    let more : top < end = first_more parcel.cut parcel.strip kept.cut_kept in
    let low : end ≤ parcel.cut.height = first_within parcel.cut (parcel.strip + 1) kept.cut_kept (omega (arith, kept.inside)) in
    let to : top + n ≡ end = omega (arith, more) in
    let wide : c.size.result.width ≡ g.width = c.size.ensures.width ∙ c.requires.left_width in
    let some : 0 < g.width = omega (arith, wide, c.size.ensures.kept.width_in_range, c.requires.left_width) in
    let rows_is : c.rows-rows.result ≡ n = c.rows-rows.ensures.rows ∙ ap (λ k. rows_of k c.strip.result) c.cut.ensures ∙ ap (rows_of parcel.cut) c.strip.ensures.value in
    let same : c.width.inside.width ≡ c.size.result.width = ap (λ (s : Sides). s.width) c.width.view_is in
    let len : length new ≡ c.rows-rows.result * c.width.inside.width = omega (arith, c.in_ok-entries.ensures.len) in
    let full : length new ≡ n * g.width = len ∙ ap (λ k. c.rows-rows.result * k) same ∙ ap (λ k. k * c.size.result.width) rows_is ∙ ap (λ k. n * k) wide in
    record {
      exact = with_items_is c.in_ok-entries.entries new (omega arith)
          ∙ rows_exact g c.args.left.now c.args.right.now parcel.scene.span.first top n new some (omega (arith, to, low, kept.same_height)) full c.select_rows.ensures
          ∙ ap (λ k. rows_between (disparities_of g c.args.left.now c.args.right.now parcel.scene.span.first) top k) to;
    }

pub select_rows-requires-clause-indices_length : goal.select_rows-requires-clause-indices_length
select_rows-requires-clause-indices_length c =
    let width : c.width.inside.width ≡ c.args.left.now.width = ap (λ (s : Sides). s.width) c.width.view_is ∙ c.size.ensures.width in
    omega (arith, c.in_ok-bases.ensures.len, width)

pub select_rows-requires-clause-whole : goal.select_rows-requires-clause-whole
select_rows-requires-clause-whole c =
    let width : c.width.inside.width ≡ c.args.left.now.width = ap (λ (s : Sides). s.width) c.width.view_is ∙ c.size.ensures.width in
    let parcel = c.args.parcel.now in
    let rows : c.rows-rows.result ≡ rows_of parcel.cut parcel.strip = c.rows-rows.ensures.rows ∙ ap (λ k. rows_of k c.strip.result) c.cut.ensures ∙ ap (rows_of parcel.cut) c.strip.ensures.value in
    omega (arith, ap length c.as_mut_slice.ensures.value, c.in_ok-entries.ensures.len, ap (λ k. c.rows-rows.result * k) width, ap (λ k. k * c.args.left.now.width) rows)
