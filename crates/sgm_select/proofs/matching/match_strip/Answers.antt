use Rattle.std.proofs.Common.{◌≡◌, ◌+◌, ◌*◌, ◌<◌, ◌≤◌, ◌∙◌, ap, arith, length}
use Rattle.std.specs.Prelude.{option_map}
use Rattle.std.proofs.lemmas.List.{with_items_is}
use Rattle.sgm_strip.proofs.CutLemmas.{first_more, first_within}
use Rattle.sgm_strip.specs.Cuts.{first_row, rows_of}
use Rattle.sgm_strip.specs.Scenes.{problem_of}
use Rattle.sgm_select.specs.Selection.{matched, matches_of}
use Rattle.sgm_select.specs.Strips.{rows_between}
use Rattle.sgm_select.proofs.Strips.{rows_held}
use Rattle.sgm_select.proofs.matching.match_strip.Goals as goal

pub returns : goal.returns
returns c =
    let parcel = c.args.parcel.now in
    let kept = c.strip.ensures.kept in
    let g = problem_of parcel.scene in
    let first = parcel.scene.span.first in
    let top = first_row parcel.cut parcel.strip in
    let n = rows_of parcel.cut parcel.strip in
    let end = first_row parcel.cut (parcel.strip + 1) in
    let new = c.match_rows.new.into in
    let more : top < end = first_more parcel.cut parcel.strip kept.cut_kept in
    let low : end ≤ parcel.cut.height = first_within parcel.cut (parcel.strip + 1) kept.cut_kept (omega (arith, kept.inside)) in
    let to : top + n ≡ end = omega (arith, more) in
    let some : 0 < g.width = omega (arith, c.requires.width, c.requires.some) in
    let rows_is : c.rows-rows.result ≡ n = c.rows-rows.ensures.rows ∙ ap (λ k. rows_of k c.strip.result) c.cut.ensures ∙ ap (rows_of parcel.cut) c.strip.ensures.value in
    let len : length new ≡ c.rows-rows.result * c.args.width = omega (arith, c.in_ok-entries.ensures.len) in
    let full : length new ≡ n * g.width = len ∙ ap (λ k. k * c.args.width) rows_is ∙ ap (λ k. n * k) c.requires.width in
    record {
      exact = with_items_is c.in_ok-entries.entries new (omega arith)
          ∙ rows_held g.width g.height (λ q y. option_map (λ d. 16 * d) (matched g first q y)) top n new some (omega (arith, to, low, kept.same_height)) full c.match_rows.ensures
          ∙ ap (λ k. rows_between (matches_of g first) top k) to;
    }

pub match_rows-requires-clause-indices_length : goal.match_rows-requires-clause-indices_length
match_rows-requires-clause-indices_length c = omega (arith, ap length c.as_mut_slice.ensures.value, c.in_ok-indices.ensures.len, c.requires.width)

pub match_rows-requires-clause-whole : goal.match_rows-requires-clause-whole
match_rows-requires-clause-whole c =
    let parcel = c.args.parcel.now in
    let rows : c.rows-rows.result ≡ rows_of parcel.cut parcel.strip = c.rows-rows.ensures.rows ∙ ap (λ k. rows_of k c.strip.result) c.cut.ensures ∙ ap (rows_of parcel.cut) c.strip.ensures.value in
    omega (arith, ap length c.as_mut_slice-2.ensures.value, c.in_ok-entries.ensures.len, ap (λ k. c.rows-rows.result * k) c.requires.width, ap (λ k. k * parcel.scene.left.width) rows)
