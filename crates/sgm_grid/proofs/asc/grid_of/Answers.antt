use Rattle.std.proofs.Common.{◌≡◌, ◌≢◌, ◌+◌, ◌*◌, ◌<◌, ◌≤◌, length, Result, Ok, arith, refl, sym, ap, ◌∙◌}
use Rattle.sgm_grid.specs.declared.asc_fault.AscFault.{AscFault}
use Rattle.sgm_grid.specs.Cells.{Cells}
use Rattle.sgm_text.specs.Words.{words_of}
use Rattle.sgm_grid.proofs.HeightLaws.{all_heights, counts, leading_at_most, right_heights, wrong_count, wrong_height}
use Rattle.sgm_grid.proofs.asc.grid_of.Goals as goal

pub returns-then-have-need : goal.returns-then-have-need
returns-then-have-need c =
    let words = words_of c.args.text.now in
    let need = c.args.spec.cols * c.args.spec.rows in
    let heights = c.in_ok-heights.ensures.heights in
    let some : c.len.result ≡ length c.in_ok-heights.heights.items = omega arith in
    let all = counts need c.len.result c.count_words.result words (words_of c.in_ok-heights.rest.now) c.in_ok-heights.heights.items heights c.in_ok-heights.ensures.rest some c.count_words.ensures.count in
    let apart : c.len.result + c.count_words.result ≢ need = c.if-have-need.true in
    wrong_count c.args.spec words (c.len.result + c.count_words.result) need all refl apart

pub returns-then-len-need : goal.returns-then-len-need
returns-then-len-need c =
    let words = words_of c.args.text.now in
    let need = c.args.spec.cols * c.args.spec.rows in
    let heights = c.in_ok-heights.ensures.heights in
    let some : c.len.result ≡ length c.in_ok-heights.heights.items = omega arith in
    let all = counts need c.len.result c.count_words.result words (words_of c.in_ok-heights.rest.now) c.in_ok-heights.heights.items heights c.in_ok-heights.ensures.rest some c.count_words.ensures.count in
    let full : length words ≡ need = sym all ∙ c.if-have-need.false in
    let few : c.len-index.result < need = omega (arith, c.len-index.ensures, c.len-2.ensures, c.if-len-need.true) in
    let held : c.len-index.result ≡ length c.in_ok-heights.heights.items = omega arith in
    wrong_height c.args.spec words need c.len-index.result full refl (held ∙ ap length heights) few

pub of_heights-requires : goal.of_heights-requires
of_heights-requires c =
    let words = words_of c.args.text.now in
    let need = c.args.spec.cols * c.args.spec.rows in
    let heights = c.in_ok-heights.ensures.heights in
    record {
      ranges = c.requires;
      full = omega (arith, c.len-2.ensures, c.if-len-need.false, ap length heights, leading_at_most need words);
      heights_in_range = all_heights need words c.in_ok-heights.heights.items heights;
    }

pub returns : goal.returns
returns c =
    let words = words_of c.args.text.now in
    let need = c.args.spec.cols * c.args.spec.rows in
    let heights = c.in_ok-heights.ensures.heights in
    let some : c.len.result ≡ length c.in_ok-heights.heights.items = omega arith in
    let all = counts need c.len.result c.count_words.result words (words_of c.in_ok-heights.rest.now) c.in_ok-heights.heights.items heights c.in_ok-heights.ensures.rest some c.count_words.ensures.count in
    let full : length words ≡ need = sym all ∙ c.if-have-need.false in
    let every : need ≤ length c.in_ok-heights.heights.items = omega (arith, c.len-2.ensures, c.if-len-need.false) in
    right_heights c.args.spec words need c.in_ok-heights.heights.items full refl heights every ∙ ap (λ (g : Cells). good g) (sym c.of_heights.ensures)
  where
    good : Cells → Result Cells AscFault
    good g = Ok g
