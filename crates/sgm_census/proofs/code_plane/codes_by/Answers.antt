use Rattle.std.proofs.Common.{ap, ◌∙◌, sym, arith}
use Rattle.std.proofs.lemmas.List.{with_items_is}
use Rattle.sgm_base.specs.Values.{Values}
use Rattle.sgm_census.specs.Windows.{greatest_of}
use Rattle.sgm_census.proofs.CodeRows.{holds_whole, new_blank}
use Rattle.sgm_census.proofs.code_plane.codes_by.Goals as goal

pub shared_rows-requires-after_bounds : goal.shared_rows-requires-after_bounds
shared_rows-requires-after_bounds g c κs within =
    let coding = c.all_rows-coding in
    new_blank (greatest_of coding.result.window) c.size.result.width c.size.result.height _ _ _ _
    (c.as_mut_slice.ensures.value ∙ c.in_ok-words.ensures.0) (c.as_mut_slice-2.ensures.value ∙ c.in_ok-words.ensures.1)
    (c.size.ensures.width ∙ sym (ap (λ (p : Values). p.width) coding.ensures.plane)) (c.size.ensures.height ∙ sym coding.ensures.rows.1)

pub filled-requires-clause-holds : goal.filled-requires-clause-holds
filled-requires-clause-holds g c =
    let coding = c.all_rows-coding in
    let of_coding = coding.ensures in
    let words = c.shared_rows.new.words in
    let present = c.shared_rows.new.present in
    holds_whole c.args.plane.now c.args.window coding.result.window c.args.rule coding.result.rule coding.result.plane.now coding.result.first coding.result.rows words _ present _
    of_coding.plane of_coding.how.0 of_coding.how.1 of_coding.rows.0 of_coding.rows.1
    (with_items_is c.in_ok-words.words words (omega arith)) (with_items_is c.in_ok-words.present present (omega arith)) c.in_ok-shared_rows.ensures
