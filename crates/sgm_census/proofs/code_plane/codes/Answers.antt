use Rattle.std.proofs.Common.{ap, ◌∙◌, sym}
use Rattle.sgm_base.specs.Values.{Values}
use Rattle.sgm_census.specs.Windows.{greatest_of}
use Rattle.sgm_census.proofs.CodeRows.{new_blank}
use Rattle.sgm_census.proofs.code_plane.codes.Goals as goal

pub own_rows-requires : goal.own_rows-requires
own_rows-requires c =
    let coding = c.all_rows-coding in
    new_blank (greatest_of coding.result.window) c.size.result.width c.size.result.height _ _ _ _
    (c.as_mut_slice.ensures.value ∙ c.in_ok-words.ensures.0) (c.as_mut_slice-2.ensures.value ∙ c.in_ok-words.ensures.1)
    (c.size.ensures.width ∙ sym (ap (λ (p : Values). p.width) coding.ensures.plane)) (c.size.ensures.height ∙ sym coding.ensures.rows.1)
