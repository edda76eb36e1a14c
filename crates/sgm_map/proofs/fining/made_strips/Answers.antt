use Rattle.std.proofs.Common.{◌≡◌, ◌∙◌, ap, rules, subst}
use Rattle.sgm_strip.specs.Cuts.{CutParts, IsCut}
use Rattle.sgm_select.specs.Strips.{rows_of_strip}
use Rattle.sgm_map.specs.Fining.{made}
use Rattle.sgm_threads.proofs.Pieces.{each_at, if_ok_two}
use Rattle.sgm_map.proofs.StripRows.{full_made, rows_found}
use Rattle.sgm_map.proofs.fining.made_strips.Goals as goal

pub returns : goal.returns
returns g c =
    let cut = c.args.cut in
    let kept : IsCut cut = subst IsCut c.cut.view_is c.cut.invariant in
    let strips : c.cut.inside.strips ≡ cut.strips = ap (λ (k : CutParts). k.strips) c.cut.view_is in
    let making = c.args.making.now in
    let whole = made making.step making.left.now making.right.now making.map.now making.span in
    if_ok_two c.side_by_side.result
    (λ v count each. rows_found (λ rows. rows.items) whole cut v.items kept c.requires.height (full_made making.step making.left.now making.right.now making.map.now making.span)
    (count ∙ strips) (each_at (λ k rows. rows.items ≡ rows_of_strip whole cut k) v.items (λ k d h. let given = each k d h in search rules)))
    c.side_by_side.ensures.count c.side_by_side.ensures.made
