use Rattle.std.proofs.Common.{sym, ap, ◌∙◌}
use Rattle.sgm_base.specs.Values.{Values}
use Rattle.sgm_map.proofs.Finals.{kept_height, kept_width}
use Rattle.sgm_map.proofs.refining.refined_map.Goals as goal

pub fill-requires-clause-matched_width : goal.fill-requires-clause-matched_width
fill-requires-clause-matched_width c =
    ap (λ (v : Values). v.width) c.in_ok-matched.ensures.exact
    ∙ sym (ap (λ (v : Values). v.width) c.in_ok-map.ensures ∙ kept_width c.args.map c.refine.inside.peak ∙ c.requires.width)

pub fill-requires-clause-matched_height : goal.fill-requires-clause-matched_height
fill-requires-clause-matched_height c =
    ap (λ (v : Values). v.height) c.in_ok-matched.ensures.exact
    ∙ sym (ap (λ (v : Values). v.height) c.in_ok-map.ensures ∙ kept_height c.args.map c.refine.inside.peak ∙ c.requires.height)

pub fill-requires-clause-left_width : goal.fill-requires-clause-left_width
fill-requires-clause-left_width c =
    c.args.planes.now.left_width ∙ sym (ap (λ (v : Values). v.width) c.in_ok-map.ensures ∙ kept_width c.args.map c.refine.inside.peak ∙ c.requires.width)

pub fill-requires-clause-left_height : goal.fill-requires-clause-left_height
fill-requires-clause-left_height c =
    c.args.planes.now.left_height ∙ sym (ap (λ (v : Values). v.height) c.in_ok-map.ensures ∙ kept_height c.args.map c.refine.inside.peak ∙ c.requires.height)
