use Rattle.std.proofs.Common.{◌≡◌, ap, ◌∙◌, arith}
use Rattle.sgm_census.specs.Codes.{Codes}
use Rattle.sgm_census.specs.declared.code_plane.CodePlane.TheInside.{Inside}
use Rattle.sgm_census.proofs.CodeLists.{codes_in-row_read}
use Rattle.sgm_census.proofs.code_plane.CodePlane.row.Goals as goal

pub returns : goal.returns
returns c =
    let p = c.self.inside in
    let wide : c.self-inside.inside.0.0.width ≡ p.size.width = ap (λ (i : Inside). i.size.width) c.self-inside.view_is in
    let high : p.size.height ≡ c.args.self.now.height = ap (λ (s : Codes). s.height) c.self.view_is in
    codes_in-row_read c.args.self.now p.size.width p.size.height p.window p.rule p.words.items p.present.items c.args.y c.self-inside.inside.0.0.width _ c.deref.result.now c.deref-2.result.now
    c.self.view_is c.self.invariant (omega (arith, high, c.requires)) wide (omega arith)
    (c.deref.ensures.value ∙ ap (λ (i : Inside). i.words.items) c.self-inside.view_is) (c.deref-2.ensures.value ∙ ap (λ (i : Inside). i.present.items) c.self-inside.view_is)
