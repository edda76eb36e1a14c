use Rattle.std.proofs.Common.{◌≡◌, length, None, Some, Vec, Global, option_map, sym, ap, ◌∙◌, arith}
use Rattle.sgm_report.specs.Areas.{Area}
use Rattle.sgm_report.specs.Outlines.{Corner}
use Rattle.sgm_report.proofs.Insides.{enclosed, none_outside, outlined}
use Rattle.sgm_report.proofs.region.Region.mark_inside.Goals as goal

pub returns-in-None : goal.returns-in-None
returns-in-None c =
    let area = c.args.self.now in
    let none : area.outline ≡ None =
    sym (ap (λ (a : Area). a.outline) c.self.view_is)
    ∙ ap (option_map (λ (v : Vec Corner Global). v.items)) c.in-None.is in
    none_outside c.args.spec area.outline c.args.row area.col area.cols (length c.args.inside.now)
    c.fill.new.self none c.requires.length (c.fill.ensures.after (λ y e. e))

pub mark_enclosed-requires-clause-columns : goal.mark_enclosed-requires-clause-columns
mark_enclosed-requires-clause-columns c =
    let own_col : c.self.inside.col ≡ c.args.self.now.col =
    ap (λ (a : Area). a.col) c.self.view_is in
    omega (arith, c.requires.length, c.requires.region.inside.within_cols)

pub mark_enclosed-requires-clause-outline : goal.mark_enclosed-requires-clause-outline
mark_enclosed-requires-clause-outline c =
    let area = c.args.self.now in
    let some : area.outline ≡ Some c.in-Some.corners.items =
    sym (ap (λ (a : Area). a.outline) c.self.view_is)
    ∙ ap (option_map (λ (v : Vec Corner Global). v.items)) c.in-Some.is in
    outlined area.outline c.deref.result.now c.in-Some.corners.items c.requires.region.outlined some
    c.deref.ensures.value

pub returns-in-Some : goal.returns-in-Some
returns-in-Some c =
    let area = c.args.self.now in
    let some : area.outline ≡ Some c.in-Some.corners.items =
    sym (ap (λ (a : Area). a.outline) c.self.view_is)
    ∙ ap (option_map (λ (v : Vec Corner Global). v.items)) c.in-Some.is in
    let own_col : c.self.inside.col ≡ area.col = ap (λ (a : Area). a.col) c.self.view_is in
    enclosed c.args.spec area.outline c.deref.result.now c.in-Some.corners.items c.args.row
    c.self.inside.col area.col area.cols
    (length c.args.inside.now) c.mark_enclosed.new.inside some c.deref.ensures.value own_col
    c.requires.length c.mark_enclosed.ensures
