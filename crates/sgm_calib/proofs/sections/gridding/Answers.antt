use Rattle.std.proofs.Common.{◌≡◌, true, Some, option_map, ap, subst, sym, ◌∙◌}
use Rattle.serde_json.specs.Find.{get}
use Rattle.serde_json.specs.View.{view}
use Rattle.sgm_grid.specs.Keeping.{IsGridding}
use Rattle.sgm_calib.specs.Checks.{sort_of}
use Rattle.sgm_calib.specs.Table as table
use Rattle.sgm_calib.specs.Rows.{is_since}
use Rattle.sgm_calib.proofs.Gridding.{bridge_counted, bridge_kept}
use Rattle.sgm_calib.proofs.sections.gridding.Goals as goal

pub gridding_of-requires : goal.gridding_of-requires
gridding_of-requires c =
    let top = view c.args.top.now in
    let there : get table.grid.name top ≡ Some (view c.in-Some.object.now) = sym c.get.ensures ∙ ap (option_map (λ v. view v.now)) c.in-Some.is in
    let since : is_since 3 (sort_of top) ≡ true = ap (is_since 3) (sym c.sort_of.ensures) ∙ sym c.is_since.ensures ∙ c.if-is_since.true in
    record { bridge = bridge_counted top (view c.in-Some.object.now) c.requires there since }

pub returns-in-Some-clause-kept : goal.returns-in-Some-clause-kept
returns-in-Some-clause-kept c =
    let top = view c.args.top.now in
    let there : get table.grid.name top ≡ Some (view c.in-Some.object.now) = sym c.get.ensures ∙ ap (option_map (λ v. view v.now)) c.in-Some.is in
    let since : is_since 3 (sort_of top) ≡ true = ap (is_since 3) (sym c.sort_of.ensures) ∙ sym c.is_since.ensures ∙ c.if-is_since.true in
    subst IsGridding (sym c.gridding_of.ensures) (bridge_kept top (view c.in-Some.object.now) c.requires there since)
