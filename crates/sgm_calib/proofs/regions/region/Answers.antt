use Rattle.std.proofs.Common.{◌≡◌, IsTrue, rules, ℕ, ◌+◌, ◌≤◌, true, false, Option, Some, ap, subst, sym, ◌∙◌}
use Rattle.std.proofs.lemmas.Result.{err_from_is_err_and}
use Rattle.serde_json.specs.View.{view}
use Rattle.sgm_report.specs.Areas.{IsRegionName, has_base}
use Rattle.sgm_calib.specs.declared.keys.CalibFault.{CalibFault}
use Rattle.sgm_calib.specs.declared.keys.CalibFault.TheVariants.{Range}
use Rattle.sgm_calib.specs.declared.place.Place.{Place}
use Rattle.sgm_calib.specs.Checks.{IsFaultOf}
use Rattle.sgm_calib.specs.RegionKeys.{area_in, region_fault, outline_fault, region_place}
use Rattle.sgm_calib.proofs.RegionLemmas.{base-right, base-wrong, outlined, same_base}
use Rattle.sgm_calib.proofs.regions.region.Goals as goal

pub returns-then-not-has_base-clause-fault : goal.returns-then-not-has_base-clause-fault
returns-then-not-has_base-clause-fault c =
    let d = view c.args.object.now in
    let place = c.region_place-place.result in
    let leaves : has_base c.args.grid (area_in c.args.sort d) ≡ false =
    sym (c.has_base.ensures ∙ same_base c.args.grid c.args.sort d _ c.in_ok-name.numbers _ c.in_ok-name.ensures.numbers) ∙ cc in
    ap (λ (p : Place). region_fault c.args.sort c.args.grid p d) (sym c.region_place-place.ensures)
    ∙ base-wrong c.args.sort c.args.grid place d c.in_ok-name.ensures.ok leaves
    ∙ ap (λ key. Some (Range key)) (sym c.key_at.ensures)

pub returns-in_err-region-inside-clause-fault : goal.returns-in_err-region-inside-clause-fault
returns-in_err-region-inside-clause-fault c =
    let d = view c.args.object.now in
    let place = c.region_place-place.result in
    let stays : has_base c.args.grid (area_in c.args.sort d) ≡ true =
    sym (c.has_base.ensures ∙ same_base c.args.grid c.args.sort d _ c.in_ok-name.numbers _ c.in_ok-name.ensures.numbers) ∙ cc in
    let whole : region_fault c.args.sort c.args.grid (region_place c.args.grid c.args.index) d ≡ outline_fault place d =
    ap (λ (p : Place). region_fault c.args.sort c.args.grid p d) (sym c.region_place-place.ensures)
    ∙ base-right c.args.sort c.args.grid place d c.in_ok-name.ensures.ok stays in
    let p = err_from_is_err_and c.from_residual-in_err-region-inside.result c.from_residual-in_err-region-inside.ensures.1 in
    rw (p.1, p.2) (subst (λ (fault : Option CalibFault). IsFaultOf fault c.in_err-region-inside.field-0.0) (sym whole) c.in_err-region-inside.ensures.fault)

pub returns-clause-ok : goal.returns-clause-ok
returns-clause-ok c =
    let d = view c.args.object.now in
    let place = c.region_place-place.result in
    let stays : has_base c.args.grid (area_in c.args.sort d) ≡ true =
    sym (c.has_base.ensures ∙ same_base c.args.grid c.args.sort d _ c.in_ok-name.numbers _ c.in_ok-name.ensures.numbers) ∙ cc in
    ap (λ (p : Place). region_fault c.args.sort c.args.grid p d) (sym c.region_place-place.ensures)
    ∙ base-right c.args.sort c.args.grid place d c.in_ok-name.ensures.ok stays
    ∙ c.in_ok-region-inside.ensures.ok

pub returns-clause-inside : goal.returns-clause-inside
unfolding has_base
returns-clause-inside c =
    let cols : c.region_place-place.result.cols ≡ c.args.grid.cols = ap (λ (p : Place). p.cols) c.region_place-place.ensures in
    let rows : c.region_place-place.result.rows ≡ c.args.grid.rows = ap (λ (p : Place). p.rows) c.region_place-place.ensures in
    let there = c.in_ok-name.ensures.inside in
    record {
      named = subst IsRegionName (sym c.in_ok-from_str.ensures.ok) c.in_ok-name.ensures.named;
      inside = record {
        some_cols = there.0;
        some_rows = there.1;
        within_cols = subst (λ (n : ℕ). c.in_ok-name.numbers.col + c.in_ok-name.numbers.cols ≤ n) cols there.2;
        within_rows = subst (λ (n : ℕ). c.in_ok-name.numbers.row + c.in_ok-name.numbers.rows ≤ n) rows there.3;
      };
      base_in_range = c.in_ok-name.ensures.based;
      based = subst IsTrue c.has_base.ensures (search rules);
      outlined = outlined c.in_ok-region-inside.field-0 c.in_ok-region-inside.ensures.kept;
    }
