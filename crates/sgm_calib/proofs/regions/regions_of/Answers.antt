use Rattle.std.proofs.Common.{◌≡◌, ◌∙◌, ◌+◌, ◌≤◌, ◌<◌, map, drop, length, [], ◌∷◌, ◌++◌, ap, arith, Option, subst, sym}
use Rattle.std.proofs.lemmas.List.Elements.{All-push, All-same}
use Rattle.std.proofs.lemmas.Result.{err_from_is_err_and, IfOk-from_err}
use Rattle.serde_json.specs.View.{view}
use Rattle.sgm_report.specs.Areas.{IsArea}
use Rattle.sgm_calib.specs.declared.keys.CalibFault.{CalibFault}
use Rattle.sgm_calib.specs.Checks.{IsFaultOf}
use Rattle.sgm_calib.specs.RegionKeys.{area_in}
use Rattle.sgm_calib.proofs.RegionLemmas.{passed-more, stopped-here, value-more, passed-all, value-all}
use Rattle.sgm_calib.proofs.regions.regions_of.Goals as goal

pub loop-index-preserved : goal.loop-index-preserved
loop-index-preserved c =
    let i = c.loop-index.index in
    let xs = c.args.items.now in
    let within : i < length xs = omega arith in
    let grown : c.add.new.regions.items ≡ c.loop-index.regions.items ++ c.in_ok-region.region ∷ [] = c.in_ok-add.ensures in
    record {
      value =
          ap (λ items. items ++ map (area_in c.args.sort) (map view (drop (i + 1) xs)))
          (grown ∙ ap (λ area. c.loop-index.regions.items ++ area ∷ []) c.in_ok-region.ensures.value)
          ∙ value-more view (area_in c.args.sort) _ xs i _ within c.index-items-index.is
          ∙ c.loop-index.invariant.value;
      inside =
          All-same (IsArea c.args.grid) _ _ grown
          (All-push (IsArea c.args.grid) _ _ c.loop-index.invariant.inside c.in_ok-region.ensures.inside);
      passed =
          c.loop-index.invariant.passed
          ∙ passed-more view _ _ xs i _ within c.index-items-index.is c.in_ok-region.ensures.ok;
    }

pub returns-in_err-region-clause-ok : goal.returns-in_err-region-clause-ok
returns-in_err-region-clause-ok c = IfOk-from_err _ _ c.from_residual-in_err-region.ensures.0

pub returns-in_err-region-clause-value : goal.returns-in_err-region-clause-value
returns-in_err-region-clause-value c = IfOk-from_err _ _ c.from_residual-in_err-region.ensures.0

pub returns-in_err-region-clause-inside : goal.returns-in_err-region-clause-inside
returns-in_err-region-clause-inside c = IfOk-from_err _ _ c.from_residual-in_err-region.ensures.0

pub returns-in_err-add-clause-ok : goal.returns-in_err-add-clause-ok
returns-in_err-add-clause-ok c = IfOk-from_err _ _ c.from_residual-in_err-add.ensures.0

pub returns-in_err-add-clause-value : goal.returns-in_err-add-clause-value
returns-in_err-add-clause-value c = IfOk-from_err _ _ c.from_residual-in_err-add.ensures.0

pub returns-in_err-add-clause-inside : goal.returns-in_err-add-clause-inside
returns-in_err-add-clause-inside c = IfOk-from_err _ _ c.from_residual-in_err-add.ensures.0

pub returns-in_err-region-clause-fault : goal.returns-in_err-region-clause-fault
returns-in_err-region-clause-fault c =
    let i = c.loop-index.index in
    let xs = c.args.items.now in
    let within : i < length xs = omega arith in
    let p = err_from_is_err_and c.from_residual-in_err-region.result c.from_residual-in_err-region.ensures.1 in
    rw (p.1, p.2) (
    subst (λ (fault : Option CalibFault). IsFaultOf fault c.in_err-region.field-0.0) (sym c.loop-index.invariant.passed)
    (stopped-here view _ _ xs i _ _ within c.index-items-index.is c.in_err-region.ensures.fault))

pub returns-clause-ok : goal.returns-clause-ok
returns-clause-ok c =
    let done : length c.args.items.now ≤ c.loop-index.index = omega arith in
    c.loop-index.invariant.passed ∙ passed-all view _ _ c.args.items.now c.loop-index.index done

pub returns-clause-value : goal.returns-clause-value
returns-clause-value c =
    let done : length c.args.items.now ≤ c.loop-index.index = omega arith in
    value-all view (area_in c.args.sort) c.loop-index.regions.items c.args.items.now c.loop-index.index done c.loop-index.invariant.value
