use Rattle.std.proofs.Common.{◌≡◌, ◌∙◌, ◌∷◌, [], ◌++◌, List, Option, ℕ, Some, length, map, sym, ap, subst, arith}
use Rattle.std.specs.Prelude.{slice_get}
use Rattle.std.proofs.lemmas.List.{length-map, length_push}
use Rattle.sgm_strip.specs.Scenes.{SceneParts, problem_of}
use Rattle.sgm_select.specs.Selection.{disparities_of}
use Rattle.sgm_select.specs.Strips.{rows_of_strip}
use Rattle.sgm_select.proofs.Strips.{each_more, full_map, strip_of_scene, strip_there}
use Rattle.sgm_select.proofs.maps.select_strips.Goals as goal

pub select_strip-requires-clause-left_width : goal.select_strip-requires-clause-left_width
select_strip-requires-clause-left_width c =
    let is = strip_there c.args.scene.now c.requires.parcels.cut c.args.parcels.now c.loop-parcel.parcel-index c.parcel-item.result c.requires.parcels.strips c.loop-parcel-test.true c.parcel-item.is in
    c.requires.left_width ∙ ap (λ (s : SceneParts). s.left.width) (sym is.same_scene)

pub select_strip-requires-clause-left_height : goal.select_strip-requires-clause-left_height
select_strip-requires-clause-left_height c =
    let is = strip_there c.args.scene.now c.requires.parcels.cut c.args.parcels.now c.loop-parcel.parcel-index c.parcel-item.result c.requires.parcels.strips c.loop-parcel-test.true c.parcel-item.is in
    c.requires.left_height ∙ ap (λ (s : SceneParts). s.left.height) (sym is.same_scene)

pub select_strip-requires-clause-right_width : goal.select_strip-requires-clause-right_width
select_strip-requires-clause-right_width c =
    let is = strip_there c.args.scene.now c.requires.parcels.cut c.args.parcels.now c.loop-parcel.parcel-index c.parcel-item.result c.requires.parcels.strips c.loop-parcel-test.true c.parcel-item.is in
    c.requires.right_width ∙ ap (λ (s : SceneParts). s.left.width) (sym is.same_scene)

pub select_strip-requires-clause-right_height : goal.select_strip-requires-clause-right_height
select_strip-requires-clause-right_height c =
    let is = strip_there c.args.scene.now c.requires.parcels.cut c.args.parcels.now c.loop-parcel.parcel-index c.parcel-item.result c.requires.parcels.strips c.loop-parcel-test.true c.parcel-item.is in
    c.requires.right_height ∙ ap (λ (s : SceneParts). s.left.height) (sym is.same_scene)

pub loop-parcel-preserved : goal.loop-parcel-preserved
loop-parcel-preserved c =
    let scene = c.args.scene.now in
    let left = c.args.left.now in
    let right = c.args.right.now in
    let k = c.loop-parcel.parcel-index in
    let item = c.parcel-item.result in
    let old = c.loop-parcel.strips.items in
    let row = c.in_ok-rows.rows in
    let items : c.push.new.self.items ≡ old ++ row ∷ [] = c.in_ok-push.ensures.items in
    record {
      all = ap length items ∙ length_push old row ∙ omega (arith, c.loop-parcel.invariant.all);
      each = λ cut strips.
          subst (λ vs. (j : ℕ) (rows : List (Option ℕ)) → slice_get (map (λ v. v.items) vs) j ≡ Some rows → rows ≡ rows_of_strip (disparities_of (problem_of scene) left right scene.span.first) cut j) (sym items)
          (each_more (λ v. v.items) (λ j rows. rows ≡ rows_of_strip (disparities_of (problem_of scene) left right scene.span.first) cut j) old row (c.loop-parcel.invariant.each cut strips)
          (strip_of_scene scene cut (length old) item left right row.items
          (subst (λ n. Rattle.sgm_strip.specs.Strips.IsStripOf scene cut n item) (sym c.loop-parcel.invariant.all) (strip_there scene cut c.args.parcels.now k item strips c.loop-parcel-test.true c.parcel-item.is))
          c.in_ok-rows.ensures.exact));
    }

pub returns : goal.returns
returns c cut strips =
    let g = problem_of c.args.scene.now in
    let end : c.loop-parcel.parcel-index ≡ length c.args.parcels.now = omega (arith, c.loop-parcel.auto.parcel-index-end) in
    record {
      cut_kept = strips.cut_kept;
      same_height = strips.same_height;
      full = full_map g c.args.left.now c.args.right.now c.args.scene.now.span.first;
      all = length-map c.loop-parcel.strips.items (λ v. v.items) ∙ c.loop-parcel.invariant.all ∙ end ∙ strips.all;
      each = c.loop-parcel.invariant.each cut strips;
    }
