use Rattle.std.proofs.Common.{◌≡◌, ◌∙◌, ◌∷◌, [], ◌++◌, List, Option, ℕ, Some, length, map, sym, ap, subst, arith, ◌*◌}
use Rattle.std.specs.Prelude.{slice_get, option_map}
use Rattle.std.proofs.lemmas.List.{length-map, length_push}
use Rattle.sgm_base.specs.Sides.{Sides}
use Rattle.sgm_census.proofs.CodeLists.{length-row_by_row}
use Rattle.sgm_strip.specs.Scenes.{SceneParts, problem_of}
use Rattle.sgm_strip.specs.Strips.{IsStripOf}
use Rattle.sgm_select.specs.Selection.{matched, matches_of}
use Rattle.sgm_select.specs.Strips.{rows_of_strip}
use Rattle.sgm_select.proofs.Strips.{each_more, strip_of_map, strip_there}
use Rattle.sgm_select.proofs.matching.match_strips.Goals as goal

pub match_strip-requires-clause-width : goal.match_strip-requires-clause-width
match_strip-requires-clause-width c =
    let is = strip_there c.args.scene.now c.requires.parcels.cut c.args.parcels.now c.loop-parcel.parcel-index c.parcel-item.result c.requires.parcels.strips c.loop-parcel-test.true c.parcel-item.is in
    ap (λ (s : Sides). s.width) c.width.view_is ∙ c.size.ensures.width ∙ ap (λ (s : SceneParts). s.left.width) (sym is.same_scene)

pub loop-parcel-preserved : goal.loop-parcel-preserved
loop-parcel-preserved c =
    let scene = c.args.scene.now in
    let k = c.loop-parcel.parcel-index in
    let item = c.parcel-item.result in
    let old = c.loop-parcel.strips.items in
    let row = c.in_ok-rows.rows in
    let items : c.push.new.self.items ≡ old ++ row ∷ [] = c.in_ok-push.ensures.items in
    record {
      all = ap length items ∙ length_push old row ∙ omega (arith, c.loop-parcel.invariant.all);
      each = λ cut strips.
          subst (λ vs. (j : ℕ) (rows : List (Option ℕ)) → slice_get (map (λ v. v.items) vs) j ≡ Some rows → rows ≡ rows_of_strip (matches_of (problem_of scene) scene.span.first) cut j) (sym items)
          (each_more (λ v. v.items) (λ j rows. rows ≡ rows_of_strip (matches_of (problem_of scene) scene.span.first) cut j) old row (c.loop-parcel.invariant.each cut strips)
          (strip_of_map (λ s. matches_of (problem_of s) s.span.first) scene cut (length old) item row.items
          (subst (λ n. IsStripOf scene cut n item) (sym c.loop-parcel.invariant.all) (strip_there scene cut c.args.parcels.now k item strips c.loop-parcel-test.true c.parcel-item.is))
          c.in_ok-rows.ensures.exact));
    }

pub returns : goal.returns
returns c cut strips =
    let g = problem_of c.args.scene.now in
    let end : c.loop-parcel.parcel-index ≡ length c.args.parcels.now = omega (arith, c.loop-parcel.auto.parcel-index-end) in
    record {
      cut_kept = strips.cut_kept;
      same_height = strips.same_height;
      full = length-row_by_row g.width g.height (λ q y. option_map (λ d. 16 * d) (matched g c.args.scene.now.span.first q y));
      all = length-map c.loop-parcel.strips.items (λ v. v.items) ∙ c.loop-parcel.invariant.all ∙ end ∙ strips.all;
      each = c.loop-parcel.invariant.each cut strips;
    }
