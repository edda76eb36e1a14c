use Rattle.std.proofs.Common.{◌≡◌, ◌+◌, ◌-◌, ◌*◌, ◌<◌, ◌≤◌, ◌++◌, ◌∙◌, ℕ, List, length, slice_index, take, drop, refl, sym, ap, subst, arith}
use Rattle.std.specs.Prelude.{All}
use Rattle.std.proofs.lemmas.List.{length-append}
use Rattle.std.proofs.Math.Seq.{drop-append_seam, take-length}
use Rattle.sgm_base.specs.declared.limits.TheConstants.{MAX_COST}
use Rattle.sgm_energy.specs.Pens.{Penalties, penalties_of}
use Rattle.sgm_energy.specs.Rays.{pixel_at}
use Rattle.sgm_energy.specs.Rows.{HoldsRow}
use Rattle.sgm_path.specs.Paths.{far_between, HasFar, Suits}
use Rattle.sgm_strip.specs.Scenes.{SceneParts, problem_of, row_length, scene_of}
use Rattle.sgm_strip.proofs.Guides.{rows_far}
use Rattle.sgm_strip.proofs.Passed.{pixels, whole_pixels}
use Rattle.sgm_strip.proofs.making.append_row.Goals as goal

-- what came to the end of a list is the part from its old end on
part_is : (old row all : List ℕ) (at : ℕ) → all ≡ old ++ row → at ≡ length old → take (length all - at) (drop at all) ≡ row
part_is old row all at e l =
    let rest : drop at all ≡ row = ap (drop at) e ∙ ap (λ n. drop n (old ++ row)) l ∙ drop-append_seam old row in
    let n : length all - at ≡ length row = omega (arith, ap length e, length-append old row, l) in
    ap (λ k. take k (drop at all)) n ∙ ap (take (length row)) rest ∙ take-length row

-- costs that were made for a scene by another name
held : (scene scene' : SceneParts) (y : ℕ) (row : List ℕ) → scene' ≡ scene → length row ≡ row_length scene' → ((x d : ℕ) → x < scene'.left.width → d < scene'.span.count → slice_index row (x * scene'.span.count + d) ≡ (problem_of scene').cost (pixel_at x y) d) → HoldsRow (problem_of scene) y (problem_of scene).cost row
held scene scene' y row e whole each =
    subst (λ (s : SceneParts). HoldsRow (problem_of s) y (problem_of s).cost row) e (record { whole = whole; each = each })

pub append_level_sums-requires-clause-costs : goal.append_level_sums-requires-clause-costs
append_level_sums-requires-clause-costs c =
    let made = c.in_ok-append_costs.ensures in
    let all = c.deref.result.now in
    let costs = take (length all - c.len-at.result) (drop c.len-at.result all) in
    let same : costs ≡ made.row = part_is c.args.costs.now.items made.row all c.len-at.result (c.deref.ensures.value ∙ made.added) (c.len-at.ensures ∙ c.args.costs.now.ok.0) in
    let width = c.args.scene.now.left.width in
    let long : length costs ≡ width * c.count.result = omega (arith, ap length same, made.whole, ap row_length c.scene.view_is, ap (λ k. width * k) c.count.ensures.value) in (
      omega (arith, c.count.ensures.range),
      omega (arith, c.count.ensures.range),
      whole_pixels (length costs) width c.count.result long,
      c.row.ensures.whole ∙ c.scene.invariant.guide_width ∙ ap (λ (s : SceneParts). s.left.width) c.scene.view_is
          ∙ pixels (length costs) width c.count.result long (omega (arith, c.count.ensures.range)),
      subst (All (λ v. v ≤ MAX_COST)) (sym same) made.low,
    )

pub returns-clause-sums : goal.returns-clause-sums
returns-clause-sums c =
    let g = problem_of c.args.scene.now in
    let made = c.in_ok-append_costs.ensures in
    let all = c.deref.result.now in
    let costs = take (length all - c.len-at.result) (drop c.len-at.result all) in
    let same : costs ≡ made.row = part_is c.args.costs.now.items made.row all c.len-at.result (c.deref.ensures.value ∙ made.added) (c.len-at.ensures ∙ c.args.costs.now.ok.0) in
    let penalties : Penalties = penalties_of c.scene.inside.pen in
    let suits : Suits g c.args.y penalties.p1 c.count.result costs = record {
      same_count = sym c.count.ensures.value;
      same_p1 = sym (ap (λ (s : SceneParts). s.penalties.p1) c.scene.view_is);
      inside = c.requires.y;
      holds = subst (λ v. HoldsRow g c.args.y g.cost v) (sym same) (held c.args.scene.now _ c.args.y made.row c.scene.view_is made.whole made.each);
    } in
    let inside : c.args.y < c.scene.inside.guide.height = omega (arith, c.requires.y, c.scene.invariant.guide_height, ap (λ (s : SceneParts). s.left.height) c.scene.view_is) in
    let far : HasFar g c.args.y c.args.y (far_between penalties c.row.result.now c.row.result.now) =
    subst (λ (s : SceneParts). HasFar (problem_of s) c.args.y c.args.y (far_between penalties c.row.result.now c.row.result.now)) c.scene.view_is
    (subst (λ us. HasFar (problem_of (scene_of c.scene.inside.left c.scene.inside.right c.scene.inside.span penalties c.scene.inside.guide)) c.args.y c.args.y (far_between penalties us us)) (sym c.row.ensures.value)
    (rows_far (problem_of (scene_of c.scene.inside.left c.scene.inside.right c.scene.inside.span penalties c.scene.inside.guide)) penalties c.scene.inside.guide c.args.y c.args.y (λ _ _. refl)
    (sym c.scene.invariant.guide_width) inside inside)) in
    let sums = c.in_ok-append_level_sums.ensures in
    record { row = sums.row; added = sums.added; holds = sums.holds g c.args.y suits far }
