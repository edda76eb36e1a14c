use Rattle.std.proofs.Common.{◌≡◌, ℕ, ◌+◌, ◌-◌, ◌<◌, [], ◌∷◌, ◌++◌, take, length, get_or, map, reverse, sym, ap, ◌∙◌, subst, arith}
use Rattle.std.proofs.lemmas.List.{length-map, get_or-map}
use Rattle.sgm_base.specs.declared.limits.TheConstants.{MAX_COST}
use Rattle.sgm_energy.specs.Rays.{pixel_at}
use Rattle.sgm_strip.specs.Scenes.{problem_of}
use Rattle.sgm_trace.specs.declared.place.Place.{Place}
use Rattle.sgm_trace.specs.declared.traced.Step.{Step}
use Rattle.sgm_trace.specs.Best.{first_step, step_between}
use Rattle.sgm_trace.specs.Rows.{energies_of, pixel_of}
use Rattle.sgm_trace.proofs.Growing.{rows_length, row_at, row_small, energies_length}
use Rattle.sgm_trace.proofs.Tracing.{Follows, follows_start, follows_more, follows_end, before_from}
use Rattle.sgm_trace.proofs.steps.steps.Goals as goal

pub bounds-rows-k : goal.bounds-rows-k
bounds-rows-k c =
    let long = rows_length (λ row. row.items) c.args.rows.now (problem_of c.args.scene.now) (map pixel_of c.args.places.now) (length c.args.places.now) c.requires.rows in
    omega (arith, long, c.loop-k.invariant.place, c.loop-k-test.true)

pub step_to-step-requires-clause-whole : goal.step_to-step-requires-clause-whole
step_to-step-requires-clause-whole c =
    let g = problem_of c.args.scene.now in
    let ps = map pixel_of c.args.places.now in
    let e = row_at (λ row. row.items) c.args.rows.now g ps (length c.args.places.now) (c.loop-k.k - 1) c.index-rows-k.result c.requires.rows (omega (arith, c.loop-k.invariant.place, c.loop-k-test.true)) in
    let row : c.deref.result.now ≡ energies_of g (take (c.loop-k.k - 1 + 1) ps) = cc in
    ap length row ∙ energies_length g (take (c.loop-k.k - 1 + 1) ps)

pub step_to-step-requires-clause-count : goal.step_to-step-requires-clause-count
step_to-step-requires-clause-count c = omega (arith, step_to-step-requires-clause-whole c, c.requires.count)

pub step_to-step-requires-clause-small : goal.step_to-step-requires-clause-small
step_to-step-requires-clause-small c d h =
    let g = problem_of c.args.scene.now in
    let ps = map pixel_of c.args.places.now in
    let e = row_at (λ row. row.items) c.args.rows.now g ps (length c.args.places.now) (c.loop-k.k - 1) c.index-rows-k.result c.requires.rows (omega (arith, c.loop-k.invariant.place, c.loop-k-test.true)) in
    let row : c.deref.result.now ≡ energies_of g (take (c.loop-k.k - 1 + 1) ps) = cc in
    omega (
      arith,
      row_small g MAX_COST c.requires.within.costs c.args.places.now c.requires.inside c.deref.result.now (c.loop-k.k - 1) row (omega (arith, c.loop-k.invariant.place, c.loop-k-test.true)) d h,
      c.requires.few,
      c.loop-k.invariant.place,
    )

pub loop-k-preserved : goal.loop-k-preserved
loop-k-preserved c =
    let g = problem_of c.args.scene.now in
    let ps = map pixel_of c.args.places.now in
    let k = c.loop-k.k in
    let j : ℕ = c.loop-k.k - 1 in
    let none : Place = record { x = 0; y = 0 } in
    let long = length-map c.args.places.now pixel_of in
    let top : j < length c.args.places.now = omega (arith, c.loop-k.invariant.place, c.loop-k-test.true) in
    let e = row_at (λ row. row.items) c.args.rows.now g ps (length c.args.places.now) j c.index-rows-k.result c.requires.rows top in
    let row : c.deref.result.now ≡ energies_of g (take (j + 1) ps) = cc in
    let q = get_or-map pixel_of c.args.places.now j none (pixel_at 0 0) top in
    let p = get_or-map pixel_of c.args.places.now k none (pixel_at 0 0) c.loop-k.invariant.place in
    let made : c.step_to-step.result.made ≡ step_between g (get_or ps j (pixel_at 0 0)) (get_or ps k (pixel_at 0 0)) c.step_to-step.result.before c.loop-k.index = cc in
    let follows = follows_more g ps c.args.d j k c.step_to-step.result.before c.loop-k.index c.loop-k.steps.items (omega (arith, c.loop-k-test.true)) (omega (arith, long, c.loop-k.invariant.place)) c.loop-k.invariant.index
    (before_from g ps j k c.step_to-step.result.before c.loop-k.index c.deref.result.now
    (omega (arith, c.loop-k-test.true)) (omega (arith, long, c.loop-k.invariant.place)) row
    (rw (q, p) c.step_to-step.ensures.before)) c.loop-k.invariant.follows in
    let items : c.push.new.self.items ≡ c.loop-k.steps.items ++ step_between g (get_or ps j (pixel_at 0 0)) (get_or ps k (pixel_at 0 0)) c.step_to-step.result.before c.loop-k.index ∷ [] = c.in_ok-push.ensures.items ∙ ap (λ (s : Step). c.loop-k.steps.items ++ s ∷ []) made in
    record {
      place = top;
      index = c.step_to-step.ensures.before.inside;
      follows = subst (Follows g ps c.args.d j c.step_to-step.result.before) (sym items) follows;
    }

pub returns : goal.returns
returns c =
    let g = problem_of c.args.scene.now in
    let ps = map pixel_of c.args.places.now in
    let none : Place = record { x = 0; y = 0 } in
    let first : 0 < length c.args.places.now = omega (arith, c.requires.some) in
    let zero : c.loop-k.k ≡ 0 = omega (arith, c.loop-k-test.false) in
    let p = get_or-map pixel_of c.args.places.now 0 none (pixel_at 0 0) first in
    let made : c.first_step.result ≡ first_step g (get_or ps 0 (pixel_at 0 0)) c.loop-k.index = cc in
    let follows : Follows g ps c.args.d 0 c.loop-k.index c.loop-k.steps.items = subst (λ n. Follows g ps c.args.d n c.loop-k.index c.loop-k.steps.items) zero c.loop-k.invariant.follows in
    c.reverse.ensures.items ∙ ap reverse (c.in_ok-push-2.ensures.items ∙ ap (λ (s : Step). c.loop-k.steps.items ++ s ∷ []) made)
    ∙ follows_end g ps c.args.d c.loop-k.index c.loop-k.steps.items (omega (arith, first, length-map c.args.places.now pixel_of)) c.loop-k.invariant.index follows

pub loop-k-init : goal.loop-k-init
loop-k-init c =
    record {
      place = omega (arith, c.requires.some);
      index = c.requires.index;
      follows = subst (Follows (problem_of c.args.scene.now) (map pixel_of c.args.places.now) c.args.d (length c.args.places.now - 1) c.args.d) (sym c.in_ok-steps.ensures.items)
          (follows_start (problem_of c.args.scene.now) (map pixel_of c.args.places.now) c.args.d (length c.args.places.now - 1) (omega (arith, c.requires.some, length-map c.args.places.now pixel_of)));
    }
