use Rattle.std.proofs.Common.{◌≡◌, ◌+◌, ◌-◌, ◌*◌, ◌<◌, pos, negsuc, ◌+ℤ◌, ◌-ℤ◌, unsigned_abs, if◌then◌else◌, to_z, of_z, w32, arith, Option, Some, None, option_map, unwrap_or, refl, subst, sym, ap, ◌∙◌}
use Rattle.std.proofs.lemmas.Int.{ints}
use Rattle.sgm_fine.specs.Finer.{fits, place_score, takes}
use Rattle.sgm_fine.specs.Scores.{HoldsParts, HoldsWalk, divided, score}
use Rattle.sgm_fine.specs.Windows.{number}
use Rattle.sgm_fine.specs.declared.score.Score.{Score}
use Rattle.sgm_fine.specs.declared.small.SmallWindow.{SmallWindow}
use Rattle.sgm_fine.proofs.PixelSums.{score_is, together_small}
use Rattle.sgm_fine.proofs.PlaceTests.{IsBest, best_all, best_first, best_goes_on, best_score, near_own, near_taken, places_of}
use Rattle.sgm_fine.proofs.Walks.{fit_after, fit_before, walk_within}
use Rattle.sgm_fine.proofs.finer.best.Goals as goal

first_score : (found : Option Score) (other : Score) → divided other ≡ 0 → divided (unwrap_or found other) ≡ unwrap_or (option_map divided found) 0
first_score (Some score) other e = refl
first_score None other e = e

pub of-requires : goal.of-requires
unfolding HoldsParts
of-requires c =
    let s = c.requires.small in
    together_small c.walk_from-before.result.fit s.window (pos 0) s.small (omega (arith, ints), omega (arith, ints))
    (fit_before c.walk_from-before.result s.window 0 (c.walk_from-before.ensures _ _ _ s.holds.here s.holds.before))

pub loop-n-init : goal.loop-n-init
unfolding HoldsParts
loop-n-init c = record {
  some = omega (arith, ints);
  few = omega (arith, ints);
  near = near_own c.args.most c.args.m c.ranges.m.fits;
  after = λ w h. c.walk_from-after.ensures _ _ _ h.here h.after;
  before = λ w h. c.walk_from-before.ensures _ _ _ h.here h.before;
  held = λ p h.
      best_first (fits c.args.most c.args.m) (place_score p) (divided c.unwrap_or.result)
      (ap (λ (s : Score). divided s) c.unwrap_or.ensures ∙ first_score c.of.result c.zero.result c.zero.ensures ∙ c.of.ensures
      ∙ score_is c.args.parts.now p h (pos 0) c.walk_from-before.result.fit
      (fit_before c.walk_from-before.result h.window 0 (c.walk_from-before.ensures _ _ _ h.holds.here h.holds.before)));
}

pub advanced-after-requires : goal.advanced-after-requires
unfolding HoldsParts
advanced-after-requires c =
    let s = c.requires.small in
    let i = c.loop-n.invariant in
    let p = c.requires.parts in
    walk_within c.loop-n.after c.args.parts.now.here c.args.parts.now.after _ _ _ (unsigned_abs (to_z w32 c.loop-n.n-bits) - 1) (omega (arith, ints, i.few)) p.here p.after s.holds.here s.holds.after (i.after s.window s.holds)

pub advanced-before-requires : goal.advanced-before-requires
unfolding HoldsParts
advanced-before-requires c =
    let s = c.requires.small in
    let i = c.loop-n.invariant in
    let p = c.requires.parts in
    walk_within c.loop-n.before c.args.parts.now.here c.args.parts.now.before _ _ _ (unsigned_abs (to_z w32 c.loop-n.n-bits) - 1) (omega (arith, ints, i.few)) p.here p.before s.holds.here s.holds.before (i.before s.window s.holds)

pub better-best-requires-clause-together : goal.better-best-requires-clause-together
better-best-requires-clause-together c =
    let s = c.requires.small in
    let i = c.loop-n.invariant in
    let n = unsigned_abs (to_z w32 c.loop-n.n-bits) - 1 in
    let lt : n < 8 = omega (arith, ints, c.loop-n-test.true) in
    together_small c.advanced-after.result.fit s.window (negsuc n) s.small (omega (arith, ints, lt), omega (arith, ints))
    (fit_after c.advanced-after.result s.window n (c.advanced-after.ensures _ _ _ n lt (i.after s.window s.holds)))

pub better-best-requires-in-loop-n-clause-together : goal.better-best-requires-in-loop-n-clause-together
better-best-requires-in-loop-n-clause-together c =
    let s = c.requires.small in
    let i = c.loop-n.invariant in
    let n = unsigned_abs (to_z w32 c.loop-n.n-bits) - 1 in
    let lt : n < 8 = omega (arith, ints, c.loop-n-test.true) in
    together_small c.advanced-before.result.fit s.window (pos (n + 1)) s.small (omega (arith, ints), omega (arith, ints, lt))
    (fit_before c.advanced-before.result s.window (n + 1) (c.advanced-before.ensures _ _ _ n lt (i.before s.window s.holds)))

pub loop-n-preserved : goal.loop-n-preserved
loop-n-preserved c =
    let m = c.args.m in
    let most = c.args.most in
    let i = c.loop-n.invariant in
    let n = unsigned_abs (to_z w32 c.loop-n.n-bits) - 1 in
    let lt : n < 8 = omega (arith, ints, c.loop-n-test.true) in
    let next : unsigned_abs (to_z w32 (of_z w32 (to_z w32 c.loop-n.n-bits +ℤ pos 1))) - 1 ≡ n + 1 = omega (arith, ints, i.some, c.loop-n-test.true) in
    let behind : to_z w32 (of_z w32 (pos 0 -ℤ to_z w32 c.loop-n.n-bits)) ≡ negsuc n = omega (arith, ints, i.some, c.loop-n-test.true) in
    let ahead : to_z w32 c.loop-n.n-bits ≡ pos (n + 1) = omega (arith, ints, i.some) in
    let after = c.advanced-after.result in
    let before = c.advanced-before.result in
    let first = c.better-best.result in
    let second = c.better-best-in-loop-n.result in
    let here = score after.fit.together after.fit.right in
    let there = score before.fit.together before.fit.right in
    let old = divided c.loop-n.best.score in
    let one : first.place ≡ (if takes most m (negsuc n) here old then negsuc n else c.loop-n.best.place) =
    c.better-best.ensures.place ∙ ap (λ z. if takes most m z here old then z else c.loop-n.best.place) behind in
    let two : second.place ≡ (if takes most m (pos (n + 1)) there (divided first.score) then pos (n + 1) else first.place) =
    c.better-best-in-loop-n.ensures.place ∙ ap (λ z. if takes most m z there (divided first.score) then z else first.place) ahead in
    let first_is = c.better-best.ensures.score ∙ ap (λ z. if takes most m z here old then here else old) behind in
    let second_is = c.better-best-in-loop-n.ensures.score ∙ ap (λ z. if takes most m z there (divided first.score) then there else divided first.score) ahead in
    let went = λ (w : SmallWindow) (h : HoldsParts c.args.parts.now w). c.advanced-after.ensures (number w.left) (number w.here) (number w.after) n lt (i.after w h) in
    let came = λ (w : SmallWindow) (h : HoldsParts c.args.parts.now w). c.advanced-before.ensures (number w.left) (number w.here) (number w.before) n lt (i.before w h) in
    record {
      some = omega (arith, ints, i.some, c.loop-n-test.true);
      few = omega (arith, ints, i.some, c.loop-n-test.true);
      near = near_taken most m (pos (n + 1)) first.place second.place _ c.ranges.most.fits (omega (arith, ints), omega (arith, ints, lt)) two
          (near_taken most m (negsuc n) c.loop-n.best.place first.place _ c.ranges.most.fits (omega (arith, ints, lt), omega (arith, ints)) one i.near);
      after = λ w h. subst (HoldsWalk after (number w.left) (number w.here) (number w.after)) (sym next) (went w h);
      before = λ w h. subst (HoldsWalk before (number w.left) (number w.here) (number w.before)) (sym next) (came w h);
      held = λ p h.
          let test = fits most m in
          let k = 2 * n + 1 in
          let is = fit_after after h.window n (went h.window h.holds) in
          let next_is = fit_before before h.window (n + 1) (came h.window h.holds) in
          let few : k + 1 < 17 = omega (arith, lt) in
          let turn : k + 1 + 1 ≡ 2 * (unsigned_abs (to_z w32 (of_z w32 (to_z w32 c.loop-n.n-bits +ℤ pos 1))) - 1) + 1 = omega (arith, next) in
          subst (λ j. IsBest test (place_score p) j second.place (divided second.score)) turn
          (best_goes_on test (place_score p) (k + 1) (pos (n + 1)) first.place second.place (divided first.score) there (divided second.score) few (places_of n lt).1
          (score_is c.args.parts.now p h (pos (n + 1)) before.fit next_is) two second_is
          (best_goes_on test (place_score p) k (negsuc n) c.loop-n.best.place first.place old here (divided first.score) (omega (arith, few)) (places_of n lt).0
          (score_is c.args.parts.now p h (negsuc n) after.fit is) one first_is (i.held p h)));
    }

pub returns-clause-value : goal.returns-clause-value
returns-clause-value c = λ p count h e f.
    let i = c.loop-n.invariant in
    let end : 2 * (unsigned_abs (to_z w32 c.loop-n.n-bits) - 1) + 1 ≡ 17 = omega (arith, ints, i.few, c.loop-n-test.false) in
    best_all c.args.most c.args.m count p c.loop-n.best.place (divided c.loop-n.best.score) e f
    (subst (λ k. IsBest (fits c.args.most c.args.m) (place_score p) k c.loop-n.best.place (divided c.loop-n.best.score)) end (i.held p h))

pub returns-clause-score : goal.returns-clause-score
returns-clause-score c = λ p h.
    best_score (fits c.args.most c.args.m) (place_score p) _ c.loop-n.best.place (divided c.loop-n.best.score) (c.loop-n.invariant.held p h)
