use Rattle.std.proofs.Common.{◌≡◌, ◌*◌, ◌+◌, ◌/◌, ◌==◌, ◌&&◌, not, true, false, pos, int_le, ◌≤ℤ◌, unsigned_abs, to_z, of_z, w64, arith, refl, subst, sym, ap, ap₂, ◌∙◌}
use Rattle.std.proofs.lemmas.Int.{ints}
use Rattle.sgm_base.specs.Ranges.{IsFromTo, Within}
use Rattle.sgm_fine.specs.Finer.{by_itself, explains, left_alone, place_score, with_left}
use Rattle.sgm_fine.specs.Scores.{HoldsParts}
use Rattle.sgm_fine.proofs.PixelSums.{by_itself_is, fit_kept, left_alone_is, left_from_to, right_from_to, together_within, with_left_is}
use Rattle.sgm_fine.proofs.PlaceTests.{explained}
use Rattle.sgm_fine.proofs.finer.tells.Goals as goal

pub returns-then-is_zero : goal.returns-then-is_zero
returns-then-is_zero c = λ p h held.
    let place = c.args.best.place in
    let none : true ≡ (place_score p place == 0) = sym c.if-is_zero.true ∙ c.is_zero.ensures ∙ ap (λ n. n == 0) held in
    ap (λ b. not b && explains (with_left p place) (left_alone p) (by_itself p place)) none

pub third-requires-clause-left : goal.third-requires-clause-left
unfolding HoldsParts
third-requires-clause-left c =
    let s = c.requires.small in
    let r = subst (IsFromTo (pos 0) (pos 19507500)) (sym s.holds.alone) (left_from_to s.window s.small) in
    (omega (arith, ints, r.0, r.1), omega (arith, ints, r.0, r.1))

pub third-requires-clause-right : goal.third-requires-clause-right
third-requires-clause-right c =
    let s = c.requires.small in
    let is = fit_kept c.fit_at-fit.result s.window c.args.best.place c.requires.place (c.fit_at-fit.ensures s.window s.holds) in
    let r = subst (IsFromTo (pos 0) (pos 321965280000)) (sym is.right) (right_from_to s.window c.args.best.place s.small c.requires.place) in
    (omega (arith, ints, r.0, r.1), omega (arith, ints, r.0, r.1))

pub square-requires : goal.square-requires
square-requires c =
    let s = c.requires.small in
    let is = fit_kept c.fit_at-fit.result s.window c.args.best.place c.requires.place (c.fit_at-fit.ensures s.window s.holds) in
    let r = subst (Within 2506140000) (sym is.together) (together_within s.window c.args.best.place s.small c.requires.place) in
    (omega (arith, ints, r.0, r.1), omega (arith, ints, r.0, r.1))

pub returns : goal.returns
unfolding HoldsParts
returns c = λ p h held.
    let place = c.args.best.place in
    let s = c.requires.small in
    let near = c.requires.place in
    let mine = fit_kept c.fit_at-fit.result s.window c.args.best.place c.requires.place (c.fit_at-fit.ensures s.window s.holds) in
    let is = fit_kept c.fit_at-fit.result h.window c.args.best.place c.requires.place (c.fit_at-fit.ensures h.window h.holds) in
    let t = with_left_is c.args.parts.now p h place c.fit_at-fit.result is in
    let r = by_itself_is c.args.parts.now p h place c.fit_at-fit.result is in
    let l = h.holds.alone ∙ left_alone_is c.args.parts.now p h in
    let lr = subst (IsFromTo (pos 0) (pos 19507500)) (sym s.holds.alone) (left_from_to s.window s.small) in
    let rr = subst (IsFromTo (pos 0) (pos 321965280000)) (sym mine.right) (right_from_to s.window place s.small near) in
    let tr = subst (Within 2506140000) (sym mine.together) (together_within s.window place s.small near) in
    let left : to_z w64 (of_z w64 c.args.parts.now.alone) ≡ c.args.parts.now.alone = omega (arith, ints, lr.0, lr.1) in
    let right : to_z w64 (of_z w64 c.fit_at-fit.result.right) ≡ c.fit_at-fit.result.right = omega (arith, ints, rr.0, rr.1) in
    let together : to_z w64 (of_z w64 c.fit_at-fit.result.together) ≡ c.fit_at-fit.result.together = omega (arith, ints, tr.0, tr.1) in
    let third : to_z w64 (of_z w64 c.third.result) ≡ c.third.result = omega (arith, ints, c.third.type_inv) in
    let square : to_z w64 (of_z w64 c.square.result) ≡ c.square.result = omega (arith, ints, c.square.type_inv) in
    let a = third ∙ c.third.ensures ∙ ap₂ (λ y z. pos ((unsigned_abs y * unsigned_abs z + 2) / 3)) (left ∙ l) (right ∙ r) in
    let b = square ∙ c.square.ensures ∙ ap (λ z. pos (unsigned_abs z * unsigned_abs z)) (together ∙ t) in
    let some : (place_score p place == 0) ≡ false = sym (c.is_zero.ensures ∙ ap (λ n. n == 0) held) ∙ c.if-is_zero.false in
    ap₂ int_le a b
    ∙ explained (with_left p place) (left_alone p) (by_itself p place) _ _ (subst (λ z. pos 0 ≤ℤ z) l lr.0) (subst (λ z. pos 0 ≤ℤ z) r rr.0) refl refl
    ∙ sym (ap (λ n. not n && explains (with_left p place) (left_alone p) (by_itself p place)) some)
