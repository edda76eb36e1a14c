use Rattle.std.proofs.Common.{◌≡◌, Bool, true, false, if◌then◌else◌, int_lt, unsigned_abs, pos, w32, to_z, of_z, arith, ap, subst, sym, ◌∙◌}
use Rattle.std.proofs.lemmas.Int.{ints}
use Rattle.sgm_fine.specs.Scores.{AreParts, HoldsPart, HoldsParts, IsPart, blended, covariance}
use Rattle.sgm_fine.specs.Windows.{number}
use Rattle.sgm_fine.specs.declared.scores.Part.{Part}
use Rattle.sgm_fine.specs.declared.scores.Parts.{Parts}
use Rattle.sgm_fine.specs.declared.small.SmallWindow.{SmallWindow}
use Rattle.sgm_fine.proofs.scores.fit_at.Goals as goal

kept_side : (b : Bool) (r : Part) (parts : Parts) → r ≡ (if b then parts.after else parts.before) → AreParts parts → IsPart r
kept_side true r parts e h = subst IsPart (sym e) h.after
kept_side false r parts e h = subst IsPart (sym e) h.before

held_side : (b : Bool) (r : Part) (parts : Parts) (w : SmallWindow) → r ≡ (if b then parts.after else parts.before) → HoldsParts parts w
    → HoldsPart r (number w.left) (number w.here) (if b then number w.after else number w.before)
unfolding HoldsParts
held_side true r parts w e h = subst (λ (p : Part). HoldsPart p (number w.left) (number w.here) (number w.after)) (sym e) h.after
held_side false r parts w e h = subst (λ (p : Part). HoldsPart p (number w.left) (number w.here) (number w.before)) (sym e) h.before

pub fit_between-requires-clause-side : goal.fit_between-requires-clause-side
fit_between-requires-clause-side c =
    kept_side (int_lt (to_z w32 (of_z w32 c.args.c)) (pos 0)) c.side_of.result c.args.parts.now c.side_of.ensures c.requires.parts

pub returns : goal.returns
unfolding HoldsParts
returns c w held =
    let near : to_z w32 (of_z w32 c.args.c) ≡ c.args.c = omega (arith, ints, c.requires.place.0, c.requires.place.1) in
    let b = int_lt c.args.c (pos 0) in
    let is = c.side_of.ensures ∙ ap (λ z. if int_lt z (pos 0) then c.args.parts.now.after else c.args.parts.now.before) near in
    let s = if b then number w.after else number w.before in
    let n : c.unsigned_abs.result ≡ unsigned_abs c.args.c = c.unsigned_abs.ensures.value ∙ ap unsigned_abs near in
    let got = c.fit_between.ensures (number w.left) (number w.here) s held.here (held_side b c.side_of.result c.args.parts.now w is held) in
    record {
      together = got.0 ∙ ap (λ m. covariance (number w.left) (blended (number w.here) s m)) n;
      right = got.1 ∙ ap (λ m. covariance (blended (number w.here) s m) (blended (number w.here) s m)) n;
    }
