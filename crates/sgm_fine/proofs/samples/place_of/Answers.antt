use Rattle.std.proofs.Common.{◌≡◌, ◌&&◌, Some, is_some, inl, inr, pos, ◌+ℤ◌, ap, ap₂, sym, ◌∙◌}
use Rattle.std.proofs.lemmas.Bool.{cases_lt}
use Rattle.sgm_fine.specs.Samples.{has_rights, quotient}
use Rattle.sgm_fine.proofs.Between.{after_is, before_is, here_later, here_sooner, three_have, three_no_first, three_no_second, three_no_third, three_starts, three_third}
use Rattle.sgm_fine.proofs.PlaceSamples.{lacks_three}
use Rattle.sgm_fine.proofs.samples.place_of.Goals as goal

pub returns-in_err-three-clause-none : goal.returns-in_err-three-clause-none
returns-in_err-three-clause-none c = λ row u h.
    ap is_some c.from_residual-in_err-three.ensures ∙ lacks_three c.args.left (has_rights row u) (three_no_first c.args.three row u h c.in_err-three.was)

pub returns-in_err-three-2-clause-none : goal.returns-in_err-three-2-clause-none
returns-in_err-three-2-clause-none c = λ row u h.
    ap is_some c.from_residual-in_err-three-2.ensures ∙ lacks_three c.args.left (has_rights row u) (three_no_second c.args.three row u h c.in_err-three-2.was)

pub returns-in_err-three-3-clause-none : goal.returns-in_err-three-3-clause-none
returns-in_err-three-3-clause-none c = λ row u h.
    ap is_some c.from_residual-in_err-three-3.ensures
    ∙ lacks_three c.args.left (has_rights row u) (three_no_third c.args.three row u _ h c.in_ok-three-2.was c.in_err-three-3.was)

pub returns-clause-none : goal.returns-clause-none
returns-clause-none c = λ row u h.
    ap₂ (λ x y. x && y) (sym (ap is_some c.in_ok-left.was)) (three_have c.args.three row u _ _ _ h c.in_ok-three.was c.in_ok-three-2.was c.in_ok-three-3.was)

pub returns-clause-some : goal.returns-clause-some
returns-clause-some c = λ row u h.
    let three = c.args.three in
    let q = quotient u in
    let f = three.part in
    let s = three_starts three row u h in
    let first : row q ≡ Some c.from-first.result = sym h.first ∙ c.in_ok-three.was ∙ ap (λ n. Some n) (sym c.from-first.ensures) in
    let second : row (q +ℤ pos 1) ≡ Some c.from-second.result = sym h.second ∙ c.in_ok-three-2.was ∙ ap (λ n. Some n) (sym c.from-second.ensures) in
    let third = three_third three row u c.from-third.result h (c.in_ok-three-3.was ∙ ap (λ n. Some n) (sym c.from-third.ensures)) in
    let is = c.rights_of-rights.ensures in
    record {
      left = c.in_ok-left.was ∙ ap (λ n. Some n) (sym c.from-left.ensures);
      after = after_is row u q f _ _ s second third ∙ ap (λ n. Some n) (sym is.after);
      here = elim (cases_lt f 8) [
        | inl lt ↦ here_sooner row u q f _ _ s lt first second ∙ ap (λ n. Some n) (sym (is.sooner lt))
        | inr ge ↦ here_later row u q f _ _ s ge second third ∙ ap (λ n. Some n) (sym (is.later ge))
      ];
      before = before_is row u q f _ _ s first second ∙ ap (λ n. Some n) (sym is.before);
    }
