use Rattle.std.proofs.Common.{◌≡◌, ◌/◌, ◌∙◌, false, Some, None, get_or, sym, ap, subst, inl, inr, arith}
use Rattle.std.specs.Prelude.{option_and_then}
use Rattle.std.proofs.lemmas.Bool.{cases_eq}
use Rattle.sgm_base.specs.Columns.{left_column}
use Rattle.sgm_base.specs.Sides.{Sides}
use Rattle.sgm_refine.proofs.Mismatched.{given_from, mismatched_from, same_tests}
use Rattle.sgm_refine.specs.Met.{matched_column}
use Rattle.sgm_refine.proofs.filling.mark_row.Goals as goal

pub loop-q-init : goal.loop-q-init
loop-q-init c = record {
  given = λ x hx e. (let h : get_or c.clear.new.marks x false ≡ false = c.clear.ensures x (omega arith) in absurd (cc));
  marked = λ x q h. absurd (omega arith);
}

pub loop-q-preserved : goal.loop-q-preserved
loop-q-preserved c =
    let m = c.args.matched.now in
    let q = c.loop-q.q in
    let wide : c.width.inside.width ≡ m.width = ap (λ (s : Sides). s.width) c.width.view_is ∙ c.size.ensures.width in
    let column = c.matched_column.result in
    let is : column ≡ matched_column m.width c.args.span.first c.row-values.result.now q =
    c.matched_column.ensures.value ∙ ap (λ w. option_and_then (λ v. left_column w c.args.span.first q (v / 16)) (get_or c.row-values.result.now q None)) wide in
    record {
      given = λ x hx e. elim (c.mark.ensures.alone x e) [
        | inl old ↦ (let g = c.loop-q.invariant.given x hx old in (g.0, omega (arith, g.1), g.2))
        | inr new ↦ (q, omega arith, sym is ∙ new)
      ];
      marked = λ x r h e. elim (cases_eq r q) [
        | inl same ↦ c.mark.ensures.marked x (is ∙ subst (λ n. matched_column m.width c.args.span.first c.row-values.result.now n ≡ Some x) same e)
        | inr other ↦ c.mark.ensures.kept x (c.loop-q.invariant.marked x r (omega arith) e)
      ];
    }

pub returns : goal.returns
returns c x hx =
    let m = c.args.matched.now in
    let values = c.row-values.result.now in
    let wide : c.width.inside.width ≡ m.width = ap (λ (s : Sides). s.width) c.width.view_is ∙ c.size.ensures.width in
    same_tests _ _
    (λ e. let g = c.loop-q.invariant.given x hx e in
    mismatched_from m c.args.span.first c.args.span.count x c.args.y g.0 values c.size.ensures.kept c.requires.indices c.row-values.ensures.value c.requires.row (omega (arith, g.1, c.loop-q.auto.q-end, wide)) g.2)
    (λ e. let g = given_from m c.args.span.first c.args.span.count x c.args.y values c.row-values.ensures.value c.requires.row hx e in
    c.loop-q.invariant.marked x g.0 (omega (arith, g.1, c.loop-q-test.false, wide)) g.2)
