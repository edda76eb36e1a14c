use Rattle.std.proofs.Common.{◌≡◌, ◌∙◌, ap, arith, rules, pos, ◌-ℤ◌, to_z, of_z}
use Rattle.std.proofs.Math.Facts.{Fits-of_lt}
use Rattle.std.proofs.lemmas.Int.{ints}
use Rattle.std.specs.Int.{w64}
use Rattle.sgm_base.specs.Columns.{column_within}
use Rattle.sgm_base.specs.Disparities.{Disparities}
use Rattle.sgm_select.proofs.Signs.{abs_below, column_abs, none_behind, none_below, not_below_zero, seen_is, wide_is}
use Rattle.sgm_select.proofs.check.seen_at.Goals.{else-q-ge0-via-then-q-ge0+else-q-width, else-q-ge0-via-else-q-ge0}
use Rattle.sgm_select.proofs.check.seen_at.Goals as goal

pub overflow_sub-q-2 : goal.overflow_sub-q-2
overflow_sub-q-2 c = omega (arith, ints, c.from.ensures, c.from-2.ensures)

pub overflow_cast-result : goal.overflow_cast-result
overflow_cast-result c =
    let below = abs_below c.args.width _ c.if-q-ge0.true (rw (wide_is c.args.width c.requires.wide) at c.if-q-width.true) in
    (not_below_zero _ c.if-q-ge0.true, Fits-of_lt (omega (arith, below, c.requires.wide)))

pub returns-then-q-width-clause-inside : goal.returns-then-q-width-clause-inside
returns-then-q-width-clause-inside c =
    abs_below c.args.width _ c.if-q-ge0.true (rw (wide_is c.args.width c.requires.wide) at c.if-q-width.true)

pub returns-then-q-width-clause-value : goal.returns-then-q-width-clause-value
returns-then-q-width-clause-value c =
    column_abs c.args.width _ c.if-q-ge0.true (rw (wide_is c.args.width c.requires.wide) at c.if-q-width.true)
    ∙ ap (column_within c.args.width)
    (seen_is c.args.x c.args.d c.args.span.first c.span.inside.first c.from.result c.from-2.result (omega arith) (omega arith) (search rules) c.from.ensures c.from-2.ensures
    (ap (λ (s : Disparities). s.first) c.span.view_is))

pub returns-else-q-ge0-clause-value : goal.returns-else-q-ge0-clause-value
returns-else-q-ge0-clause-value c =
    let q = to_z w64 (of_z w64 (to_z w64 (of_z w64 (to_z w64 c.args.x -ℤ to_z w64 (of_z w64 c.from.result))) -ℤ to_z w64 (of_z w64 c.from-2.result))) in
    let is : q ≡ (pos c.args.x -ℤ c.args.span.first) -ℤ pos c.args.d =
    seen_is c.args.x c.args.d c.args.span.first c.span.inside.first c.from.result c.from-2.result (omega arith) (omega arith) (search rules) c.from.ensures c.from-2.ensures
    (ap (λ (s : Disparities). s.first) c.span.view_is) in
    elim c.else-q-ge0.branch [
      | else-q-ge0-via-then-q-ge0+else-q-width w ↦
          none_behind c.args.width q (rw (wide_is c.args.width c.requires.wide) at w.if-q-width.false) ∙ ap (column_within c.args.width) is
      | else-q-ge0-via-else-q-ge0 w ↦ none_below c.args.width q w.if-q-ge0.false ∙ ap (column_within c.args.width) is
    ]
