use Rattle.std.proofs.Common.{◌+◌, ◌<◌, arith, sym, ap, ◌∙◌, subst}
use Rattle.sgm_base.specs.Ranges.{Within}
use Rattle.sgm_grid.specs.Bridges.{Pier, between}
use Rattle.sgm_grid.proofs.Spans.{between_is, between_within, height_fits, height_kept, product_fits, weighed_fits, weighed_near}
use Rattle.sgm_grid.proofs.bridges.between.Goals as goal

pub overflow_mul-weighed : goal.overflow_mul-weighed
overflow_mul-weighed c = product_fits _ _ c.before-2.invariant.2 c.behind.invariant.1

pub overflow_mul-weighed-2 : goal.overflow_mul-weighed-2
overflow_mul-weighed-2 c = product_fits _ _ c.behind.invariant.2 c.before-2.invariant.1

pub overflow_add-weighed : goal.overflow_add-weighed
overflow_add-weighed c = weighed_fits _ _ _ _ c.before-2.invariant.2 c.behind.invariant.2 c.before-2.invariant.1 c.behind.invariant.1

pub rounded-requires-clause-a_in_range : goal.rounded-requires-clause-a_in_range
rounded-requires-clause-a_in_range c = weighed_near _ _ _ _ c.before-2.invariant.2 c.behind.invariant.2 c.before-2.invariant.1 c.behind.invariant.1

pub overflow_cast-result : goal.overflow_cast-result
overflow_cast-result c =
    let before = c.before-2.invariant in
    let behind = c.behind.invariant in
    let some : 0 < c.before-2.inside.away + c.behind.inside.away = omega (arith, before.0) in
    height_fits _ (between_within _ _ _ _ _ before.2 behind.2 some (between_is _ _ _ _ _ before.2 behind.2 before.1 behind.1 c.rounded.ensures))

pub returns : goal.returns
returns c =
    let before = c.before-2.invariant in
    let behind = c.behind.invariant in
    let some : 0 < c.before-2.inside.away + c.behind.inside.away = omega (arith, before.0) in
    let is = between_is _ _ _ _ _ before.2 behind.2 before.1 behind.1 c.rounded.ensures in
    let near = between_within _ _ _ _ _ before.2 behind.2 some is in
    let kept = height_kept c.rounded.result near in
    let second : Pier = record { away = c.behind.inside.away; height = c.behind.inside.height } in
    record {
      value = kept ∙ is ∙ ap (λ (p : Pier). between p second) c.before-2.view_is ∙ ap (λ (p : Pier). between c.args.before p) c.behind.view_is;
      in_range = subst (Within 2000000000) (sym kept) near;
    }
