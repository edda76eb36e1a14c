use Rattle.std.proofs.Common.{ℤ, Option, Some, [], ◌∷◌, sym, ap, ◌∙◌, subst}
use Rattle.std.specs.List.{filter_map}
use Rattle.sgm_base.specs.Ranges.{Within}
use Rattle.sgm_grid.specs.Keeping.{mean}
use Rattle.sgm_grid.proofs.Spans.{both_is, both_within, height_fits, height_kept}
use Rattle.sgm_grid.proofs.bridges.mean.Goals as goal

pub overflow_cast-result : goal.overflow_cast-result
overflow_cast-result c =
    let one = c.requires.one _ c.in-Some-Some.is-0 in
    let other = c.requires.other _ c.in-Some-Some.is-1 in
    height_fits _ (both_within _ _ _ one other (both_is _ _ _ one other c.rounded.ensures))

pub returns-in-Some-Some : goal.returns-in-Some-Some
returns-in-Some-Some c =
    let one = c.requires.one _ c.in-Some-Some.is-0 in
    let other = c.requires.other _ c.in-Some-Some.is-1 in
    let is = both_is _ _ _ one other c.rounded.ensures in
    let near = both_within _ _ _ one other is in
    let kept = height_kept c.rounded.result near in
    record {
      value = ap (λ (z : ℤ). given z) (kept ∙ is)
          ∙ ap (λ (o : Option ℤ). mean (filter_map (λ height. height) (o ∷ Some c.in-Some-Some.other ∷ []))) (sym c.in-Some-Some.is-0)
          ∙ ap (λ (o : Option ℤ). mean (filter_map (λ height. height) (c.args.one ∷ o ∷ []))) (sym c.in-Some-Some.is-1);
      in_range = subst (Within 2000000000) (sym kept) near;
    }
  where
    given : ℤ → Option ℤ
    given z = Some z
