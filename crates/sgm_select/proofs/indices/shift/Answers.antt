use Rattle.std.proofs.Common.{◌≡◌, ap, arith}
use Rattle.std.proofs.lemmas.Int.{ints}
use Rattle.sgm_base.specs.Disparities.{Disparities}
use Rattle.sgm_select.proofs.indices.shift.Goals as goal

pub overflow_sub-result : goal.overflow_sub-result
overflow_sub-result c = omega (arith, ints, c.from.ensures)

pub returns : goal.returns
returns c =
    let first : c.span.inside.first ≡ c.args.span.first = ap (λ (s : Disparities). s.first) c.span.view_is in
    omega (arith, ints, c.from.ensures, first)
