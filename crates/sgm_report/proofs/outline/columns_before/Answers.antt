use Rattle.std.proofs.Common.{◌≡◌, ◌^◌, ◌+◌, pos, ◌+ℤ◌, ◌-ℤ◌, to_z, of_z, arith, ap₂, ◌∙◌}
use Rattle.std.specs.Int.{int_div_euclid, int_max, int_min, w128}
use Rattle.std.proofs.lemmas.Int.{ints, clamps}
use Rattle.sgm_base.specs.Ranges.{Within}
use Rattle.sgm_report.proofs.Crossings.{below_is, divided_near}
use Rattle.sgm_report.proofs.outline.columns_before.Goals as goal

pub returns-clause-value : goal.returns-clause-value
returns-clause-value c index h =
    let x = c.args.crossing in let d = c.args.step in
    let near = c.requires.crossing in let range = c.requires.step in
    let top : to_z w128 (of_z w128 (to_z w128 (of_z w128 x) -ℤ pos 1)) ≡ x -ℤ pos 1 = omega (arith, ints, near.0, near.1) in
    let bottom : to_z w128 (of_z w128 d) ≡ d = omega (arith, ints, range.0, range.1) in
    let quotient : c.div_euclid-last.result ≡ int_div_euclid (x -ℤ pos 1) d = c.div_euclid-last.ensures ∙ ap₂ int_div_euclid top bottom in
    let small : Within (2 ^ 100 + 1) (int_div_euclid (x -ℤ pos 1) d) =
    divided_near (x -ℤ pos 1) d _ (omega (arith, ints, near.0), omega (arith, ints, near.1)) range.0 in
    let clamped : to_z w128 (of_z w128 c.clamp.result) ≡ int_max (pos 0) (int_min (int_div_euclid (x -ℤ pos 1) d +ℤ pos 1) (pos c.args.count)) =
    omega (arith, ints, clamps, c.clamp.ensures.value, quotient, small.0, small.1) in
    below_is index c.args.count x d _ range.0 h clamped
