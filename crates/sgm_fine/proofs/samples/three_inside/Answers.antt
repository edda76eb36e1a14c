use Rattle.std.proofs.Common.{◌≡◌, ◌+◌, ◌/◌, ◌%◌, pos, ◌+ℤ◌, ◌-ℤ◌, unsigned_abs, to_z, of_z, w32, arith, ap, sym, ◌∙◌}
use Rattle.std.specs.Prelude.{min}
use Rattle.std.proofs.lemmas.Int.{ints}
use Rattle.sgm_fine.specs.Samples.{quotient, rest, sample}
use Rattle.sgm_fine.proofs.Between.{quotient_is, rest_is, started}
use Rattle.sgm_fine.proofs.samples.three_inside.Goals as goal

pub returns-clause-holds : goal.returns-clause-holds
returns-clause-holds c =
    let row = sample c.args.plane.now c.args.y in
    let u = c.args.u in
    let within = c.requires.inside in
    let n = unsigned_abs (to_z w32 (of_z w32 (to_z w32 (of_z w32 u) -ℤ pos 8))) in
    let start : u -ℤ pos 8 ≡ pos n = omega (arith, ints, started u c.requires.near, within.0) in
    let q : quotient u ≡ pos (n / 16) = quotient_is u n start in
    let part : n % 16 ≡ rest u = sym (rest_is u n start) in
    let second : pos (n / 16 + 1) ≡ quotient u +ℤ pos 1 = omega (arith, ints, q) in
    let third : pos (n / 16 + 1 + c.min.result) ≡ (quotient u +ℤ pos 1) +ℤ pos (min (n % 16) 1) = omega (arith, ints, q, c.min.ensures) in
    record {
      part = part;
      first = c.sample_inside.ensures ∙ ap row (sym q);
      second = c.sample_inside-2.ensures ∙ ap row second;
      third = c.sample_inside-3.ensures ∙ ap row third;
    }
