use Rattle.std.proofs.Common.{◌≡◌, ℤ, to_z, of_z, w64, arith, ap}
use Rattle.std.proofs.lemmas.Int.{ints}
use Rattle.sgm_report.specs.Tallies.{square}
use Rattle.sgm_change.proofs.Counted.{changed_is}
use Rattle.sgm_change.proofs.compare.Counts.over.Goals as goal

pub returns : goal.returns
returns c = λ cells e.
    let same : to_z w64 (of_z w64 c.args.side) ≡ c.args.side = omega (arith, ints, c.requires.side.0, c.requires.side.1) in
    changed_is c.args.side _ cells c.args.self e (ap (λ (z : ℤ). square z) same)
