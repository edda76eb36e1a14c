use Rattle.std.proofs.Common.{◌+◌, ◌-◌, ◌*◌, ℕ, refl, slice_index, take, drop, arith}
use Rattle.sgm_energy.specs.Pens.{penalties_of}
use Rattle.sgm_path.specs.Paths.{terms_of}
use Rattle.sgm_path.proofs.Follow.{follows_same, part_at}
use Rattle.sgm_path.proofs.Sweeps.{entry_follows}
use Rattle.sgm_path.proofs.pair.step_into.Goals as goal

pub returns-in-Some-clause-each : goal.returns-in-Some-clause-each
returns-in-Some-clause-each g c d h =
    let row = c.args.row.now in
    let from : ℕ = c.in-Some.z * row.count in
    let n : ℕ = from + row.count - from in
    let value : ℕ = slice_index c.follow.new.into d in
    entry_follows (terms_of row) c.args.before.now c.args.x c.in-Some.z d value c.far_at-far.result c.far_at-far.ensures.value
    c.in-Some.ensures.value
    (follows_same (slice_index (take n (drop from c.args.before.now))) (λ a. slice_index c.args.before.now (from + a)) row.count
    (penalties_of row.pen).p1 c.far_at-far.result _ _ d value value h
    (λ k hk. part_at c.args.before.now from n k (omega (arith, hk)))
    refl
    refl
    (c.follow.ensures.each d h))
