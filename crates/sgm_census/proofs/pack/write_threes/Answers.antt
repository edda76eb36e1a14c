use Rattle.std.proofs.Common.{◌+◌, ◌-◌, ◌*◌, ◌^◌, ◌≤◌, arith, length, slice_index}
use Rattle.std.proofs.Math.Nat.{pow-le-pow_right}
use Rattle.sgm_census.proofs.RowBits.{bits_small}
use Rattle.sgm_census.proofs.Threes.{threes_more}
use Rattle.sgm_census.proofs.pack.write_threes.Goals as goal

pub push_three-requires-clause-room : goal.push_three-requires-clause-room
push_three-requires-clause-room c = λ k h.
    let few : 3 * c.loop-i.i ≤ 6 = omega arith in
    let power : 2 ^ (3 * c.loop-i.i) ≤ 2 ^ 6 = pow-le-pow_right {n = 2} (omega arith) few in
    omega (arith, c.loop-i.invariant k h, bits_small (slice_index c.args.centres.now k) c.args.row.now k (3 * c.loop-i.i), power)

pub loop-i-preserved : goal.loop-i-preserved
loop-i-preserved c = λ k h.
    let at = 3 * c.loop-i.i in
    threes_more (slice_index c.args.centres.now k) c.args.row.now k at (3 * (c.loop-i.i + 1)) (at + length c.fill.new.self + 2 - at) (slice_index c.loop-i.bits k) (slice_index c.push_three.new.bits k)
    (omega arith) (omega arith) (c.loop-i.invariant k (omega arith)) (c.push_three.ensures k h)
