use Rattle.std.proofs.Common.{◌≡◌, ◌≤ℤ◌, to_z, of_z, w16, arith}
use Rattle.std.proofs.lemmas.Int.{ints}
use Rattle.sgm_fine.specs.Windows.{number}
use Rattle.sgm_fine.proofs.Gathering.{least_more}
use Rattle.sgm_fine.proofs.whole.least_of.Goals as goal

pub loop-k-preserved : goal.loop-k-preserved
loop-k-preserved c =
    let k = c.loop-k.k in
    let before = c.loop-k.invariant in
    let one = c.min in
    let two = c.min-least in
    let three = c.min-in-loop-k in
    let four = c.min-least-in-loop-k in
    let f1 : to_z w16 (of_z w16 one.result) ≡ one.result = omega (arith, ints, one.type_inv) in
    let f2 : to_z w16 (of_z w16 two.result) ≡ two.result = omega (arith, ints, two.type_inv) in
    let f3 : to_z w16 (of_z w16 three.result) ≡ three.result = omega (arith, ints, three.type_inv) in
    let f4 : to_z w16 (of_z w16 four.result) ≡ four.result = omega (arith, ints, four.type_inv) in
    let l1 = one.ensures in
    let l2 = two.ensures in
    let l3 = three.ensures in
    let l4 = four.ensures in
    let old : to_z w16 (of_z w16 four.result) ≤ℤ to_z w16 c.loop-k.least-bits = omega (arith, ints, f1, f2, f3, f4, l1.self_bound, l2.self_bound, l3.self_bound, l4.self_bound) in
    record {
      few = omega (arith, c.loop-k-test.true);
      first = least_more (number c.args.a.now) k _ _ old before.first (omega (arith, ints, f1, f2, f3, f4, l1.other_bound, l2.self_bound, l3.self_bound, l4.self_bound, c.lane.ensures, c.lane.type_inv));
      second = least_more (number c.args.b.now) k _ _ old before.second (omega (arith, ints, f1, f2, f3, f4, l2.other_bound, l3.self_bound, l4.self_bound, c.lane-in-loop-k.ensures, c.lane-in-loop-k.type_inv));
      third = least_more (number c.args.c.now) k _ _ old before.third (omega (arith, ints, f1, f2, f3, f4, l3.other_bound, l4.self_bound, c.lane-in-loop-k-2.ensures, c.lane-in-loop-k-2.type_inv));
      fourth = least_more (number c.args.d.now) k _ _ old before.fourth (omega (arith, ints, f1, f2, f3, f4, l4.other_bound, c.lane-in-loop-k-3.ensures, c.lane-in-loop-k-3.type_inv));
    }
