use Rattle.std.proofs.Common.{◌≡◌, ◌+◌, ◌*◌, ◌/◌, ◌%◌, ◌<◌, ◌-ℤ◌, unsigned_abs, pos, to_z, of_z, w16, arith, ap, ap₂, sym, ◌∙◌}
use Rattle.std.proofs.lemmas.Int.{ints}
use Rattle.sgm_fine.specs.Bands.{start}
use Rattle.sgm_fine.specs.Windows.{number}
use Rattle.sgm_fine.proofs.Gathering.{AreOf, gathered_more, gathered_renamed, lanes_with}
use Rattle.sgm_fine.proofs.whole.gather_right.Goals as goal

pub loop-i-preserved : goal.loop-i-preserved
unfolding start
loop-i-preserved c =
    let j = c.loop-j.j in
    let i = c.loop-i.i in
    let k = 5 * j + i in
    let lie = c.args.lie.now in
    let right = c.args.right.now in
    let before = c.loop-i.invariant in
    let lt : k < 25 = omega (arith, before.row, c.loop-i-test.true) in
    let ei : i ≡ k % 5 = omega (arith, c.loop-i-test.true) in
    let ej : j ≡ k / 5 = omega (arith, c.loop-i-test.true) in
    let s : c.start_of-start.result ≡ start lie k =
    ap unsigned_abs (c.start_of-start.ensures.value ∙ ap₂ (λ a b. (number lie.columns a -ℤ number lie.rows b) -ℤ pos 8) ei ej) in
    let n1 = c.number_at in
    let n2 = c.number_at-in-loop-i in
    let n3 = c.number_at-in-loop-i-2 in
    let f1 : to_z w16 (of_z w16 n1.result) ≡ n1.result = omega (arith, ints, n1.type_inv) in
    let f2 : to_z w16 (of_z w16 n2.result) ≡ n2.result = omega (arith, ints, n2.type_inv) in
    let f3 : to_z w16 (of_z w16 n3.result) ≡ n3.result = omega (arith, ints, n3.type_inv) in
    let part : to_z w16 (c.start_of-start.result % 16) ≡ pos (c.start_of-start.result % 16) = omega (arith, ints) in
    let more : 5 * j + (i + 1) ≡ k + 1 = omega arith in
    let is : AreOf _ _ _ _ right lie k = record {
      first = f1 ∙ n1.ensures ∙ ap₂ (λ a n. number right (4160 * a + n / 16)) ej s;
      second = f2 ∙ n2.ensures ∙ ap₂ (λ a n. number right (4160 * a + n / 16 + 1)) ej s;
      third = f3 ∙ n3.ensures ∙ ap₂ (λ a n. number right (4160 * a + n / 16 + 2)) ej s;
      part = part ∙ ap (λ n. pos (n % 16)) s;
    } in
    record {
      row = before.row;
      few = omega (arith, c.loop-i-test.true);
      each = gathered_renamed (k + 1) (5 * j + (i + 1)) _ right lie (sym more) (gathered_more c.loop-i.gathered right lie k _ _ _ _ lt before.rest is before.each);
      left = before.left;
      rest = lanes_with c.loop-i.gathered k _ _ _ _ lt before.rest;
    }
