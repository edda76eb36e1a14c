use Rattle.std.proofs.lemmas.Int.{to_z-of_z}
use Rattle.std.proofs.Common.{w64, ℤ, pos, negsuc, ◌+ℤ◌, ◌*ℤ◌, ◌≤ℤ◌, ap, sym, ◌∙◌, subst, arith}
use Rattle.sgm_rectify.proofs.Sums.{Within, Within-add, sum3, sum3-fits}
use Rattle.sgm_rectify.proofs.place.affine_of.Goals as goal

pub overflow_add-result-2 : goal.overflow_add-result-2
overflow_add-result-2 c =
    sum3-fits 4502500115742720 4502500115742720 1099511627776 c.times.result c.times-2.result c.args.c (omega arith)
    (record { low = c.times.ensures.low; high = c.times.ensures.high })
    (record { low = c.times-2.ensures.low; high = c.times-2.ensures.high })
    (record { low = c.requires.c.0; high = c.requires.c.1 })

pub returns : goal.returns
returns c =
    let p = c.times.result in
    let q = c.times-2.result in
    let r = c.args.c in
    let in_p : Within 4502500115742720 p = record { low = c.times.ensures.low; high = c.times.ensures.high } in
    let in_q : Within 4502500115742720 q = record { low = c.times-2.ensures.low; high = c.times-2.ensures.high } in
    let in_r : Within 1099511627776 r = record { low = c.requires.c.0; high = c.requires.c.1 } in
    let sum = sum3 4502500115742720 4502500115742720 1099511627776 p q r (omega arith) in_p in_q in_r in
    let in_sum = Within-add 9005000231485440 1099511627776 (p +ℤ q) r (Within-add 4502500115742720 4502500115742720 p q in_p in_q) in_r in
    record {
      value =
          sum ∙ ap (λ (z : ℤ). (z +ℤ q) +ℤ r) (c.times.ensures.value ∙ ap (λ (z : ℤ). z *ℤ pos c.args.x) (to_z-of_z w64 c.args.a c.ranges.a))
          ∙ ap (λ (z : ℤ). ((c.args.a *ℤ pos c.args.x) +ℤ z) +ℤ r) (c.times-2.ensures.value ∙ ap (λ (z : ℤ). z *ℤ pos c.args.y) (to_z-of_z w64 c.args.b c.ranges.b));
      low = subst (λ (z : ℤ). negsuc 9006099743113215 ≤ℤ z) (sym sum) in_sum.low;
      high = subst (λ (z : ℤ). z ≤ℤ pos 9006099743113216) (sym sum) in_sum.high;
    }
