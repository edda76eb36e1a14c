use Rattle.std.proofs.Common.{◌≡◌, pos, w64, to_z, arith}
use Rattle.std.proofs.lemmas.Int.{ints, to_z-of_z}
use Rattle.sgm_rectify.proofs.Sums.{Within, product, product-fits, product-within}
use Rattle.sgm_rectify.proofs.place.times.Goals as goal

pub overflow_mul-result : goal.overflow_mul-result
overflow_mul-result c =
    let n = pos c.args.n in
    let in_a : Within 1099511627776 c.args.a = record { low = c.requires.a.0; high = c.requires.a.1 } in
    let in_n : Within 4095 n = record { low = omega (arith, ints); high = omega (arith, ints, c.requires.n) } in
    let n_kept : to_z w64 c.args.n ≡ n = omega (arith, ints, c.requires.n) in
    product-fits 1099511627776 4095 c.args.a n _ _ (to_z-of_z w64 c.args.a c.ranges.a) n_kept (omega arith) in_a in_n

pub returns : goal.returns
returns c =
    let n = pos c.args.n in
    let in_a : Within 1099511627776 c.args.a = record { low = c.requires.a.0; high = c.requires.a.1 } in
    let in_n : Within 4095 n = record { low = omega (arith, ints); high = omega (arith, ints, c.requires.n) } in
    let n_kept : to_z w64 c.args.n ≡ n = omega (arith, ints, c.requires.n) in
    let a_kept = to_z-of_z w64 c.args.a c.ranges.a in
    let within = product-within 1099511627776 4095 c.args.a n _ _ a_kept n_kept (omega arith) in_a in_n in
    record {
      value = product 1099511627776 4095 c.args.a n _ _ a_kept n_kept (omega arith) in_a in_n;
      low = within.low;
      high = within.high;
    }
