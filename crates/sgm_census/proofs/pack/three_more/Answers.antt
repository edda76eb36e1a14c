use Rattle.std.proofs.Common.{arith}
use Rattle.sgm_census.proofs.Threes.{bit_small, pushed_three, three_bits}
use Rattle.sgm_census.proofs.pack.three_more.Goals as goal

pub overflow_mul-high : goal.overflow_mul-high
overflow_mul-high c = omega (arith, bit_small _ _ c.from.ensures)

pub overflow_mul-high-2 : goal.overflow_mul-high-2
overflow_mul-high-2 c = omega (arith, bit_small _ _ c.from-2.ensures)

pub overflow_add-high : goal.overflow_add-high
overflow_add-high c = omega (arith, bit_small _ _ c.from.ensures, bit_small _ _ c.from-2.ensures)

pub overflow_add-result : goal.overflow_add-result
overflow_add-result c = omega (arith, bit_small _ _ c.from.ensures, bit_small _ _ c.from-2.ensures, bit_small _ _ c.from-3.ensures)

pub overflow_add-result-2 : goal.overflow_add-result-2
overflow_add-result-2 c = omega (arith, c.requires.room, bit_small _ _ c.from.ensures, bit_small _ _ c.from-2.ensures, bit_small _ _ c.from-3.ensures)

pub returns : goal.returns
returns c =
    three_bits c.args.bits _ _ _ _ _ _ _ c.from.ensures c.from-2.ensures c.from-3.ensures
    (pushed_three c.args.centre c.args.bits c.args.at c.args.values.now c.requires.inside)
