use Rattle.std.proofs.Common.{ℤ, pos, ◌-ℤ◌, ◌*ℤ◌, to_z, of_z, arith}
use Rattle.std.specs.Int.{w128}
use Rattle.std.proofs.lemmas.Int.{ints}
use Rattle.sgm_report.proofs.Crossings.{far_fits, step_is}
use Rattle.sgm_report.proofs.outline.step.Goals as goal

-- a number as the code's 128 bits hold it
abbrev held : ℤ → ℤ
held z = to_z w128 (of_z w128 z)

pub overflow_mul-result-2 : goal.overflow_mul-result-2
overflow_mul-result-2 c =
    far_fits (held (pos 2 *ℤ held c.from.result)) (held (held c.from-2.result -ℤ held c.from-3.result))
    (omega (arith, ints), omega (arith, ints)) (omega (arith, ints), omega (arith, ints))

pub returns-clause-value : goal.returns-clause-value
returns-clause-value c =
    (step_is (held (pos 2 *ℤ held c.from.result)) (held (held c.from-2.result -ℤ held c.from-3.result))
    (pos 2 *ℤ c.args.cell) (c.args.high.1 -ℤ c.args.low.1) (omega (arith, ints)) (omega (arith, ints))
    (omega (arith, ints), omega (arith, ints)) (omega (arith, ints), omega (arith, ints))).0

pub returns-clause-near : goal.returns-clause-near
returns-clause-near c =
    (step_is (held (pos 2 *ℤ held c.from.result)) (held (held c.from-2.result -ℤ held c.from-3.result))
    (pos 2 *ℤ c.args.cell) (c.args.high.1 -ℤ c.args.low.1) (omega (arith, ints)) (omega (arith, ints))
    (omega (arith, ints), omega (arith, ints)) (omega (arith, ints), omega (arith, ints))).1
