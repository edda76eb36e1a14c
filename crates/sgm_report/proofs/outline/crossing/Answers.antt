use Rattle.std.proofs.Common.{ℤ, pos, ◌-ℤ◌, ◌*ℤ◌, arith}
use Rattle.std.proofs.lemmas.Int.{ints}
use Rattle.sgm_report.proofs.Crossings.{apart_is, east_is, far_fits, held, north_is, sum_fits, sum_is, sum_near}
use Rattle.sgm_report.proofs.outline.crossing.Goals as goal

pub overflow_mul-result : goal.overflow_mul-result
overflow_mul-result c =
    far_fits (held (held (pos 2 *ℤ held c.from-5.result) -ℤ held c.from-6.result)) (held (held c.from-3.result -ℤ held c.from-4.result))
    (omega (arith, ints), omega (arith, ints)) (omega (arith, ints), omega (arith, ints))

pub overflow_mul-result-2 : goal.overflow_mul-result-2
overflow_mul-result-2 c =
    far_fits (held (held c.from-7.result -ℤ held (pos 2 *ℤ held c.from-8.result))) (held (held c.from.result -ℤ held c.from-2.result))
    (omega (arith, ints), omega (arith, ints)) (omega (arith, ints), omega (arith, ints))

pub overflow_add-result : goal.overflow_add-result
overflow_add-result c =
    let east : ℤ = held (held (pos 2 *ℤ held c.from-5.result) -ℤ held c.from-6.result) in
    let rise : ℤ = held (held c.from-3.result -ℤ held c.from-4.result) in
    let north : ℤ = held (held c.from-7.result -ℤ held (pos 2 *ℤ held c.from-8.result)) in
    let run : ℤ = held (held c.from.result -ℤ held c.from-2.result) in
    let a = east_is c.from-5.result c.from-6.result c.args.low.0 c.args.east c.from-5.ensures c.from-6.ensures c.requires.low.0 c.requires.east in
    let b = apart_is c.from-3.result c.from-4.result c.args.high.1 c.args.low.1 c.from-3.ensures c.from-4.ensures c.requires.high.1 c.requires.low.1 in
    let d = north_is c.from-7.result c.from-8.result c.args.north c.args.low.1 c.from-7.ensures c.from-8.ensures c.requires.north c.requires.low.1 in
    let e = apart_is c.from.result c.from-2.result c.args.high.0 c.args.low.0 c.from.ensures c.from-2.ensures c.requires.high.0 c.requires.low.0 in
    sum_fits east rise north run a.1 b.1 d.1 e.1

pub returns-clause-value : goal.returns-clause-value
returns-clause-value c =
    let low = c.args.low in let high = c.args.high in
    let east : ℤ = held (held (pos 2 *ℤ held c.from-5.result) -ℤ held c.from-6.result) in
    let rise : ℤ = held (held c.from-3.result -ℤ held c.from-4.result) in
    let north : ℤ = held (held c.from-7.result -ℤ held (pos 2 *ℤ held c.from-8.result)) in
    let run : ℤ = held (held c.from.result -ℤ held c.from-2.result) in
    let a = east_is c.from-5.result c.from-6.result c.args.low.0 c.args.east c.from-5.ensures c.from-6.ensures c.requires.low.0 c.requires.east in
    let b = apart_is c.from-3.result c.from-4.result c.args.high.1 c.args.low.1 c.from-3.ensures c.from-4.ensures c.requires.high.1 c.requires.low.1 in
    let d = north_is c.from-7.result c.from-8.result c.args.north c.args.low.1 c.from-7.ensures c.from-8.ensures c.requires.north c.requires.low.1 in
    let e = apart_is c.from.result c.from-2.result c.args.high.0 c.args.low.0 c.from.ensures c.from-2.ensures c.requires.high.0 c.requires.low.0 in
    sum_is east rise north run (pos 2 *ℤ low.0 -ℤ c.args.east) (high.1 -ℤ low.1) (c.args.north -ℤ pos 2 *ℤ low.1) (high.0 -ℤ low.0)
    a.0 b.0 d.0 e.0 a.1 b.1 d.1 e.1

pub returns-clause-near : goal.returns-clause-near
returns-clause-near c =
    let east : ℤ = held (held (pos 2 *ℤ held c.from-5.result) -ℤ held c.from-6.result) in
    let rise : ℤ = held (held c.from-3.result -ℤ held c.from-4.result) in
    let north : ℤ = held (held c.from-7.result -ℤ held (pos 2 *ℤ held c.from-8.result)) in
    let run : ℤ = held (held c.from.result -ℤ held c.from-2.result) in
    let a = east_is c.from-5.result c.from-6.result c.args.low.0 c.args.east c.from-5.ensures c.from-6.ensures c.requires.low.0 c.requires.east in
    let b = apart_is c.from-3.result c.from-4.result c.args.high.1 c.args.low.1 c.from-3.ensures c.from-4.ensures c.requires.high.1 c.requires.low.1 in
    let d = north_is c.from-7.result c.from-8.result c.args.north c.args.low.1 c.from-7.ensures c.from-8.ensures c.requires.north c.requires.low.1 in
    let e = apart_is c.from.result c.from-2.result c.args.high.0 c.args.low.0 c.from.ensures c.from-2.ensures c.requires.high.0 c.requires.low.0 in
    sum_near east rise north run a.1 b.1 d.1 e.1
