use Rattle.std.proofs.Common.{◌≡◌, ◌+◌, ◌-◌, ◌*◌, ap, arith, slice_index}
use Rattle.sgm_select.specs.Rows.{sum_in}
use Rattle.sgm_select.proofs.Offsets.{base_least}
use Rattle.sgm_select.proofs.check.offset_at.Goals as goal

pub bounds-sums-at : goal.bounds-sums-at
bounds-sums-at c =
    let least = base_least c.args.sums.now c.args.count c.args.x c.args.base c.requires.count.0 c.requires.base in
    omega (arith, least.inside)

pub bounds-sums-at-2 : goal.bounds-sums-at-2
bounds-sums-at-2 c =
    let least = base_least c.args.sums.now c.args.count c.args.x c.args.base c.requires.count.0 c.requires.base in
    omega (arith, least.inside)

pub bounds-sums-at-3 : goal.bounds-sums-at-3
bounds-sums-at-3 c =
    let least = base_least c.args.sums.now c.args.count c.args.x c.args.base c.requires.count.0 c.requires.base in
    omega (arith, least.inside)

pub sixteenths-requires-clause-falls : goal.sixteenths-requires-clause-falls
sixteenths-requires-clause-falls c =
    let s = c.args.sums.now in
    let n = c.args.count in
    let x = c.args.x in
    let b = c.args.base in
    let least = base_least s n x b c.requires.count.0 c.requires.base in
    let here : slice_index s (x * n + c.from-index.result) ≡ sum_in s n x b = ap (λ k. slice_index s k) (omega arith) in
    let before : slice_index s (x * n + c.from-index.result - 1) ≡ sum_in s n x (b - 1) = ap (λ k. slice_index s k) (omega arith) in
    omega (arith, here, before, least.first (b - 1) (omega arith))

pub sixteenths-requires-clause-rises : goal.sixteenths-requires-clause-rises
sixteenths-requires-clause-rises c =
    let s = c.args.sums.now in
    let n = c.args.count in
    let x = c.args.x in
    let b = c.args.base in
    let least = base_least s n x b c.requires.count.0 c.requires.base in
    let here : slice_index s (x * n + c.from-index.result) ≡ sum_in s n x b = ap (λ k. slice_index s k) (omega arith) in
    let after : slice_index s (x * n + c.from-index.result + 1) ≡ sum_in s n x (b + 1) = ap (λ k. slice_index s k) (omega arith) in
    omega (arith, here, after, least.low (b + 1) (omega (arith, least.inside)))
