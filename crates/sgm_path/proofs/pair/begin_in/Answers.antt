use Rattle.std.proofs.Common.{◌≡◌, ◌+◌, ◌-◌, ◌<◌, ◌∙◌, sym, ap, slice_index, length, take, drop, arith}
use Rattle.sgm_path.proofs.Follow.{mid_at, mid_others, mid_was, part_at}
use Rattle.sgm_path.proofs.pair.begin_in.Goals as goal

pub add-requires-clause-fits : goal.add-requires-clause-fits
add-requires-clause-fits c i h =
    let count = c.args.row.now.count in
    let few : i < count = omega (arith, h, c.split_at_mut-here.ensures.front_len) in
    let from : i ≡ 0 + i = omega arith in
    omega (
      arith,
      ap (slice_index c.begin.new.values) from,
      mid_was c.args.sums.now c.split_at_mut-here.result.0.now c.split_at_mut-rest.result.1.now c.args.at count i
          c.split_at_mut-here.ensures.front c.split_at_mut-rest.ensures.back few,
      c.requires.sums.1 i few,
      c.begin.ensures.bound i few,
    )

pub returns-clause-each : goal.returns-clause-each
returns-clause-each c d h =
    let row = c.args.row.now in
    let count = row.count in
    let from : d ≡ 0 + d = omega arith in
    ap (slice_index c.begin.new.values) from ∙ c.begin.ensures.each d h ∙ ap (slice_index (take (c.args.at + count - c.args.at) (drop c.args.at row.costs.now))) (sym from)
    ∙ part_at row.costs.now c.args.at (c.args.at + count - c.args.at) d (omega (arith, h))

pub returns-clause-added : goal.returns-clause-added
returns-clause-added c =
    let count = c.args.row.now.count in
    let front = c.split_at_mut-rest.result.0.now in
    let here = c.split_at_mut-here.result.0.now in
    let tail = c.split_at_mut-here.result.1.now in
    let new = c.add.new.sum in
    let at_front = c.split_at_mut-rest.ensures.front_len in
    let long : length new ≡ count = omega (arith, c.add.auto.sum, c.split_at_mut-here.ensures.front_len) in (
      λ k h. mid_others c.args.sums.now front new tail c.args.at count k c.split_at_mut-rest.ensures.front
          (c.split_at_mut-here.ensures.back ∙ ap (drop count) c.split_at_mut-rest.ensures.back) at_front long h,
      λ d h. omega (
        arith,
        mid_at front new tail c.args.at d at_front (omega (arith, h, long)),
        c.add.ensures d (omega (arith, h, long)),
        mid_was c.args.sums.now here c.split_at_mut-rest.result.1.now c.args.at count d
            c.split_at_mut-here.ensures.front c.split_at_mut-rest.ensures.back h,
      ),
    )
