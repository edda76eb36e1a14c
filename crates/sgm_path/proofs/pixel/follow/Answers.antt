use Rattle.std.proofs.Common.{◌≡◌, ℕ, ◌+◌, ◌-◌, ◌∙◌, ap, slice_index, length, drop, arith}
use Rattle.sgm_energy.specs.Pens.{penalties_of}
use Rattle.sgm_path.specs.Paths.{Follows}
use Rattle.sgm_path.proofs.Follow.{follows_le, mid_at, mid_others, mid_was, pixel_follows}
use Rattle.sgm_path.proofs.pixel.follow.Goals as goal

pub returns-then-this-ne0-clause-each : goal.returns-then-this-ne0-clause-each
returns-then-this-ne0-clause-each g c d h =
    let row = c.args.row.now in
    let at = c.args.at in
    pixel_follows c.args.prev.now row.costs.now row.count (penalties_of row.pen).p1 c.p1-p1.result c.args.far c.least.result
    at (at + row.count - at) d (slice_index c.add_step.new.into d)
    c.requires.prev_length h (omega (arith, h)) c.p1-p1.ensures c.least.ensures.contained c.least.ensures.least
    (c.add_step.ensures.steps d (omega (arith, h, c.add_step.auto.into, c.requires.into_length)))

pub returns-then-this-ne0-clause-bound : goal.returns-then-this-ne0-clause-bound
returns-then-this-ne0-clause-bound g c d h =
    let row = c.args.row.now in
    let at = c.args.at in
    let cost : ℕ = slice_index row.costs.now (at + d) in
    let p1 = (penalties_of row.pen).p1 in
    let value : ℕ = slice_index c.add_step.new.into d in
    let f : Follows (slice_index c.args.prev.now) row.count p1 c.args.far cost d value =
    pixel_follows c.args.prev.now row.costs.now row.count p1 c.p1-p1.result c.args.far c.least.result at (at + row.count - at) d value
    c.requires.prev_length h (omega (arith, h)) c.p1-p1.ensures c.least.ensures.contained c.least.ensures.least
    (c.add_step.ensures.steps d (omega (arith, h, c.add_step.auto.into, c.requires.into_length))) in
    omega (
      arith,
      follows_le (slice_index c.args.prev.now) row.count p1 c.args.far cost d value f,
      row.low (at + d) 0 (omega (arith, h, c.requires.inside)),
      c.requires.before.0,
    )

pub returns-then-this-ne0-clause-added : goal.returns-then-this-ne0-clause-added
returns-then-this-ne0-clause-added g c t =
    let count : ℕ = c.args.row.now.count in
    let sums = c.add_step.new.sums in
    let front = c.split_at_mut-rest.result.0.now in
    let here = c.split_at_mut-here.result.0.now in
    let tail = c.split_at_mut-here.result.1.now in
    let long : length sums ≡ count = omega (arith, c.add_step.auto.sums, c.split_at_mut-here.ensures.front_len) in
    let at_front = c.split_at_mut-rest.ensures.front_len in (
      λ k h.
          mid_others c.args.sums.now front sums tail c.args.at count k
          c.split_at_mut-rest.ensures.front
          (c.split_at_mut-here.ensures.back ∙ ap (drop count) c.split_at_mut-rest.ensures.back) at_front long h,
      λ d h. omega (
        arith,
        mid_at front sums tail c.args.at d at_front (omega (arith, h, long)),
        c.add_step.ensures.added d (omega (arith, h, long)),
        mid_was c.args.sums.now here c.split_at_mut-rest.result.1.now c.args.at count d
            c.split_at_mut-here.ensures.front c.split_at_mut-rest.ensures.back h,
      ),
    )

pub returns-else-this-ne0-clause-each : goal.returns-else-this-ne0-clause-each
returns-else-this-ne0-clause-each g c d h =
    let row = c.args.row.now in
    let at = c.args.at in
    pixel_follows c.args.prev.now row.costs.now row.count (penalties_of row.pen).p1 c.p1-p1.result c.args.far c.least-else-this-ne0.result
    at (at + row.count - at) d (slice_index c.step.new.into d)
    c.requires.prev_length h (omega (arith, h)) c.p1-p1.ensures c.least-else-this-ne0.ensures.contained c.least-else-this-ne0.ensures.least
    (c.step.ensures d (omega (arith, h, c.step.auto.into, c.requires.into_length)))

pub returns-else-this-ne0-clause-bound : goal.returns-else-this-ne0-clause-bound
returns-else-this-ne0-clause-bound g c d h =
    let row = c.args.row.now in
    let at = c.args.at in
    let cost : ℕ = slice_index row.costs.now (at + d) in
    let p1 = (penalties_of row.pen).p1 in
    let value : ℕ = slice_index c.step.new.into d in
    let f : Follows (slice_index c.args.prev.now) row.count p1 c.args.far cost d value =
    pixel_follows c.args.prev.now row.costs.now row.count p1 c.p1-p1.result c.args.far c.least-else-this-ne0.result at (at + row.count - at) d value
    c.requires.prev_length h (omega (arith, h)) c.p1-p1.ensures c.least-else-this-ne0.ensures.contained c.least-else-this-ne0.ensures.least
    (c.step.ensures d (omega (arith, h, c.step.auto.into, c.requires.into_length))) in
    omega (
      arith,
      follows_le (slice_index c.args.prev.now) row.count p1 c.args.far cost d value f,
      row.low (at + d) 0 (omega (arith, h, c.requires.inside)),
      c.requires.before.0,
    )
