use Rattle.std.proofs.Common.{◌≡◌, ℕ, ◌+◌, ◌-◌, ◌<◌, ◌∙◌, refl, sym, ap, slice_index, length, take, drop, arith}
use Rattle.std.proofs.lemmas.List.{get_or-take}
use Rattle.sgm_energy.specs.Pens.{penalties_of}
use Rattle.sgm_path.proofs.Follow.{follows_same, mid_at, mid_others, part_at}
use Rattle.sgm_path.proofs.pixel.from_left.Goals as goal

pub returns-clause-follows : goal.returns-clause-follows
returns-clause-follows g c =
    let row = c.args.row.now in
    let front = c.split_at_mut-front.result.0.now in
    let tail = c.split_at_mut-here.result.1.now in
    let from = c.args.from in
    let n : ℕ = from + row.count - from in
    let long : length c.follow.new.into ≡ row.count = omega (arith, c.follow.auto.into, c.split_at_mut-here.ensures.front_len) in (
      λ k h.
          mid_others c.args.values.now front c.follow.new.into tail c.args.at row.count k c.split_at_mut-front.ensures.front
          (c.split_at_mut-here.ensures.back ∙ ap (drop row.count) c.split_at_mut-front.ensures.back)
          c.split_at_mut-front.ensures.front_len long h,
      λ d h. follows_same (slice_index (take n (drop from front))) (λ a. slice_index c.args.values.now (from + a)) row.count
          (penalties_of row.pen).p1 c.args.far _ _ d (slice_index c.follow.new.into d) _ h
          (λ k hk. part_at front from n k (omega (arith, hk))
          ∙ ap (λ l. slice_index l (from + k)) c.split_at_mut-front.ensures.front
          ∙ get_or-take c.args.at c.args.values.now (from + k) 0 (omega (arith, hk, c.requires.apart)))
          refl
          (sym (mid_at front c.follow.new.into tail c.args.at d c.split_at_mut-front.ensures.front_len (omega (arith, h, long))))
          (c.follow.ensures.each d h),
    )

pub returns-clause-bound : goal.returns-clause-bound
returns-clause-bound g c d h =
    let front = c.split_at_mut-front.result.0.now in
    let tail = c.split_at_mut-here.result.1.now in
    let lt : d < length c.follow.new.into = omega (arith, h, c.follow.auto.into, c.split_at_mut-here.ensures.front_len) in
    omega (arith, mid_at front c.follow.new.into tail c.args.at d c.split_at_mut-front.ensures.front_len lt, c.follow.ensures.bound d h)

pub returns-clause-added : goal.returns-clause-added
returns-clause-added g c t =
    let added = c.follow.ensures.added t in
    let front = c.split_at_mut-front.result.0.now in
    let tail = c.split_at_mut-here.result.1.now in
    let long : length c.follow.new.into ≡ c.args.row.now.count = omega (arith, c.follow.auto.into, c.split_at_mut-here.ensures.front_len) in
    (added.0, λ d h. omega (arith, mid_at front c.follow.new.into tail c.args.at d c.split_at_mut-front.ensures.front_len (omega (arith, h, long)), added.1 d h))
