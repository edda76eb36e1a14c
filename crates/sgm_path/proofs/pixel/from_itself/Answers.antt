use Rattle.std.proofs.Common.{◌≡◌, ◌+◌, ◌<◌, ◌≤◌, ◌∙◌, refl, sym, ap, slice_index, length, drop, arith}
use Rattle.std.proofs.lemmas.List.Elements.{All-from_get_or}
use Rattle.sgm_energy.specs.Pens.{penalties_of}
use Rattle.sgm_path.proofs.Follow.{follows_same, mid_at, mid_others, mid_was}
use Rattle.sgm_path.proofs.pixel.from_itself.Goals as goal

pub returns-clause-follows : goal.returns-clause-follows
returns-clause-follows g c =
    let row = c.args.row.now in
    let front = c.split_at_mut-back.result.0.now in
    let here = c.split_at_mut-here.result.0.now in
    let tail = c.split_at_mut-here.result.1.now in
    let new = c.copy_from_slice.new.self in
    let at = c.args.at in
    let long : length new ≡ row.count = omega (arith, c.copy_from_slice.auto.self, c.split_at_mut-here.ensures.front_len) in (
      λ k h.
          mid_others c.args.values.now front new tail at row.count k c.split_at_mut-back.ensures.front
          (c.split_at_mut-here.ensures.back ∙ ap (drop row.count) c.split_at_mut-back.ensures.back)
          c.split_at_mut-back.ensures.front_len long h,
      λ d h. follows_same (slice_index here) (λ a. slice_index c.args.values.now (at + a)) row.count
          (penalties_of row.pen).p1 c.args.far _ _ d (slice_index c.follow.new.into d) _ h
          (λ k hk. mid_was c.args.values.now here c.split_at_mut-back.result.1.now at row.count k c.split_at_mut-here.ensures.front c.split_at_mut-back.ensures.back hk)
          refl
          (sym (mid_at front new tail at d c.split_at_mut-back.ensures.front_len (omega (arith, h, long)) ∙ ap (λ l. slice_index l d) c.copy_from_slice.ensures.after))
          (c.follow.ensures.each d h),
    )

pub returns-clause-bound : goal.returns-clause-bound
returns-clause-bound g c d h =
    let front = c.split_at_mut-back.result.0.now in
    let tail = c.split_at_mut-here.result.1.now in
    let new = c.copy_from_slice.new.self in
    let lt : d < length new = omega (arith, h, c.copy_from_slice.auto.self, c.split_at_mut-here.ensures.front_len) in
    omega (arith, mid_at front new tail c.args.at d c.split_at_mut-back.ensures.front_len lt, ap (λ l. slice_index l d) c.copy_from_slice.ensures.after, c.follow.ensures.bound d h)

pub returns-clause-added : goal.returns-clause-added
returns-clause-added g c t =
    let added = c.follow.ensures.added t in
    let front = c.split_at_mut-back.result.0.now in
    let tail = c.split_at_mut-here.result.1.now in
    let new = c.copy_from_slice.new.self in
    let long : length new ≡ c.args.row.now.count = omega (arith, c.copy_from_slice.auto.self, c.split_at_mut-here.ensures.front_len) in
    (added.0, λ d h. omega (arith, mid_at front new tail c.args.at d c.split_at_mut-back.ensures.front_len (omega (arith, h, long)), ap (λ l. slice_index l d) c.copy_from_slice.ensures.after, added.1 d h))

pub follow-requires-clause-before : goal.follow-requires-clause-before
follow-requires-clause-before g c =
    let row = c.args.row.now in
    let here = c.split_at_mut-here.result.0.now in (
      c.requires.before.0,
      All-from_get_or (λ v. v ≤ 4062) here 0 (λ k h.
          let few : k < row.count = omega (arith, h, c.split_at_mut-here.ensures.front_len) in
          omega (
            arith,
            mid_was c.args.values.now here c.split_at_mut-back.result.1.now c.args.at row.count k c.split_at_mut-here.ensures.front c.split_at_mut-back.ensures.back few,
            c.requires.before.1 k few,
          )),
    )
