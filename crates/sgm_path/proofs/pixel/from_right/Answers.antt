use Rattle.std.proofs.Common.{◌≡◌, ℕ, ◌+◌, ◌-◌, ◌<◌, ◌≤◌, ◌∙◌, refl, sym, ap, slice_index, length, take, drop, arith}
use Rattle.std.proofs.lemmas.List.{length-take, get_or-drop}
use Rattle.std.proofs.lemmas.List.Elements.{All-from_get_or}
use Rattle.sgm_energy.specs.Pens.{penalties_of}
use Rattle.sgm_path.proofs.Follow.{follows_same, mid_at_left, mid_others_left, part_at}
use Rattle.sgm_path.proofs.pixel.from_right.Goals as goal

pub returns-clause-follows : goal.returns-clause-follows
returns-clause-follows g c =
    let row = c.args.row.now in
    let back = c.split_at_mut-front.result.1.now in
    let first = c.split_at_mut-here.result.0.now in
    let values = c.args.values.now in
    let from = c.args.from in
    let end : ℕ = c.args.at + row.count in
    let gap : ℕ = from - end in
    let n : ℕ = gap + row.count - gap in
    let long : length c.follow.new.into ≡ row.count = omega (arith, c.follow.auto.into, c.split_at_mut-here.ensures.back_len, c.split_at_mut-front.ensures.front_len) in (
      λ k h.
          mid_others_left values first c.follow.new.into back c.args.at row.count k
          (c.split_at_mut-here.ensures.front ∙ ap (take c.args.at) c.split_at_mut-front.ensures.front)
          c.split_at_mut-front.ensures.back c.split_at_mut-here.ensures.front_len long h,
      λ d h. follows_same (slice_index (take n (drop gap back))) (λ a. slice_index values (from + a)) row.count
          (penalties_of row.pen).p1 c.args.far _ _ d (slice_index c.follow.new.into d) _ h
          (λ k hk. let e : end + (gap + k) ≡ from + k = omega (arith, c.requires.apart) in
          part_at back gap n k (omega (arith, hk))
          ∙ ap (λ l. slice_index l (gap + k)) c.split_at_mut-front.ensures.back
          ∙ get_or-drop end values (gap + k) 0
          ∙ ap (slice_index values) e)
          refl
          (sym (mid_at_left first c.follow.new.into back c.args.at d c.split_at_mut-here.ensures.front_len (omega (arith, h, long))))
          (c.follow.ensures.each d h),
    )

pub returns-clause-bound : goal.returns-clause-bound
returns-clause-bound g c d h =
    let back = c.split_at_mut-front.result.1.now in
    let first = c.split_at_mut-here.result.0.now in
    let lt : d < length c.follow.new.into = omega (arith, h, c.follow.auto.into, c.split_at_mut-here.ensures.back_len, c.split_at_mut-front.ensures.front_len) in
    omega (arith, mid_at_left first c.follow.new.into back c.args.at d c.split_at_mut-here.ensures.front_len lt, c.follow.ensures.bound d h)

pub returns-clause-added : goal.returns-clause-added
returns-clause-added g c t =
    let added = c.follow.ensures.added t in
    let back = c.split_at_mut-front.result.1.now in
    let first = c.split_at_mut-here.result.0.now in
    let long : length c.follow.new.into ≡ c.args.row.now.count = omega (arith, c.follow.auto.into, c.split_at_mut-here.ensures.back_len, c.split_at_mut-front.ensures.front_len) in
    (added.0, λ d h. omega (arith, mid_at_left first c.follow.new.into back c.args.at d c.split_at_mut-here.ensures.front_len (omega (arith, h, long)), added.1 d h))

pub follow-requires-clause-before : goal.follow-requires-clause-before
follow-requires-clause-before g c =
    let row = c.args.row.now in
    let back = c.split_at_mut-front.result.1.now in
    let values = c.args.values.now in
    let from = c.args.from in
    let end : ℕ = c.args.at + row.count in
    let gap : ℕ = from - end in
    let n : ℕ = gap + row.count - gap in (
      c.requires.before.0,
      All-from_get_or (λ v. v ≤ 4062) (take n (drop gap back)) 0 (λ k h.
          let few : k < row.count = omega (arith, h, length-take n (drop gap back)) in
          let e : end + (gap + k) ≡ from + k = omega (arith, c.requires.apart) in
          omega (
            arith,
            part_at back gap n k (omega (arith, few)),
            ap (λ l. slice_index l (gap + k)) c.split_at_mut-front.ensures.back,
            get_or-drop end values (gap + k) 0,
            ap (slice_index values) e,
            c.requires.before.1 k few,
          )),
    )
