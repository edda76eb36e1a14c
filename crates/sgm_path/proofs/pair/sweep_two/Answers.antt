use Rattle.std.proofs.Common.{◌≡◌, ℕ, ◌+◌, ◌-◌, ◌*◌, ◌<◌, ◌≤◌, ◌∙◌, List, false, refl, length, slice_index, sym, ap, subst, arith}
use Rattle.std.proofs.lemmas.List.Elements.{All-from_get_or}
use Rattle.std.proofs.lemmas.Nat.{mul-le}
use Rattle.sgm_energy.specs.Dirs.{is_level}
use Rattle.sgm_path.specs.Paths.{AreAlike, column_at, far_in, FollowsTwo, lag_of, RowTerms, terms_of}
use Rattle.sgm_path.proofs.Pairs.{Trails, all_low, first_step, follow_two, last_alone, low_first, placed, placed_long, room_same, second_step, stepped_alike, stepped_alone, trails_none}
use Rattle.sgm_path.proofs.Sweeps.{Added, Swept, added_none, swept_none}
use Rattle.sgm_path.proofs.pair.sweep_two.Goals as goal
use Rattle.sgm_path.proofs.pair.sweep_two.Goals.{then-lag-i, else-lag-i}
use Rattle.sgm_path.proofs.pair.sweep_two.Goals.{else-lag-gt0-via-then-lag-gt0+else-width-gt0, else-lag-gt0-via-else-lag-gt0}

pub loop-i-init : goal.loop-i-init
loop-i-init g c =
    let t : RowTerms = terms_of c.counted.result in
    let u : RowTerms = terms_of c.counted-2.result in
    let none : 0 ≡ 0 - c.lag-lag.result = omega arith in
    let v = c.args.values.now in
    record {
      mid = v;
      long = refl;
      first = swept_none t v;
      sums = added_none t c.args.sums.now v;
      second = subst (λ b. Trails t u.penalties.p1 (far_in u) u.costs b v v v) none (trails_none t u.penalties.p1 (far_in u) u.costs v v);
      more = subst (λ b. Added t b c.args.more.now c.args.more.now v) none (added_none t c.args.more.now v);
    }

pub step_into-requires-clause-low : goal.step_into-requires-clause-low
step_into-requires-clause-low g c z e d hd =
    let row = c.counted.result in
    let t : RowTerms = terms_of row in
    let u : RowTerms = terms_of c.counted-2.result in
    let same : length row.costs.now ≡ length c.args.first.now.costs.now = ap (λ t. length t.costs) c.counted.ensures in
    low_first t u.penalties.p1 (far_in u) u.costs c.loop-i.i (c.loop-i.i - c.lag-lag.result) c.column-x.result c.args.values.now c.loop-i.invariant.mid c.loop-i.values
    (ap (λ t. is_level t.dir) c.counted.ensures ∙ c.requires.across) c.loop-i-test.true c.column-x.ensures.value (omega arith)
    (omega (arith, same, c.requires.same_length, row.whole)) c.requires.low c.loop-i.invariant.second z d e hd

pub step_from-requires-clause-prev : goal.step_from-requires-clause-prev
step_from-requires-clause-prev g c =
    let room = c.step_into.new.room in
    let t : RowTerms = terms_of c.counted.result in
    let long : length room ≡ t.count = omega (arith, c.step_into.auto.room, c.loop-i.auto.between, c.split_at_mut-between.ensures.front_len) in
    let alike : AreAlike t (terms_of c.counted-2.result) = subst (λ t. AreAlike t (terms_of c.counted-2.result)) (sym c.counted.ensures) (subst (AreAlike (terms_of c.args.first.now)) (sym c.counted-2.ensures) c.requires.alike) in (
      long ∙ sym alike.count,
      All-from_get_or (λ v. v ≤ 4062) room 0 (λ k h.
          let from : k ≡ 0 + k = omega arith in
          omega (arith, ap (slice_index room) from, c.step_into.ensures.bound k (omega (arith, h, long)))),
    )

pub loop-i-preserved : goal.loop-i-preserved
loop-i-preserved g c =
    let row = c.counted.result in
    let t : RowTerms = terms_of row in
    let u : RowTerms = terms_of c.counted-2.result in
    let i = c.loop-i.i in
    let b : ℕ = i - c.lag-lag.result in
    let x = c.column-x.result in
    let room = c.step_into.new.room in
    let mid = c.loop-i.invariant.mid in
    let width : ℕ = length t.guide in
    let l : is_level t.dir ≡ false = ap (λ t. is_level t.dir) c.counted.ensures ∙ c.requires.across in
    let lag : c.lag-lag.result ≡ lag_of t.dir = c.lag-lag.ensures.value in
    let same : length row.costs.now ≡ length c.args.first.now.costs.now = ap (λ t. length t.costs) c.counted.ensures in
    let long : length mid ≡ width * t.count = omega (arith, c.loop-i.invariant.long, same, c.requires.same_length, row.whole) in
    let he : length room ≡ t.count = omega (arith, c.step_into.auto.room, c.loop-i.auto.between, c.split_at_mut-between.ensures.front_len) in
    let inside : x * t.count + t.count ≤ length mid = omega (arith, long, mul-le (x + 1) t.count width t.count (omega (arith, c.column-x.ensures.inside)) (omega arith)) in
    let alike : AreAlike t u = subst (λ t. AreAlike t u) (sym c.counted.ensures) (subst (AreAlike (terms_of c.args.first.now)) (sym c.counted-2.ensures) c.requires.alike) in
    let steps =
    first_step t u.penalties.p1 (far_in u) u.costs i b x c.args.values.now mid c.loop-i.values room c.args.sums.now c.loop-i.sums c.step_into.new.sums
    l c.loop-i-test.true c.column-x.ensures.value (ap (λ n. i - n) lag) long he c.step_into.ensures.each
    (λ d hd. let from : d ≡ 0 + d = omega arith in omega (arith, ap (slice_index room) from, c.step_into.ensures.bound d hd))
    c.step_into.ensures.added c.loop-i.invariant.first c.loop-i.invariant.sums c.loop-i.invariant.second in
    let mid' = placed (x * t.count) t.count room mid in
    let Both : ℕ → List ℕ → List ℕ → Type 0 = λ b values more. Trails t u.penalties.p1 (far_in u) u.costs b c.args.values.now mid' values × Added t b c.args.more.now more values in
    let both : Both (i + 1 - c.lag-lag.result) c.if-lag-i.values c.if-lag-i.more = elim c.if-lag-i.branch [
      | then-lag-i w ↦ (let lagged = w.if-lag-i.true in
          let at : w.column-x-then-lag-i.result ≡ column_at t.dir width (i - lag_of t.dir) =
          w.column-x-then-lag-i.ensures.value ∙ ap (λ dir. column_at dir width b) alike.dir ∙ ap (λ n. column_at t.dir width (i - n)) lag in
          let second =
          second_step t u.penalties.p1 (far_in u) u.costs b w.column-x-then-lag-i.result c.args.values.now mid' room c.loop-i.values w.step_from.new.values c.args.more.now c.loop-i.more w.step_from.new.sums
          (omega (arith, c.loop-i-test.true)) (at ∙ ap (λ n. column_at t.dir width (i - n)) (sym lag))
          (λ z a e ha. room_same t i x w.column-x-then-lag-i.result mid room l c.loop-i-test.true (omega (arith, lag, lagged)) c.column-x.ensures.value at long he z a e ha)
          (stepped_alike t u w.column-x-then-lag-i.result room c.loop-i.values w.step_from.new.values c.loop-i.more w.step_from.new.sums alike record {
            others = w.step_from.ensures.others;
            each = w.step_from.ensures.each;
            bound = w.step_from.ensures.bound;
            added = w.step_from.ensures.added;
          })
          steps.1.1 c.loop-i.invariant.more in
          let n : b + 1 ≡ i + 1 - c.lag-lag.result = omega (arith, lagged) in
          subst (λ n. Both n c.if-lag-i.values c.if-lag-i.more) n
          (subst (λ v. Both (b + 1) v c.if-lag-i.more) (sym w.values-is) (subst (Both (b + 1) w.step_from.new.values) (sym w.more-is) second)))
      | else-lag-i w ↦ (let n : b ≡ i + 1 - c.lag-lag.result = omega (arith, w.if-lag-i.false, c.lag-lag.ensures.most) in
          subst (λ n. Both n c.if-lag-i.values c.if-lag-i.more) n
          (subst (λ v. Both b v c.if-lag-i.more) (sym w.values-is) (subst (Both b c.loop-i.values) (sym w.more-is) (steps.1.1, c.loop-i.invariant.more))))
    ] in
    record {
      mid = mid';
      long = placed_long (x * t.count) t.count room mid inside he ∙ c.loop-i.invariant.long;
      first = steps.0;
      sums = steps.1.0;
      second = both.0;
      more = both.1;
    }

pub returns-then-width-gt0-clause-bound : goal.returns-then-width-gt0-clause-bound
returns-then-width-gt0-clause-bound g c =
    let row = c.counted.result in
    let t : RowTerms = terms_of row in
    let u : RowTerms = terms_of c.counted-2.result in
    let i = c.loop-i.i in
    let b : ℕ = i - c.lag-lag.result in
    let x = c.column-x-then-width-gt0.result in
    let mid = c.loop-i.invariant.mid in
    let width : ℕ = length t.guide in
    let v = c.args.values.now in
    let new = c.begin_at.new.values in
    let more = c.begin_at.new.sums in
    let l : is_level t.dir ≡ false = ap (λ t. is_level t.dir) c.counted.ensures ∙ c.requires.across in
    let lag : c.lag-lag.result ≡ lag_of t.dir = c.lag-lag.ensures.value in
    let same : length row.costs.now ≡ length c.args.first.now.costs.now = ap (λ t. length t.costs) c.counted.ensures in
    let alike : AreAlike t u = subst (λ t. AreAlike t u) (sym c.counted.ensures) (subst (AreAlike (terms_of c.args.first.now)) (sym c.counted-2.ensures) c.requires.alike) in
    let at : x ≡ column_at t.dir width (width - 1) = c.column-x-then-width-gt0.ensures.value ∙ ap (λ dir. column_at dir width (width - 1)) alike.dir in
    let last : b ≡ width - 1 = omega (arith, c.loop-i-test.false, c.loop-i.auto.i-end, c.if-lag-gt0.true, c.lag-lag.ensures.most) in
    let some : 0 < width = c.if-width-gt0.true in
    let both =
    second_step t u.penalties.p1 (far_in u) u.costs b x v mid c.loop-i.between c.loop-i.values new c.args.more.now c.loop-i.more more
    (omega (arith, last, some)) (at ∙ ap (column_at t.dir width) (sym last))
    (λ z a e ha. absurd (omega (arith, last_alone t x z 0 l (omega (arith, lag, c.if-lag-gt0.true)) some at e)))
    (stepped_alike t u x c.loop-i.between c.loop-i.values new c.loop-i.more more alike
    (stepped_alone u u.penalties.p1 (far_in u) u.costs x c.loop-i.between c.loop-i.values new c.loop-i.more more
    (ap is_level alike.dir ∙ l) (omega (arith, ap lag_of alike.dir, lag, c.if-lag-gt0.true)) (omega (arith, alike.width, some))
    (c.column-x-then-width-gt0.ensures.value ∙ ap (λ w. column_at u.dir w (w - 1)) (sym alike.width))
    c.begin_at.ensures.others c.begin_at.ensures.each c.begin_at.ensures.bound (c.begin_at.ensures.added refl)))
    c.loop-i.invariant.second c.loop-i.invariant.more in
    let end : b + 1 ≡ width = omega (arith, last, some) in
    let whole : length new ≡ width * t.count = omega (arith, c.begin_at.auto.values, c.loop-i.auto.values, c.requires.same_length, same, row.whole) in
    all_low t u.penalties.p1 (far_in u) u.costs v mid new row.positive whole
    (subst (λ b. Trails t u.penalties.p1 (far_in u) u.costs b v mid new) end both.0)

pub returns-then-width-gt0-clause-follows : goal.returns-then-width-gt0-clause-follows
returns-then-width-gt0-clause-follows g c =
    let row = c.counted.result in
    let t : RowTerms = terms_of row in
    let u : RowTerms = terms_of c.counted-2.result in
    let i = c.loop-i.i in
    let b : ℕ = i - c.lag-lag.result in
    let x = c.column-x-then-width-gt0.result in
    let mid = c.loop-i.invariant.mid in
    let width : ℕ = length t.guide in
    let v = c.args.values.now in
    let new = c.begin_at.new.values in
    let more = c.begin_at.new.sums in
    let l : is_level t.dir ≡ false = ap (λ t. is_level t.dir) c.counted.ensures ∙ c.requires.across in
    let lag : c.lag-lag.result ≡ lag_of t.dir = c.lag-lag.ensures.value in
    let same : length row.costs.now ≡ length c.args.first.now.costs.now = ap (λ t. length t.costs) c.counted.ensures in
    let alike : AreAlike t u = subst (λ t. AreAlike t u) (sym c.counted.ensures) (subst (AreAlike (terms_of c.args.first.now)) (sym c.counted-2.ensures) c.requires.alike) in
    let at : x ≡ column_at t.dir width (width - 1) = c.column-x-then-width-gt0.ensures.value ∙ ap (λ dir. column_at dir width (width - 1)) alike.dir in
    let last : b ≡ width - 1 = omega (arith, c.loop-i-test.false, c.loop-i.auto.i-end, c.if-lag-gt0.true, c.lag-lag.ensures.most) in
    let some : 0 < width = c.if-width-gt0.true in
    let both =
    second_step t u.penalties.p1 (far_in u) u.costs b x v mid c.loop-i.between c.loop-i.values new c.args.more.now c.loop-i.more more
    (omega (arith, last, some)) (at ∙ ap (column_at t.dir width) (sym last))
    (λ z a e ha. absurd (omega (arith, last_alone t x z 0 l (omega (arith, lag, c.if-lag-gt0.true)) some at e)))
    (stepped_alike t u x c.loop-i.between c.loop-i.values new c.loop-i.more more alike
    (stepped_alone u u.penalties.p1 (far_in u) u.costs x c.loop-i.between c.loop-i.values new c.loop-i.more more
    (ap is_level alike.dir ∙ l) (omega (arith, ap lag_of alike.dir, lag, c.if-lag-gt0.true)) (omega (arith, alike.width, some))
    (c.column-x-then-width-gt0.ensures.value ∙ ap (λ w. column_at u.dir w (w - 1)) (sym alike.width))
    c.begin_at.ensures.others c.begin_at.ensures.each c.begin_at.ensures.bound (c.begin_at.ensures.added refl)))
    c.loop-i.invariant.second c.loop-i.invariant.more in
    let end : b + 1 ≡ width = omega (arith, last, some) in
    let whole : length new ≡ width * t.count = omega (arith, c.begin_at.auto.values, c.loop-i.auto.values, c.requires.same_length, same, row.whole) in
    let done : c.loop-i.i ≡ width = omega (arith, c.loop-i-test.false, c.loop-i.auto.i-end) in
    let second : length c.counted-2.result.costs.now ≡ length c.args.second.now.costs.now = ap (λ t. length t.costs) c.counted-2.ensures in
    let whole2 : length c.counted-2.result.costs.now ≡ width * t.count = c.counted-2.result.whole ∙ ap (λ w. w * u.count) alike.width ∙ ap (λ n. width * n) alike.count in
    let F : RowTerms → RowTerms → Type 0 = λ t u. FollowsTwo t u v new c.args.sums.now c.loop-i.sums c.args.more.now more in
    subst (F (terms_of c.args.first.now)) c.counted-2.ensures
    (subst (λ t. F t u) c.counted.ensures
    (follow_two t u v mid new c.args.sums.now c.loop-i.sums c.args.more.now more l alike row.positive row.whole
    (omega (arith, c.loop-i.invariant.long, c.requires.same_length, same, row.whole)) whole
    (omega (arith, c.loop-i.auto.sums, c.requires.sums.0, same, row.whole))
    (omega (arith, c.begin_at.auto.sums, c.loop-i.auto.more, c.requires.more.0, second, whole2))
    (subst (λ i. Swept t i v mid) done c.loop-i.invariant.first)
    (subst (λ i. Added t i c.args.sums.now c.loop-i.sums mid) done c.loop-i.invariant.sums)
    (subst (λ b. Trails t u.penalties.p1 (far_in u) u.costs b v mid new) end both.0)
    (subst (λ b. Added t b c.args.more.now more new) end both.1)))

pub returns-else-lag-gt0-clause-bound : goal.returns-else-lag-gt0-clause-bound
returns-else-lag-gt0-clause-bound g c =
    let row = c.counted.result in
    let t : RowTerms = terms_of row in
    let u : RowTerms = terms_of c.counted-2.result in
    let width : ℕ = length t.guide in
    let v = c.args.values.now in
    let mid = c.loop-i.invariant.mid in
    let same : length row.costs.now ≡ length c.args.first.now.costs.now = ap (λ t. length t.costs) c.counted.ensures in
    let end : c.loop-i.i - c.lag-lag.result ≡ width = elim c.else-lag-gt0.branch [
      | else-lag-gt0-via-then-lag-gt0+else-width-gt0 w ↦ omega (arith, w.if-width-gt0.false, c.loop-i-test.false, c.loop-i.auto.i-end)
      | else-lag-gt0-via-else-lag-gt0 w ↦ omega (arith, w.if-lag-gt0.false, c.loop-i-test.false, c.loop-i.auto.i-end)
    ] in
    let whole : length c.loop-i.values ≡ width * t.count = omega (arith, c.loop-i.auto.values, c.requires.same_length, same, row.whole) in
    all_low t u.penalties.p1 (far_in u) u.costs v mid c.loop-i.values row.positive whole
    (subst (λ b. Trails t u.penalties.p1 (far_in u) u.costs b v mid c.loop-i.values) end c.loop-i.invariant.second)

pub returns-else-lag-gt0-clause-follows : goal.returns-else-lag-gt0-clause-follows
returns-else-lag-gt0-clause-follows g c =
    let row = c.counted.result in
    let t : RowTerms = terms_of row in
    let u : RowTerms = terms_of c.counted-2.result in
    let width : ℕ = length t.guide in
    let v = c.args.values.now in
    let mid = c.loop-i.invariant.mid in
    let same : length row.costs.now ≡ length c.args.first.now.costs.now = ap (λ t. length t.costs) c.counted.ensures in
    let end : c.loop-i.i - c.lag-lag.result ≡ width = elim c.else-lag-gt0.branch [
      | else-lag-gt0-via-then-lag-gt0+else-width-gt0 w ↦ omega (arith, w.if-width-gt0.false, c.loop-i-test.false, c.loop-i.auto.i-end)
      | else-lag-gt0-via-else-lag-gt0 w ↦ omega (arith, w.if-lag-gt0.false, c.loop-i-test.false, c.loop-i.auto.i-end)
    ] in
    let whole : length c.loop-i.values ≡ width * t.count = omega (arith, c.loop-i.auto.values, c.requires.same_length, same, row.whole) in
    let done : c.loop-i.i ≡ width = omega (arith, c.loop-i-test.false, c.loop-i.auto.i-end) in
    let l : is_level t.dir ≡ false = ap (λ t. is_level t.dir) c.counted.ensures ∙ c.requires.across in
    let alike : AreAlike t u = subst (λ t. AreAlike t u) (sym c.counted.ensures) (subst (AreAlike (terms_of c.args.first.now)) (sym c.counted-2.ensures) c.requires.alike) in
    let second : length c.counted-2.result.costs.now ≡ length c.args.second.now.costs.now = ap (λ t. length t.costs) c.counted-2.ensures in
    let whole2 : length c.counted-2.result.costs.now ≡ width * t.count = c.counted-2.result.whole ∙ ap (λ w. w * u.count) alike.width ∙ ap (λ n. width * n) alike.count in
    let F : RowTerms → RowTerms → Type 0 = λ t u. FollowsTwo t u v c.loop-i.values c.args.sums.now c.loop-i.sums c.args.more.now c.loop-i.more in
    subst (F (terms_of c.args.first.now)) c.counted-2.ensures
    (subst (λ t. F t u) c.counted.ensures
    (follow_two t u v mid c.loop-i.values c.args.sums.now c.loop-i.sums c.args.more.now c.loop-i.more l alike row.positive row.whole
    (omega (arith, c.loop-i.invariant.long, c.requires.same_length, same, row.whole)) whole
    (omega (arith, c.loop-i.auto.sums, c.requires.sums.0, same, row.whole))
    (omega (arith, c.loop-i.auto.more, c.requires.more.0, second, whole2))
    (subst (λ i. Swept t i v mid) done c.loop-i.invariant.first)
    (subst (λ i. Added t i c.args.sums.now c.loop-i.sums mid) done c.loop-i.invariant.sums)
    (subst (λ b. Trails t u.penalties.p1 (far_in u) u.costs b v mid c.loop-i.values) end c.loop-i.invariant.second)
    (subst (λ b. Added t b c.args.more.now c.loop-i.more c.loop-i.values) end c.loop-i.invariant.more)))
