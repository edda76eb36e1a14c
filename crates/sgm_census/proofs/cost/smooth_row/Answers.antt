use Rattle.std.proofs.Common.{◌≡◌, ◌+◌, ◌-◌, ◌*◌, cond, length, get_or, sym, ap, ◌∙◌, arith, inl, inr}
use Rattle.std.proofs.lemmas.Bool.{lt-ltb, le-ltb}
use Rattle.std.proofs.lemmas.Nat.{row_fits}
use Rattle.sgm_lanes.specs.Middles.{smoothed}
use Rattle.sgm_census.proofs.SmoothCosts.{times_next, smoothed_more}
use Rattle.sgm_census.proofs.cost.smooth_row.Goals as goal

pub smooth_at-requires-clause-room : goal.smooth_at-requires-clause-room
smooth_at-requires-clause-room c =
    let x = c.loop-x.x in
    let count = c.args.count in
    omega (arith, c.loop-x.invariant.before_length, times_next x count, row_fits (x + 1) count c.args.width count (omega arith) (omega arith))

pub loop-x-preserved : goal.loop-x-preserved
loop-x-preserved c =
    let i = c.loop-x.invariant in
    let e = c.smooth_at.ensures in
    let x = c.loop-x.x in
    let count = c.args.count in
    let width = c.args.width in
    let old = c.args.costs.now in
    let was = c.loop-x.costs in
    let next : (x + 1) * count ≡ x * count + count = times_next x count in
    record {
      before_length = omega arith;
      behind = λ d h. (let back : x ≡ x + 1 - 1 = omega arith in e.kept d (omega arith) ∙ i.left (x * count + d) (omega arith) ∙ ap (λ n. get_or old (n * count + d) 0) back);
      before_small = e.before_small;
      small = e.small;
      done = smoothed_more width count x (x + 1) old was c.smooth_at.new.costs c.loop-x.before (sym (ap (λ b. cond b (x + 1) x) (lt-ltb (x + 1) width (omega arith)))) (omega arith)
          i.behind i.done i.left
          (λ d h. (let place : x * count + length c.loop-x.before + d ≡ (x + 1) * count + d = omega (arith, next) in
          e.inside d (omega arith) ∙ ap (λ n. smoothed (get_or c.loop-x.before d 0) (get_or was (x * count + d) 0) (get_or was n 0)) place))
          (λ k h. e.outside k (inl h));
      left = λ k h. e.outside k (inr (omega (arith, next))) ∙ i.left k (omega (arith, next));
    }

pub returns-clause-each : goal.returns-clause-each
returns-clause-each c =
    let i = c.loop-x.invariant in
    let e = c.smooth_end.ensures in
    let count = c.args.count in
    let width = c.args.width in
    let last = width - 1 in
    let old = c.args.costs.now in
    let there : c.loop-x.x ≡ last = omega arith in
    let place : c.loop-x.x * count ≡ last * count = ap (λ n. n * count) there in
    λ z d h k.
    smoothed_more width count last last old c.loop-x.costs c.smooth_end.new.costs c.loop-x.before (sym (ap (λ b. cond b (last + 1) last) (le-ltb (last + 1) width (omega arith)))) (omega arith)
    (λ b l. i.behind b l ∙ ap (λ n. get_or old ((n - 1) * count + b) 0) there) (λ q b l m. i.done q b (omega arith) m) (λ b l. i.left b (omega (arith, place)))
    (λ b l. e.inside b (omega arith)) (λ b l. e.outside b l) z d (omega arith) k
