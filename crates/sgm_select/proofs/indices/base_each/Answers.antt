use Rattle.std.proofs.Common.{◌≡◌, ◌≢◌, ℕ, ◌+◌, ◌-◌, ◌*◌, ◌<◌, ◌≤◌, ◌∙◌, sym, subst, arith, below_more, length, take, drop, get_or, get_or-set_same, get_or-set_other, set}
use Rattle.std.proofs.lemmas.List.{length-take, length-drop}
use Rattle.std.proofs.lemmas.List.Elements.{All-from_get_or}
use Rattle.std.proofs.lemmas.Nat.{row_fits}
use Rattle.sgm_select.proofs.LeastIndex.{base_from}
use Rattle.sgm_select.proofs.indices.base_each.Goals as goal

pub loop-x-preserved : goal.loop-x-preserved
loop-x-preserved c =
    let sums = c.args.sums.now in
    let count = c.args.count in
    let x = c.loop-x.x in
    let into = c.loop-x.into in
    let n : ℕ = x * count + count - x * count in
    let en : n ≡ count = omega arith in
    let r = c.base_at.result in
    let inside : x < length into = omega (arith, c.loop-x.auto.into) in
    let room : x * count + count ≤ length c.args.into.now * count = row_fits x count (length c.args.into.now) count c.loop-x-test.true (omega arith) in
    let whole : length (take n (drop (x * count) sums)) ≡ n = omega (arith, length-take n (drop (x * count) sums), length-drop (x * count) sums, room) in
    let low : r < count = omega (arith, c.base_at.ensures.inside, whole) in
    record {
      each = below_more _ _
          (λ k h. let ne : k ≢ x = omega arith in get_or-set_other into x k r 0 ne ∙ c.loop-x.invariant.each k h)
          (get_or-set_same into x r 0 inside ∙ sym (base_from sums count x n r en low (λ d h. c.base_at.ensures.low d (omega (arith, whole, h))) c.base_at.ensures.first));
      below = below_more (λ k. get_or (set into x r) k 0 < count) x
          (λ k h. let ne : k ≢ x = omega arith in subst (λ v. v < count) (sym (get_or-set_other into x k r 0 ne)) (c.loop-x.invariant.below k h))
          (subst (λ v. v < count) (sym (get_or-set_same into x r 0 inside)) low);
    }

pub returns-clause-below : goal.returns-clause-below
returns-clause-below c = All-from_get_or (λ v. v < c.args.count) c.loop-x.into 0 (λ k h. c.loop-x.invariant.below k (omega (arith, c.loop-x.auto.into)))
