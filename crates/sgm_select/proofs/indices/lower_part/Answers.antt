use Rattle.std.proofs.Common.{◌≡◌, ◌+◌, ◌-◌, ◌∙◌, ℕ, ap, sym, arith, drop, length, slice_index, take, min}
use Rattle.sgm_census.proofs.CodeRows.{written}
use Rattle.sgm_select.specs.Keys.{key_of}
use Rattle.sgm_select.proofs.LeastIndex.{part_at}
use Rattle.sgm_select.proofs.indices.lower_part.Goals as goal

pub returns : goal.returns
returns c =
    let keys = c.args.keys.now in
    let some = c.split_at_mut-some.result.0.now in
    let n : ℕ = c.args.skipped + c.args.len - c.args.skipped in
    let long : length c.lower.new.keys ≡ c.args.len = omega (arith, c.lower.auto.keys, c.split_at_mut-some.ensures.front_len) in
    let w = written c.args.start keys c.split_at_mut-rest.result.0.now c.split_at_mut-rest.result.1.now c.lower.new.keys c.split_at_mut-some.result.1.now 0
    c.split_at_mut-rest.ensures.front c.split_at_mut-rest.ensures.front_len c.split_at_mut-rest.ensures.back
    (c.split_at_mut-some.ensures.back ∙ ap (λ n. drop n c.split_at_mut-rest.result.1.now) (sym long)) in
    record {
      here = λ k h.
          let was : slice_index some k ≡ slice_index keys (c.args.start + k) =
          ap (λ us. slice_index us k) (c.split_at_mut-some.ensures.front ∙ ap (take c.args.len) c.split_at_mut-rest.ensures.back) ∙ part_at keys c.args.start c.args.len k h in
          w.inside k (omega (arith, h, long)) ∙ c.lower.ensures k (omega (arith, h, long))
          ∙ ap (λ old. min old (key_of (slice_index (take n (drop c.args.skipped c.args.sums.now)) k) (c.args.skipped + k))) was
          ∙ ap (λ sum. min (slice_index keys (c.args.start + k)) (key_of sum (c.args.skipped + k))) (part_at c.args.sums.now c.args.skipped n k (omega arith));
      before = w.before;
      after = λ m h. w.after m (omega (arith, h, long));
    }
