use Rattle.std.proofs.Common.{◌≡◌, ◌+◌, ◌*◌, ◌<◌, ◌++◌, ◌∙◌, [], length, take, drop, slice_index, refl, ap, subst, arith}
use Rattle.std.proofs.lemmas.List.{length-append, with_items_is}
use Rattle.std.proofs.lemmas.Nat.{mul-add-lt}
use Rattle.std.proofs.Math.Seq.{drop-append_seam, take-append_seam}
use Rattle.sgm_energy.specs.declared.dir.Dir.{Dir}
use Rattle.sgm_energy.specs.declared.dir.Dir.TheVariants.{Right, Left}
use Rattle.sgm_energy.specs.Pens.{penalties_of}
use Rattle.sgm_path.specs.Paths.{AppendsValues, RowTerms, terms_of}
use Rattle.sgm_path.proofs.Sweeps.{follows_of, level_paths}
use Rattle.sgm_path.proofs.append.append_both.Goals as goal

pub returns : goal.returns
returns k c =
    let terms : Dir → RowTerms = λ dir. record {
      dir = dir;
      penalties = penalties_of c.args.pen;
      costs = c.args.costs.now;
      guide = c.args.guide.now;
      guide_before = c.args.guide.now;
      count = c.args.count;
    } in
    let old = c.args.into.now.items in
    let mid = c.append_values.new.into.items in
    let made : AppendsValues (terms Right) old mid = subst (λ t. AppendsValues t old mid) (c.counted.ensures ∙ c.make-right.ensures) c.in_ok-append_values.ensures in
    let front = c.split_at_mut-sums.result.0.now in
    let before = c.split_at_mut-sums.result.1.now in
    let sums = c.sweep.new.sums in
    let whole : c.deref_mut.result.now ≡ old ++ made.row = c.deref_mut.ensures.value ∙ made.added in
    let at : c.len-at.result ≡ length old = c.len-at.ensures ∙ c.args.into.now.ok.0 in
    let front_is : front ≡ old = c.split_at_mut-sums.ensures.front ∙ ap (take c.len-at.result) whole ∙ ap (λ n. take n (old ++ made.row)) at ∙ take-append_seam old made.row in
    let row_is : before ≡ made.row = c.split_at_mut-sums.ensures.back ∙ ap (drop c.len-at.result) whole ∙ ap (λ n. drop n (old ++ made.row)) at ∙ drop-append_seam old made.row in
    let long : length sums ≡ length made.row = c.sweep.auto.sums ∙ ap length row_is in
    let all =
    with_items_is c.append_values.new.into (front ++ sums)
    (omega (arith, length-append front sums, length-append old made.row, ap length front_is, long, ap length made.added, c.append_values.new.into.ok.0)) in
    record {
      row = sums;
      added = all ∙ ap (λ l. l ++ sums) front_is;
      holds = λ g y s f.
          let right = level_paths g y (terms Right) [] made.row s f c.args.pen.ordered (omega (arith, c.requires.costs.0)) made.whole refl made.follows in
          let left = level_paths g y (terms Left) c.args.spare.now c.sweep.new.values s f c.args.pen.ordered (omega (arith, c.requires.costs.0))
          (omega (arith, c.sweep.auto.values, c.requires.spare_length)) refl
          (follows_of (terms_of c.make-left.result) (terms Left) c.args.spare.now c.sweep.new.values c.make-left.ensures c.sweep.ensures.each) in
          record {
            whole = omega (arith, right.whole, long);
            each = λ x d hx hd.
                let inside : x * g.count + d < length sums = omega (arith, mul-add-lt x g.count d g.width hx hd, right.whole, long) in
                omega (arith, c.sweep.ensures.added refl (x * g.count + d) inside, ap (λ l. slice_index l (x * g.count + d)) row_is, right.each x d hx hd, left.each x d hx hd);
          };
    }
