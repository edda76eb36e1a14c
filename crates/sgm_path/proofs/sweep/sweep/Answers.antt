use Rattle.std.proofs.Common.{◌≡◌, ◌≤◌, ℕ, ◌+◌, ◌*◌, ◌<◌, ◌∙◌, slice_index, length, sym, subst, ap, arith}
use Rattle.std.proofs.lemmas.List.Elements.{All-from_get_or}
use Rattle.std.proofs.lemmas.Nat.{mul-add-lt}
use Rattle.sgm_energy.specs.Dirs.{is_level}
use Rattle.sgm_path.specs.Paths.{column_at, terms_of}
use Rattle.sgm_path.proofs.Sweeps.{Added, Swept, added_more, added_none, column_small, column_turns, each_entry, follows_of, low_before, swept_more, swept_none, swept_row}
use Rattle.sgm_path.proofs.sweep.sweep.Goals as goal

pub loop-i-init : goal.loop-i-init
loop-i-init g c =
    record {
      values = swept_none (terms_of c.counted.result) c.args.values.now;
      sums = λ _. added_none (terms_of c.counted.result) c.args.sums.now c.args.values.now;
    }

pub step_at-requires-clause-low : goal.step_at-requires-clause-low
step_at-requires-clause-low g c z e d hd =
    let row = c.counted.result in
    let same : length row.costs.now ≡ length c.args.row.now.costs.now = ap (λ t. length t.costs) c.counted.ensures in
    low_before (terms_of row) c.loop-i.i c.column-x.result c.args.values.now c.loop-i.values c.loop-i-test.true c.column-x.ensures.value
    (omega (arith, c.requires.lengths.0, same, row.whole))
    (λ l. c.requires.low (ap (λ t. is_level t.dir) (sym c.counted.ensures) ∙ l)) c.loop-i.invariant.values z d e hd

pub step_at-requires-clause-sums : goal.step_at-requires-clause-sums
step_at-requires-clause-sums g c adds =
    let row = c.counted.result in
    let same : length row.costs.now ≡ length c.args.row.now.costs.now = ap (λ t. length t.costs) c.counted.ensures in
    let width : ℕ = length row.guide.now in
    let i = c.loop-i.i in
    let x = c.column-x.result in
    let turn : column_at row.dir width x ≡ i = ap (column_at row.dir width) c.column-x.ensures.value ∙ column_turns row.dir width i c.loop-i-test.true in
    let long : length c.args.sums.now ≡ length row.costs.now = omega (arith, (c.requires.sums adds).0, same) in (
      omega (arith, long, c.loop-i.auto.sums),
      λ d hd.
          let inside : x * row.count + d < length c.args.sums.now = omega (arith, long, row.whole, mul-add-lt x row.count d width c.column-x.ensures.inside hd) in
          omega (arith, (c.loop-i.invariant.sums adds).left x d c.column-x.ensures.inside hd (omega (arith, turn)), (c.requires.sums adds).1 (x * row.count + d) inside),
    )

pub loop-i-preserved : goal.loop-i-preserved
loop-i-preserved g c =
    let t = terms_of c.counted.result in
    record {
      values = swept_more t c.loop-i.i c.column-x.result c.args.values.now c.loop-i.values c.step_at.new.values (omega arith) c.column-x.ensures.value
          c.step_at.ensures.follows.0 c.step_at.ensures.follows.1 c.step_at.ensures.bound c.loop-i.invariant.values;
      sums = λ adds. added_more t c.loop-i.i c.column-x.result c.args.sums.now c.loop-i.sums c.step_at.new.sums c.loop-i.values c.step_at.new.values (omega arith) c.column-x.ensures.value
          c.step_at.ensures.follows.0 (c.step_at.ensures.added adds).0 (c.step_at.ensures.added adds).1 (c.loop-i.invariant.sums adds);
    }

pub returns-clause-bound : goal.returns-clause-bound
returns-clause-bound g c =
    let row = c.counted.result in
    let same : length row.costs.now ≡ length c.args.row.now.costs.now = ap (λ t. length t.costs) c.counted.ensures in
    let end : c.loop-i.i ≡ length row.guide.now = omega arith in
    let s = subst (λ i. Swept (terms_of row) i c.args.values.now c.loop-i.values) end c.loop-i.invariant.values in
    All-from_get_or (λ v. v ≤ 4062) c.loop-i.values 0
    (λ k h. each_entry (λ k. slice_index c.loop-i.values k ≤ 4062) (length row.guide.now) row.count row.positive
    (λ z d hz hd. s.low z d hz hd (column_small row.dir (length row.guide.now) z hz)) k (omega (arith, h, c.loop-i.auto.values, c.requires.lengths.0, same, row.whole)))

pub returns-clause-each : goal.returns-clause-each
returns-clause-each g c =
    let row = c.counted.result in
    let same : length row.costs.now ≡ length c.args.row.now.costs.now = ap (λ t. length t.costs) c.counted.ensures in
    let end : c.loop-i.i ≡ length row.guide.now = omega arith in
    let s = subst (λ i. Swept (terms_of row) i c.args.values.now c.loop-i.values) end c.loop-i.invariant.values in
    follows_of (terms_of row) (terms_of c.args.row.now) c.args.values.now c.loop-i.values c.counted.ensures
    (swept_row (terms_of row) c.args.values.now c.loop-i.values row.positive (omega (arith, c.loop-i.auto.values, c.requires.lengths.0, same, row.whole)) s)

pub returns-clause-added : goal.returns-clause-added
returns-clause-added g c adds k h =
    let row = c.counted.result in
    let same : length row.costs.now ≡ length c.args.row.now.costs.now = ap (λ t. length t.costs) c.counted.ensures in
    let end : c.loop-i.i ≡ length row.guide.now = omega arith in
    let s = subst (λ i. Added (terms_of row) i c.args.sums.now c.loop-i.sums c.loop-i.values) end (c.loop-i.invariant.sums adds) in
    each_entry (λ k. slice_index c.loop-i.sums k ≡ slice_index c.args.sums.now k + slice_index c.loop-i.values k) (length row.guide.now) row.count row.positive
    (λ z d hz hd. s.done z d hz hd (column_small row.dir (length row.guide.now) z hz)) k (omega (arith, h, c.loop-i.auto.sums, (c.requires.sums adds).0, same, row.whole))
