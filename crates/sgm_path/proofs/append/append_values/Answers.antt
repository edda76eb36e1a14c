use Rattle.std.proofs.Common.{◌≡◌, ◌≤◌, ◌+◌, ◌∙◌, ℕ, List, length, take, slice_index, sym, ap, subst, arith}
use Rattle.std.specs.List.{All}
use Rattle.std.proofs.lemmas.Bool.{eqb-false}
use Rattle.std.proofs.lemmas.List.{get_or-take, length-take}
use Rattle.std.proofs.lemmas.List.Elements.{All-from_get_or}
use Rattle.sgm_path.specs.Paths.{RowTerms, terms_of}
use Rattle.sgm_path.proofs.Appending.{Appended, Turned, appended_first, appended_row, first_fits, turned_even, turned_odd}
use Rattle.sgm_path.proofs.append.append_values.Goals.{then-x-eq1+in_ok-append_next, else-x-eq1+in_ok-append_next-2}
use Rattle.sgm_path.proofs.append.append_values.Goals as goal

pub slice_bounds-begin-end : goal.slice_bounds-begin-end
slice_bounds-begin-end g c =
    let row = c.args.row.now in
    let fits = first_fits (length row.guide.now) row.count (length row.costs.now) row.whole (omega (arith, eqb-false (length row.guide.now) 0 (sym c.is_empty.ensures ∙ c.if-is_empty.false))) in
    omega (arith, length-take row.count row.costs.now, fits)

pub begin-requires-clause-same_length : goal.begin-requires-clause-same_length
begin-requires-clause-same_length g c =
    let row = c.args.row.now in
    let fits = first_fits (length row.guide.now) row.count (length row.costs.now) row.whole (omega (arith, eqb-false (length row.guide.now) 0 (sym c.is_empty.ensures ∙ c.if-is_empty.false))) in
    omega (arith, length-take row.count row.costs.now, fits, c.split_at_mut-even.ensures.front_len)

pub loop-x-init : goal.loop-x-init
loop-x-init g c =
    let row = c.args.row.now in
    let values = c.begin.new.values in
    let long : length values ≡ row.count = omega (arith, c.begin.auto.values, c.split_at_mut-even.ensures.front_len) in
    let low : All (λ v. v ≤ 4062) values =
    All-from_get_or (λ v. v ≤ 4062) values 0 (λ k h. let from : 0 + k ≡ k = omega arith in subst (λ j. slice_index values j ≤ 4062) from (c.begin.ensures.bound k (omega (arith, h, long)))) in
    record {
      inside = omega (arith, eqb-false (length row.guide.now) 0 (sym c.is_empty.ensures ∙ c.if-is_empty.false));
      made = record {
        made = record {
          row = values;
          added = c.in_ok-extend_from_slice.ensures.items;
          is = appended_first (terms_of row) values c.requires.right long
              (λ d h.
              let from : d ≡ 0 + d = omega arith in
              ap (slice_index values) from ∙ c.begin.ensures.each d h ∙ ap (slice_index (take row.count row.costs.now)) (sym from) ∙ get_or-take row.count row.costs.now d 0 h)
              low;
        };
        even_last = λ _. record { same = λ d hd. ap (slice_index values) (omega arith); low = low };
        odd_last = λ e. absurd (omega (arith, e));
      };
    }

pub loop-x-preserved : goal.loop-x-preserved
loop-x-preserved g c =
    let t : RowTerms = terms_of c.args.row.now in
    let x = c.loop-x.x in
    let old = c.args.into.now.items in
    let T : List ℕ → List ℕ → List ℕ → Type 0 = λ new even odd. Turned t (x + 1) old new even odd in
    record {
      inside = omega arith;
      made = elim c.if-x-eq1.branch [
        | then-x-eq1+in_ok-append_next w ↦ (let values = w.append_next.new.values in
            let long : length values ≡ t.count = omega (arith, w.append_next.auto.values, c.loop-x.auto.odd, c.split_at_mut-odd.ensures.front_len) in
            subst (λ v. T v.items c.if-x-eq1.even c.if-x-eq1.odd) (sym w.into-is)
            (subst (λ e. T w.append_next.new.into.items e c.if-x-eq1.odd) (sym w.even-is)
            (subst (T w.append_next.new.into.items c.loop-x.even) (sym w.odd-is)
            (turned_odd t x old c.loop-x.into.items w.append_next.new.into.items c.loop-x.even c.loop-x.odd values c.requires.right (omega arith) c.loop-x-test.true w.if-x-eq1.true
            c.loop-x.invariant.made long w.in_ok-append_next.ensures.each w.in_ok-append_next.ensures.bound w.in_ok-append_next.ensures.added))))
        | else-x-eq1+in_ok-append_next-2 w ↦ (let values = w.append_next-else-x-eq1.new.values in
            let long : length values ≡ t.count = omega (arith, w.append_next-else-x-eq1.auto.values, c.loop-x.auto.even, c.begin.auto.values, c.split_at_mut-even.ensures.front_len) in
            subst (λ v. T v.items c.if-x-eq1.even c.if-x-eq1.odd) (sym w.into-is)
            (subst (λ e. T w.append_next-else-x-eq1.new.into.items e c.if-x-eq1.odd) (sym w.even-is)
            (subst (T w.append_next-else-x-eq1.new.into.items values) (sym w.odd-is)
            (turned_even t x old c.loop-x.into.items w.append_next-else-x-eq1.new.into.items c.loop-x.even c.loop-x.odd values c.requires.right (omega arith) c.loop-x-test.true (omega (arith, w.if-x-eq1.false))
            c.loop-x.invariant.made long w.in_ok-append_next-2.ensures.each w.in_ok-append_next-2.ensures.bound w.in_ok-append_next-2.ensures.added))))
      ];
    }

pub returns : goal.returns
returns g c =
    let row = c.args.row.now in
    let a = c.loop-x.invariant.made.made in
    let end : c.loop-x.x ≡ length row.guide.now = omega arith in
    let whole : Appended (terms_of row) (length row.guide.now) a.row = subst (λ n. Appended (terms_of row) n a.row) end a.is in
    record {
      row = a.row;
      added = a.added;
      whole = whole.whole ∙ sym row.whole;
      low = whole.low;
      follows = appended_row (terms_of row) a.row row.positive whole;
    }
