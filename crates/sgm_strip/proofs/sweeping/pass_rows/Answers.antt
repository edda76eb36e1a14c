use Rattle.std.proofs.Common.{◌≡◌, ℕ, ◌+◌, ◌*◌, ◌/◌, ◌<◌, ◌≤◌, ◌∙◌, ◌||◌, true, ltb, List, refl, sym, subst, arith, length, slice_index}
use Rattle.sgm_energy.specs.Pens.{penalties_of}
use Rattle.sgm_energy.specs.Energies.{path_value}
use Rattle.sgm_energy.specs.Rows.{HoldsRow}
use Rattle.sgm_path.specs.Paths.{RowTerms, terms_of}
use Rattle.sgm_strip.specs.Passing.{ComesBefore, HoldsBefore, visited}
use Rattle.sgm_strip.proofs.Sweep.{Visited, all_done, begun_before, finished, room_left, some_entries, visited_more, visited_none}
use Rattle.sgm_strip.proofs.sweeping.pass_rows.Goals as goal

pub loop-i-init : goal.loop-i-init
loop-i-init c =
    let s = c.args.strip.now in
    record {
      row = refl;
      within = omega arith;
      bound = c.requires.last.low;
      visited = visited_none c.args.dir s.top (length s.costs.now / length c.args.last.now) (penalties_of s.pen) s.guide.now s.count (length c.args.last.now) s.costs.now c.args.begun c.args.last.now c.args.sums.now;
    }

pub advance-requires-clause-room : goal.advance-requires-clause-room
advance-requires-clause-room c k h =
    let s = c.args.strip.now in
    let n : ℕ = length c.args.last.now in
    let rows : ℕ = length s.costs.now / n in
    room_left c.args.dir s.top rows (penalties_of s.pen) s.guide.now s.count n s.costs.now c.args.begun c.loop-i.i c.loop-i.i c.visited-place.result (length s.costs.now) c.args.last.now c.loop-i.last c.args.sums.now c.loop-i.sums
    c.visited-place.ensures.value (omega arith) c.loop-i-test.true refl c.requires.sums_length c.requires.room c.loop-i.invariant.visited k (omega (arith, h, c.loop-i.auto.last))

pub advance_two-requires-clause-room : goal.advance_two-requires-clause-room
advance_two-requires-clause-room c k h =
    let s = c.args.strip.now in
    let n : ℕ = length c.args.last.now in
    let rows : ℕ = length s.costs.now / n in
    let room : (j r : ℕ) → r ≡ visited c.args.dir rows j → c.loop-i.i ≤ j → j < rows → slice_index c.loop-i.sums (r * n + k) + 4062 < 65536 =
    λ j r er le hj.
    room_left c.args.dir s.top rows (penalties_of s.pen) s.guide.now s.count n s.costs.now c.args.begun c.loop-i.i j r (length s.costs.now) c.args.last.now c.loop-i.last c.args.sums.now c.loop-i.sums
    er le hj refl c.requires.sums_length c.requires.room c.loop-i.invariant.visited k (omega (arith, h, c.loop-i.auto.last)) in
    (room c.loop-i.i c.visited-place.result c.visited-place.ensures.value (omega arith) c.loop-i-test.true, room (c.loop-i.i + 1) c.visited-next.result c.visited-next.ensures.value (omega arith) c.if-i-rows.true)

pub loop-i-preserved-then-i-rows : goal.loop-i-preserved-then-i-rows
loop-i-preserved-then-i-rows c =
    let s = c.args.strip.now in
    let dir = c.args.dir in
    let n : ℕ = length c.args.last.now in
    let rows : ℕ = length s.costs.now / n in
    let i = c.loop-i.i in
    let last' = c.advance_two.new.last in
    let added = c.advance_two.ensures.added in
    let at : ℕ = s.top + c.visited-place.result in
    let at' : ℕ = s.top + c.visited-next.result in
    let long : length last' ≡ n = c.advance_two.auto.last ∙ c.loop-i.auto.last in
    let begun : (c.args.begun || ltb 0 i) ≡ true = sym c.is_begun.ensures ∙ c.if-is_begun.true in
    let between = added.between in
    let V : ℕ → List ℕ → List ℕ → Type 0 = λ i last sums. Visited dir s.top rows (penalties_of s.pen) s.guide.now s.count n s.costs.now c.args.begun i c.args.last.now last c.args.sums.now sums in
    let one : V (i + 1) between added.middle =
    visited_more dir s.top rows (penalties_of s.pen) s.guide.now s.count n s.costs.now c.args.begun i c.visited-place.result c.args.last.now c.loop-i.last between c.args.sums.now c.loop-i.sums added.middle
    c.requires.across c.visited-place.ensures.value c.loop-i-test.true (added.whole ∙ long) added.adds
    (λ g suits b. subst (λ d. HoldsRow g at (path_value g d) between) c.row_at-here.ensures.dir
    (added.paths g at (c.row_at-here.ensures.suits g rows suits c.visited-place.ensures.inside)
    (subst (λ d. HoldsBefore g d at c.loop-i.last) (sym c.row_at-here.ensures.dir)
    (subst (λ t. ComesBefore g dir at t c.loop-i.last) begun b))))
    c.loop-i.invariant.visited in
    let two : V (i + 1 + 1) last' c.advance_two.new.sums =
    visited_more dir s.top rows (penalties_of s.pen) s.guide.now s.count n s.costs.now c.args.begun (i + 1) c.visited-next.result c.args.last.now between last' c.args.sums.now added.middle c.advance_two.new.sums
    c.requires.across c.visited-next.ensures.value c.if-i-rows.true long added.adds_more
    (λ g suits b. subst (λ d. HoldsRow g at' (path_value g d) last') c.row_at-there.ensures.dir
    (added.paths_more g at' (c.row_at-there.ensures.suits g rows suits c.visited-next.ensures.inside)
    (subst (λ d. HoldsBefore g d at' between) (sym c.row_at-there.ensures.dir)
    (begun_before g dir at' (i + 1) c.args.begun between (omega arith) b))))
    one in
    let two_more : i + 1 + 1 ≡ i + 2 = omega arith in
    record {
      row = refl;
      within = omega (arith, c.if-i-rows.true);
      bound = c.advance_two.ensures.bound;
      visited = subst (λ i. V i last' c.advance_two.new.sums) two_more two;
    }

pub loop-i-preserved : goal.loop-i-preserved
loop-i-preserved c =
    let s = c.args.strip.now in
    let dir = c.args.dir in
    let n : ℕ = length c.args.last.now in
    let rows : ℕ = length s.costs.now / n in
    let r = c.visited-place.result in
    let t : RowTerms = terms_of c.row_at-here.result in
    let last' = c.advance.new.last in
    record {
      row = refl;
      within = omega arith;
      bound = c.advance.ensures.bound;
      visited = visited_more dir s.top rows (penalties_of s.pen) s.guide.now s.count n s.costs.now c.args.begun c.loop-i.i r c.args.last.now c.loop-i.last last' c.args.sums.now c.loop-i.sums c.advance.new.sums
          c.requires.across c.visited-place.ensures.value c.loop-i-test.true (c.advance.auto.last ∙ c.loop-i.auto.last) c.advance.ensures.added
          (λ g suits b.
          let at : ℕ = s.top + r in
          subst (λ d. HoldsRow g at (path_value g d) last') c.row_at-here.ensures.dir
          (c.advance.ensures.paths g at (c.row_at-here.ensures.suits g rows suits c.visited-place.ensures.inside)
          (subst (λ d. ComesBefore g d at c.is_begun-else-is_begun.result c.loop-i.last) (sym c.row_at-here.ensures.dir)
          (subst (λ t. ComesBefore g dir at t c.loop-i.last) (sym c.is_begun-else-is_begun.ensures) b))))
          c.loop-i.invariant.visited;
    }

pub returns-clause-last : goal.returns-clause-last
returns-clause-last c g rows s some b =
    let strip = c.args.strip.now in
    let dir = c.args.dir in
    let n : ℕ = length c.args.last.now in
    let it =
    finished g dir strip.top rows (penalties_of strip.pen) strip.guide.now strip.count n n c.loop-i.i c.args.begun strip.costs.now c.args.last.now c.loop-i.last c.args.sums.now c.loop-i.sums
    s refl (some_entries strip.guide.now.width strip.count n strip.some (omega (arith, strip.count_range)) c.requires.last.whole) (omega (arith, c.loop-i-test.false, c.loop-i.invariant.within)) b (c.loop-i.invariant.visited.done g) in
    it.1.handed some

pub returns-clause-sums : goal.returns-clause-sums
returns-clause-sums c g rows f s some b h =
    let strip = c.args.strip.now in
    let dir = c.args.dir in
    let n : ℕ = length c.args.last.now in
    let it =
    finished g dir strip.top rows (penalties_of strip.pen) strip.guide.now strip.count n n c.loop-i.i c.args.begun strip.costs.now c.args.last.now c.loop-i.last c.args.sums.now c.loop-i.sums
    s refl (some_entries strip.guide.now.width strip.count n strip.some (omega (arith, strip.count_range)) c.requires.last.whole) (omega (arith, c.loop-i-test.false, c.loop-i.invariant.within)) b (c.loop-i.invariant.visited.done g) in
    all_done g dir strip.top rows n f c.args.last.now c.loop-i.last c.args.sums.now c.loop-i.sums it.0.same_row c.loop-i.auto.sums it.1 h
