use Rattle.std.proofs.Common.{◌≡◌, ℕ, ◌≤◌, ◌+◌, ◌-◌, ◌*◌, length, take, ap, sym, subst, ◌∙◌, arith, to_z, of_z, w64, ℤ}
use Rattle.std.proofs.lemmas.Nat.{mul-le}
use Rattle.std.proofs.lemmas.Int.{ints}
use Rattle.sgm_grid.specs.declared.grid_spec.GridSpec.{GridSpec}
use Rattle.sgm_change.specs.Changes.{both_cells, changed_over}
use Rattle.sgm_change.specs.Counts.{HasRoom, counts_of}
use Rattle.sgm_change.proofs.Counted.{all_cells, counts_more, room_at_first, room_less}
use Rattle.sgm_change.proofs.compare.change.Goals as goal

pub loop-row-preserved : goal.loop-row-preserved
loop-row-preserved c =
    let earlier = c.args.earlier.now in
    let later = c.args.later.now in
    let row = c.loop-row.row in
    let cols = earlier.spec.cols in
    let left : ℕ = (earlier.spec.rows - (row + 1)) * cols in
    let rows : c.spec-spec.result.rows ≡ earlier.spec.rows = ap (λ (s : GridSpec). s.rows) c.spec-spec.ensures.spec in
    let rest : earlier.spec.rows - row ≡ (earlier.spec.rows - (row + 1)) + 1 = omega (arith, rows, c.loop-row-test.true) in
    let apart : ((earlier.spec.rows - (row + 1)) + 1) * cols ≡ left + cols = omega arith in
    let room : (earlier.spec.rows - row) * cols ≡ left + length c.row.result.now =
    ap (λ (n : ℕ). n * cols) rest ∙ apart ∙ ap (λ (n : ℕ). left + n) (sym c.row.ensures.whole) in
    record {
      value = counts_more earlier later c.loop-row.counts c.with_row-counts.result row c.row.result.now c.row-in-loop-row.result.now c.requires
          c.row.ensures.value c.row-in-loop-row.ensures.value c.loop-row.invariant.value c.with_row-counts.ensures.value;
      room = c.with_row-counts.ensures.room left (subst (λ (n : ℕ). HasRoom c.loop-row.counts n) room c.loop-row.invariant.room);
    }

pub returns : goal.returns
returns c =
    let earlier = c.args.earlier.now in
    let later = c.args.later.now in
    let cell : c.spec-spec.result.cell ≡ earlier.spec.cell = ap (λ (s : GridSpec). s.cell) c.spec-spec.ensures.spec in
    let side : to_z w64 (of_z w64 c.spec-spec.result.cell) ≡ earlier.spec.cell =
    omega (arith, ints, cell, c.spec-spec.ensures.kept.ranges.cell_in_range.0, c.spec-spec.ensures.kept.ranges.cell_in_range.1) in
    let rows : c.loop-row.row ≡ earlier.spec.rows = omega (arith, c.loop-row-test.false, c.loop-row.auto.row-end, ap (λ (s : GridSpec). s.rows) c.spec-spec.ensures.spec) in
    let whole : c.loop-row.counts ≡ counts_of (both_cells earlier later) =
    c.loop-row.invariant.value ∙ ap counts_of (all_cells earlier later c.loop-row.row c.spec-spec.ensures.kept.full rows) in
    c.over.ensures (both_cells earlier later) whole ∙ ap (λ (z : ℤ). changed_over z (both_cells earlier later)) side

pub loop-row-init : goal.loop-row-init
loop-row-init c =
    let spec = c.args.earlier.now.spec in
    let ranges = c.spec-spec.ensures.kept.ranges in
    let none : 0 ≡ 0 * spec.cols = omega arith in
    record {
      value = c.no_counts-counts.ensures ∙ ap (λ (n : ℕ). counts_of (take n (both_cells c.args.earlier.now c.args.later.now))) none;
      room = room_at_first c.no_counts-counts.result spec.cols (spec.rows - 0) c.no_counts-counts.ensures ranges.cols_in_range.1 (omega (arith, ranges.rows_in_range.1));
    }

pub with_row-counts-requires-clause-room : goal.with_row-counts-requires-clause-room
with_row-counts-requires-clause-room c =
    let spec = c.args.earlier.now.spec in
    let left = spec.rows - c.loop-row.row in
    let rows : c.spec-spec.result.rows ≡ spec.rows = ap (λ (s : GridSpec). s.rows) c.spec-spec.ensures.spec in
    let some : 1 ≤ left = omega (arith, rows, c.loop-row-test.true) in
    room_less c.loop-row.counts (left * spec.cols) (length c.row.result.now)
    (omega (arith, c.row.ensures.whole, mul-le 1 spec.cols left spec.cols some (omega arith))) c.loop-row.invariant.room
