use Rattle.std.proofs.Common.{◌≡◌, ℕ, ◌+◌, ◌-◌, ◌*◌, ◌≤◌, ap, subst, ◌∙◌, arith}
use Rattle.sgm_report.specs.Areas.{Area}
use Rattle.sgm_report.specs.Sums.{HasRoom, most_cells, sums_over}
use Rattle.sgm_report.proofs.Cells.{cells_at_most, first_rows, room_at_first, row_apart, tally_more}
use Rattle.sgm_report.proofs.Counted.{room_for_fewer}
use Rattle.sgm_report.proofs.volumes.sums_of.Goals as goal

pub loop-row-init : goal.loop-row-init
loop-row-init c =
    let grid = c.args.layers.now.grid.now in
    let measured = c.args.layers.now.measured.now in
    let area = c.args.region.now in
    let own_row : c.region.inside.row ≡ area.row = ap (λ (a : Area). a.row) c.region.view_is in
    let none : 0 ≡ c.region.inside.row - area.row = omega (arith, own_row) in
    let all : area.rows * area.cols ≡ (area.row + area.rows - c.region.inside.row) * area.cols =
    ap (λ (n : ℕ). n * area.cols) (omega (arith, own_row)) in
    record {
      value = c.no_sums-sums.ensures ∙ ap (λ (n : ℕ). sums_over (first_rows grid measured area n)) none;
      room = room_at_first c.no_sums-sums.result _ c.no_sums-sums.ensures
          (subst (λ (n : ℕ). n ≤ most_cells) all (cells_at_most grid.spec area c.requires.ranges c.requires.region.inside));
    }

pub with_row-sums-requires-clause-room : goal.with_row-sums-requires-clause-room
with_row-sums-requires-clause-room c =
    let area = c.args.region.now in
    let own_row : c.region.inside.row ≡ area.row = ap (λ (a : Area). a.row) c.region.view_is in
    let own_rows : c.region.inside.rows ≡ area.rows = ap (λ (a : Area). a.rows) c.region.view_is in
    let apart = row_apart area.row area.rows c.loop-row.row area.cols (omega (arith, c.loop-row-test.true, own_row, own_rows)) in
    room_for_fewer c.loop-row.sums _ area.cols (omega (arith, apart)) c.loop-row.invariant.room

pub loop-row-preserved : goal.loop-row-preserved
loop-row-preserved c =
    let grid = c.args.layers.now.grid.now in
    let measured = c.args.layers.now.measured.now in
    let area = c.args.region.now in
    let row = c.loop-row.row in
    let own_row : c.region.inside.row ≡ area.row = ap (λ (a : Area). a.row) c.region.view_is in
    let own_rows : c.region.inside.rows ≡ area.rows = ap (λ (a : Area). a.rows) c.region.view_is in
    let at : area.row + (row - area.row) ≡ row = omega (arith, c.loop-row.auto.row, own_row) in
    let next : row - area.row + 1 ≡ row + 1 - area.row = omega (arith, c.loop-row.auto.row, own_row) in
    let apart = row_apart area.row area.rows row area.cols (omega (arith, c.loop-row-test.true, own_row, own_rows)) in
    record {
      value =
          tally_more grid measured area c.loop-row.sums c.with_row-sums.result row (row - area.row)
          c.loop-row.invariant.value c.with_row-sums.ensures.value at
          ∙ ap (λ (n : ℕ). sums_over (first_rows grid measured area n)) next;
      room = c.with_row-sums.ensures.room ((area.row + area.rows - (row + 1)) * area.cols)
          (subst (λ (n : ℕ). HasRoom c.loop-row.sums n) apart c.loop-row.invariant.room);
    }
