use Rattle.std.proofs.Common.{◌≡◌, None, ◌*◌, ◌<◌, length, sym, subst, ap, arith, ◌∙◌}
use Rattle.std.proofs.lemmas.Bool.{cases_order}
use Rattle.std.proofs.lemmas.List.{length-replicate}
use Rattle.sgm_grid.specs.declared.grid_spec.GridSpec.{GridSpec}
use Rattle.sgm_grid.specs.Cells.{Cells, IsGridSpec, height_at}
use Rattle.sgm_grid.proofs.Kept.{grid_is}
use Rattle.sgm_merge.specs.Merging.{Merging, held_at}
use Rattle.sgm_merge.specs.Tallies.{kept_of}
use Rattle.sgm_merge.proofs.Writing.{all_rows, empty_height, no_row_yet, row_later, row_more}
use Rattle.sgm_merge.proofs.merge.Merge.grid.Goals as goal

pub loop-row-init : goal.loop-row-init
loop-row-init c =
    let m = c.args.self in
    let s = c.self.inside.spec in
    let grid = c.in_ok-grid.grid in
    let same : s ≡ m.spec = ap (λ (m : Merging). m.spec) c.self.view_is in
    record {
      spec = ap (λ (g : Cells). g.spec) c.in_ok-grid.ensures ∙ same;
      len = ap (λ (g : Cells). length g.heights) c.in_ok-grid.ensures ∙ length-replicate (s.cols * s.rows) None ∙ ap (λ (g : GridSpec). g.cols * g.rows) same;
      cells = λ col line hc hr. no_row_yet line (kept_of m.keep (held_at m.spec m.held col line)) (height_at grid col line)
          (ap (λ (g : Cells). height_at g col line) c.in_ok-grid.ensures
          ∙ empty_height s col line (subst (λ (g : GridSpec). col < g.cols) (sym same) hc) (subst (λ (g : GridSpec). line < g.rows) (sym same) hr));
    }

pub loop-row-preserved : goal.loop-row-preserved
loop-row-preserved c =
    let m = c.args.self in
    record {
      spec = c.write_row.ensures.spec;
      len = c.write_row.ensures.len ∙ c.loop-row.invariant.len;
      cells = λ col line hc hr. row_more line c.loop-row.row (height_at c.loop-row.grid col line) (height_at c.write_row.new.grid col line) (kept_of m.keep (held_at m.spec m.held col line))
          (c.loop-row.invariant.cells col line hc hr) (c.write_row.ensures.cells col line hc hr) (cases_order line c.loop-row.row);
    }

pub write_row-requires-clause-empty : goal.write_row-requires-clause-empty
write_row-requires-clause-empty c = λ col hc.
    let m = c.args.self in
    let row = c.loop-row.row in
    let same : c.self.inside.spec ≡ m.spec = ap (λ (m : Merging). m.spec) c.self.view_is in
    row_later row row (kept_of m.keep (held_at m.spec m.held col row)) (height_at c.loop-row.grid col row) (omega arith)
    (c.loop-row.invariant.cells col row hc (subst (λ (g : GridSpec). row < g.rows) same c.loop-row-test.true))

pub returns : goal.returns
returns c =
    let m = c.args.self in
    let same : c.self.inside.spec ≡ m.spec = ap (λ (m : Merging). m.spec) c.self.view_is in
    let rows : c.self.inside.spec.rows ≡ m.spec.rows = ap (λ (g : GridSpec). g.rows) same in
    let ranges : IsGridSpec m.spec = subst IsGridSpec same c.self.invariant.ranges in
    grid_is c.loop-row.grid m.spec (λ col row. kept_of m.keep (held_at m.spec m.held col row)) c.loop-row.invariant.spec ranges.cols_in_range.0 c.loop-row.invariant.len
    (λ col line hc hr. all_rows line c.loop-row.row (kept_of m.keep (held_at m.spec m.held col line)) (height_at c.loop-row.grid col line) (omega (arith, rows)) (c.loop-row.invariant.cells col line hc hr))
