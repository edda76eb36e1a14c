use Rattle.std.proofs.Common.{◌≡◌, ◌*◌, ℕ, length, Option, ℤ, [], sym, ap, ◌∙◌, subst, arith}
use Rattle.std.specs.Option.{ForSome}
use Rattle.std.proofs.lemmas.List.Elements.{All-nil}
use Rattle.sgm_base.specs.Values.{row_by_row}
use Rattle.sgm_grid.specs.declared.grid_spec.GridSpec.{GridSpec}
use Rattle.sgm_grid.specs.Bridges.{bridged, bridged_at}
use Rattle.sgm_grid.specs.Cells.{IsGridSpec, IsHeight, cells_of}
use Rattle.sgm_grid.proofs.CellRows.{all_same, length_rows, no_rows, next_row}
use Rattle.sgm_grid.proofs.bridges.bridge.Goals as goal

pub loop-row-init : goal.loop-row-init
loop-row-init c =
    let none : c.try_reserve.new.self.items ≡ [] = c.in_ok-try_reserve.ensures.items ∙ c.new-heights.ensures.items in
    record {
      value = none ∙ no_rows (bridged_at c.args.most c.args.grid.now) c.args.grid.now.spec.cols;
      in_range = all_same IsHeight [] _ (All-nil (λ (o : Option ℤ). ForSome o IsHeight)) none;
    }

pub loop-row-preserved : goal.loop-row-preserved
loop-row-preserved c = record {
  value = next_row (bridged_at c.args.most c.args.grid.now) c.args.grid.now.spec.cols c.loop-row.row c.loop-row.heights.items c.append_row.new.into.items c.loop-row.invariant.value c.in_ok-append_row.ensures.value;
  in_range = c.append_row.ensures.in_range;
}

pub of_heights-requires : goal.of_heights-requires
of_heights-requires c =
    let spec = c.spec-spec.ensures.spec in
    let last : c.loop-row.row ≡ c.args.grid.now.spec.rows = omega (arith, ap (λ (s : GridSpec). s.rows) spec) in
    record {
      ranges = subst IsGridSpec (sym spec) c.spec-spec.ensures.kept.ranges;
      full = ap length c.loop-row.invariant.value ∙ length_rows (bridged_at c.args.most c.args.grid.now) c.args.grid.now.spec.cols c.loop-row.row
          ∙ ap (λ (n : ℕ). c.args.grid.now.spec.cols * n) last ∙ ap (λ (s : GridSpec). s.cols * s.rows) (sym spec);
      heights_in_range = c.loop-row.invariant.in_range;
    }

pub returns : goal.returns
unfolding bridged
returns c =
    let spec = c.spec-spec.ensures.spec in
    let last : c.loop-row.row ≡ c.args.grid.now.spec.rows = omega (arith, ap (λ (s : GridSpec). s.rows) spec) in
    c.of_heights.ensures
    ∙ ap (λ (s : GridSpec). cells_of s c.loop-row.heights.items) spec
    ∙ ap (cells_of c.args.grid.now.spec) c.loop-row.invariant.value
    ∙ ap (λ (n : ℕ). cells_of c.args.grid.now.spec (row_by_row c.args.grid.now.spec.cols n (bridged_at c.args.most c.args.grid.now))) last
