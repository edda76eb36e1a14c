use Rattle.std.proofs.Common.{◌≡◌, ℕ, ℤ, Some, None, Bool, true, false, ◌+◌, ◌*◌, ◌<◌, ◌==◌, ◌&&◌, nat_lt, if◌then◌else◌, length, get_or, to_z, of_z, w32, refl, sym, subst, ap, ap₂, arith, ◌∙◌}
use Rattle.std.proofs.lemmas.Bool.{and_from, cases_order, eq-eqb, eqb-true, le-ltb}
use Rattle.std.proofs.lemmas.Int.{ints}
use Rattle.std.proofs.lemmas.List.{get_or_default}
use Rattle.sgm_grid.specs.declared.grid_spec.GridSpec.{GridSpec}
use Rattle.sgm_grid.specs.Cells.{Cells, height_at}
use Rattle.sgm_merge.specs.Merging.{Merging, held_at}
use Rattle.sgm_merge.specs.Tallies.{kept_of, no_heights}
use Rattle.sgm_merge.proofs.Cellwise.{place_below}
use Rattle.sgm_merge.proofs.Writing.{all_cells, cell_more, no_cell}
use Rattle.sgm_merge.proofs.merge.Merge.write_row.Goals as goal
use Rattle.sgm_merge.proofs.merge.Merge.write_row.Goals.{in-Some, in_default}

pub loop-col-init : goal.loop-col-init
loop-col-init c = record {
  spec = c.requires.spec;
  len = refl;
  cells = λ col line hc hr. no_cell col (c.args.row == line) (kept_of c.args.self.now.keep (held_at c.args.self.now.spec c.args.self.now.held col line)) (height_at c.args.grid.now col line);
}

pub loop-col-preserved : goal.loop-col-preserved
loop-col-preserved c =
    let m = c.args.self.now in
    let s = c.self.inside in
    let here = c.loop-col.col in
    let row = c.args.row in
    let now = c.loop-col.grid in
    let new = c.match-kept.grid in
    let same : s.spec ≡ m.spec = ap (λ (m : Merging). m.spec) c.self.view_is in
    let row_in : row < s.spec.rows = subst (λ (g : GridSpec). row < g.rows) (sym same) c.requires.row_in in
    let place = row * s.spec.cols + here in
    let within : place < length s.tallies.items = omega (arith, place_below s.spec.cols s.spec.rows here row c.loop-col-test.true row_in, c.self.invariant.full) in
    let read : c.index.result.now ≡ get_or s.tallies.items place no_heights = c.index.ensures ∙ get_or_default s.tallies.items place _ no_heights within in
    let kept : c.kept.result ≡ kept_of m.keep (held_at m.spec m.held here row) =
    c.kept.ensures.value ∙ ap (kept_of s.keep) read ∙ ap (λ (m : Merging). kept_of m.keep (held_at m.spec m.held here row)) c.self.view_is in
    let col_in : here < m.spec.cols = subst (λ (g : GridSpec). here < g.cols) same c.loop-col-test.true in
    let step : (col line : ℕ) → col < m.spec.cols → line < m.spec.rows
    → (col ≡ here → (row == line) ≡ true → height_at new col line ≡ kept_of m.keep (held_at m.spec m.held col line))
    → (((here == col) && (row == line)) ≡ false → height_at new col line ≡ height_at now col line)
    → height_at new col line ≡ (if nat_lt col (here + 1) && (row == line) then kept_of m.keep (held_at m.spec m.held col line) else height_at c.args.grid.now col line)
    = λ col line hc hr. λ at others. cell_more col here (row == line) (height_at c.args.grid.now col line) (height_at now col line) (height_at new col line) (kept_of m.keep (held_at m.spec m.held col line))
    (c.loop-col.invariant.cells col line hc hr) at others (cases_order col here) in
    let there : (col line : ℕ) → col ≡ here → (row == line) ≡ true → kept_of m.keep (held_at m.spec m.held here row) ≡ kept_of m.keep (held_at m.spec m.held col line)
    = λ col line e t. ap₂ (λ (a b : ℕ). kept_of m.keep (held_at m.spec m.held a b)) (sym e) (eqb-true row line t) in
    let empty : height_at now here row ≡ None =
    c.loop-col.invariant.cells here row col_in c.requires.row_in
    ∙ ap (λ (b : Bool). if b && (row == row) then kept_of m.keep (held_at m.spec m.held here row) else height_at c.args.grid.now here row) (le-ltb here here (omega arith))
    ∙ c.requires.empty here col_in in
    elim c.match-kept.branch [
      | in-Some w ↦ (
          let near = c.kept.ensures.in_range w.in-Some.height w.in-Some.is in
          let whole : to_z w32 (of_z w32 w.in-Some.height) ≡ w.in-Some.height = omega (arith, ints, near.0, near.1) in
          let test : (col line : ℕ) → col < m.spec.cols → line < m.spec.rows → height_at new col line ≡ (if (here == col) && (row == line) then Some w.in-Some.height else height_at now col line)
          = λ col line hc hr. ap (λ (g : Cells). height_at g col line) w.grid-is
          ∙ w.write_height.ensures.cells col line (subst (λ (g : GridSpec). col < g.cols) (sym c.loop-col.invariant.spec) hc) (subst (λ (g : GridSpec). line < g.rows) (sym c.loop-col.invariant.spec) hr)
          ∙ ap (λ (h : ℤ). if (here == col) && (row == line) then Some h else height_at now col line) whole in
          record {
            spec = ap (λ (g : Cells). g.spec) w.grid-is ∙ w.write_height.ensures.spec ∙ c.loop-col.invariant.spec;
            len = ap (λ (g : Cells). length g.heights) w.grid-is ∙ w.write_height.ensures.len ∙ c.loop-col.invariant.len;
            cells = λ col line hc hr. step col line hc hr
                (λ e t. test col line hc hr
                ∙ ap (λ (b : Bool). if b then Some w.in-Some.height else height_at now col line) (and_from (here == col) (row == line) (eq-eqb here col (sym e)) t)
                ∙ sym w.in-Some.is ∙ kept ∙ there col line e t)
                (λ f. test col line hc hr ∙ ap (λ (b : Bool). if b then Some w.in-Some.height else height_at now col line) f);
          })
      | in_default w ↦ record {
        spec = ap (λ (g : Cells). g.spec) w.grid-is ∙ c.loop-col.invariant.spec;
        len = ap (λ (g : Cells). length g.heights) w.grid-is ∙ c.loop-col.invariant.len;
        cells = λ col line hc hr. step col line hc hr
            (λ e t. ap (λ (g : Cells). height_at g col line) w.grid-is ∙ ap₂ (height_at now) e (sym (eqb-true row line t)) ∙ empty ∙ sym w.in_default.is ∙ kept ∙ there col line e t)
            (λ f. ap (λ (g : Cells). height_at g col line) w.grid-is);
      }
    ]

pub write_height-requires-clause-empty : goal.write_height-requires-clause-empty
write_height-requires-clause-empty c =
    let m = c.args.self.now in
    let same : c.self.inside.spec ≡ m.spec = ap (λ (m : Merging). m.spec) c.self.view_is in
    let col_in : c.loop-col.col < m.spec.cols = subst (λ (g : GridSpec). c.loop-col.col < g.cols) same c.loop-col-test.true in
    c.loop-col.invariant.cells c.loop-col.col c.args.row col_in c.requires.row_in
    ∙ ap (λ (b : Bool). if b && (c.args.row == c.args.row) then kept_of m.keep (held_at m.spec m.held c.loop-col.col c.args.row) else height_at c.args.grid.now c.loop-col.col c.args.row)
    (le-ltb c.loop-col.col c.loop-col.col (omega arith))
    ∙ c.requires.empty c.loop-col.col col_in

pub returns-clause-cells : goal.returns-clause-cells
returns-clause-cells c = λ col line hc hr.
    let m = c.args.self.now in
    let same : c.self.inside.spec ≡ m.spec = ap (λ (m : Merging). m.spec) c.self.view_is in
    let cols : c.self.inside.spec.cols ≡ m.spec.cols = ap (λ (g : GridSpec). g.cols) same in
    c.loop-col.invariant.cells col line hc hr
    ∙ all_cells col c.loop-col.col (c.args.row == line) (kept_of m.keep (held_at m.spec m.held col line)) (height_at c.args.grid.now col line) (omega (arith, cols))
