use Rattle.std.proofs.Common.{◌*◌, ◌<◌, ℤ, Option, length, to_z, of_z, w32, arith, ap, sym, subst, ◌∙◌}
use Rattle.std.specs.Option.{ForSome}
use Rattle.std.proofs.lemmas.Int.{ints, to_z-of_z}
use Rattle.std.proofs.lemmas.List.Elements.{All-get_or}
use Rattle.sgm_grid.specs.declared.grid_spec.GridSpec.{GridSpec}
use Rattle.sgm_grid.specs.Cells.{Cells, IsHeight}
use Rattle.sgm_grid.specs.Points.{higher}
use Rattle.sgm_grid.proofs.Added.{raised_there, still_cells}
use Rattle.sgm_grid.proofs.grid.Grid.add_placed.Goals as goal

pub invariant_of-self : goal.invariant_of-self
invariant_of-self c =
    let at = c.args.placed.place in
    let hs = c.self.inside.heights.items in
    let highest = c.higher-highest.result in
    let whole = to_z-of_z w32 highest (record { sfits = c.higher-highest.type_inv }) in
    let spec = ap (λ (g : Cells). g.spec) c.self.view_is in
    let cells = ap (λ (s : GridSpec). s.cols * s.rows) spec in
    let within : at < length hs = omega (arith, cells, c.self.invariant.full, c.requires.0) in
    let near = c.requires.1 in
    let read : ForSome c.index.result.now IsHeight = subst (λ (o : Option ℤ). ForSome o IsHeight) (sym c.index.ensures)
    (All-get_or (λ (o : Option ℤ). ForSome o IsHeight) hs at c.index.result.now within c.self.invariant.heights_in_range) in
    still_cells c.self.inside.spec hs at (to_z w32 (of_z w32 highest)) c.self.invariant
    (subst IsHeight (sym whole) (c.higher-highest.ensures.in_range read (omega (arith, ints, near.0, near.1), omega (arith, ints, near.0, near.1))))

pub returns : goal.returns
returns c =
    let at = c.args.placed.place in
    let hs = c.self.inside.heights.items in
    let highest = c.higher-highest.result in
    let whole = to_z-of_z w32 highest (record { sfits = c.higher-highest.type_inv }) in
    let spec = ap (λ (g : Cells). g.spec) c.self.view_is in
    let cells = ap (λ (s : GridSpec). s.cols * s.rows) spec in
    let within : at < length hs = omega (arith, cells, c.self.invariant.full, c.requires.0) in
    let near = c.requires.1 in
    raised_there c.args.self.now c.self.inside.spec hs at c.args.placed.height (to_z w32 (of_z w32 highest)) c.index.result.now
    c.self.view_is within c.index.ensures
    (whole ∙ c.higher-highest.ensures.value ∙ ap (λ (z : ℤ). higher c.index.result.now z) (omega (arith, ints, near.0, near.1)))
