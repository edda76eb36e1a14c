use Rattle.std.proofs.Common.{◌*◌, ◌<◌, length, arith, ap, ◌∙◌}
use Rattle.std.proofs.lemmas.Int.{ints}
use Rattle.sgm_grid.specs.declared.grid_spec.GridSpec.{GridSpec}
use Rattle.sgm_grid.specs.Binning.{CellSums, with_height}
use Rattle.sgm_grid.proofs.Summed.{summed_there}
use Rattle.sgm_grid.proofs.bins.Sums.add_placed.Goals as goal

pub returns : goal.returns
returns c =
    let spec = ap (λ (g : CellSums). g.spec) c.self.view_is in
    let cells = ap (λ (s : GridSpec). s.cols * s.rows) spec in
    let within : c.args.placed.place < length c.self.inside.sums.items = omega (arith, cells, c.self.invariant.full, c.requires.placed.0) in
    summed_there c.args.self.now c.self.inside.spec c.self.inside.sums.items c.args.placed.place c.args.placed.height c.index-sum.result.now c.with.result
    c.self.view_is within c.index-sum.ensures
    (c.with.ensures ∙ ap (with_height c.index-sum.result.now) (omega (arith, ints, c.from.ensures)))
