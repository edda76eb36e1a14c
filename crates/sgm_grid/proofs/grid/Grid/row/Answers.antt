use Rattle.std.proofs.Common.{ℤ, Option, drop, ◌+◌, ◌-◌, ◌*◌}
use Rattle.std.specs.Option.{ForSome}
use Rattle.std.proofs.lemmas.List.Elements.{All-take, All-drop}
use Rattle.sgm_grid.specs.Cells.{IsHeight}
use Rattle.sgm_grid.proofs.grid.Grid.row.Goals as goal

pub returns-clause-in_range : goal.returns-clause-in_range
returns-clause-in_range c =
    let P : Option ℤ → Type 0 = λ height. ForSome height IsHeight in
    let at = c.args.row * c.self.inside.spec.cols in
    All-take P (at + c.self.inside.spec.cols - at) (drop at c.deref.result.now)
    (All-drop P at c.deref.result.now (rw c.deref.ensures.value c.self.invariant.heights_in_range))
