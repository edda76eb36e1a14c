use Rattle.std.proofs.Common.{◌≡◌, ◌+◌, ◌-◌, ◌≤◌, List, length, take, drop, map, ℤ, Option, sym, ap, ◌∙◌, arith}
use Rattle.std.specs.Option.{ForSome}
use Rattle.std.proofs.lemmas.List.Elements.{All-take, All-drop}
use Rattle.sgm_grid.specs.Cells.{IsHeight, height_at}
use Rattle.sgm_report.specs.Areas.{Area}
use Rattle.sgm_report.specs.Tallies.{cols_of}
use Rattle.sgm_report.proofs.Cells.{part_is}
use Rattle.sgm_report.proofs.volumes.row_of.Goals as goal

pub returns-clause-value : goal.returns-clause-value
returns-clause-value c =
    let grid = c.args.grid.now in
    let row = c.args.row in
    let own = c.region.inside in
    let own_col : own.col ≡ c.args.region.now.col = ap (λ (a : Area). a.col) c.region.view_is in
    let own_cols : own.cols ≡ c.args.region.now.cols = ap (λ (a : Area). a.cols) c.region.view_is in
    let in_cols : own.col + own.cols ≤ grid.spec.cols = omega (arith, c.requires.inside.within_cols) in
    ap (λ (t : List (Option ℤ)). take (own.col + own.cols - own.col) (drop own.col t)) c.row.ensures.value
    ∙ part_is grid row own.col own.cols (own.col + own.cols - own.col) (ap length (sym c.row.ensures.value) ∙ c.row.ensures.whole) in_cols (omega arith)
    ∙ ap (λ (a : Area). map (λ col. height_at grid col row) (cols_of a)) c.region.view_is

pub returns-clause-in_range : goal.returns-clause-in_range
returns-clause-in_range c =
    let P : Option ℤ → Type 0 = λ height. ForSome height IsHeight in
    All-take P _ (drop c.region.inside.col c.row.result.now) (All-drop P c.region.inside.col c.row.result.now c.row.ensures.in_range)
