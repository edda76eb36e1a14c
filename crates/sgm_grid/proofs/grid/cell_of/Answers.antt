use Rattle.std.proofs.Common.{◌≡◌, None, sym, ◌∙◌}
use Rattle.sgm_grid.specs.Points.{cell_of, col_of, row_from_south}
use Rattle.sgm_grid.proofs.Added.{line_is, outside_cols, outside_rows, inside_both}
use Rattle.sgm_grid.proofs.grid.cell_of.Goals as goal

pub returns-in_err-col-clause-value : goal.returns-in_err-col-clause-value
returns-in_err-col-clause-value c =
    let col : c.line_of.result ≡ col_of c.args.spec c.args.p =
    line_is c.args.p.x c.args.spec.west c.args.spec.cell c.args.spec.cols c.line_of.result c.requires.east c.requires.ranges.west_in_range c.requires.ranges.cell_in_range c.line_of.ensures.value in
    let none : c.line_of.result ≡ None = c.in_err-col.was in
    let outside : None ≡ cell_of c.args.spec c.args.p = outside_cols c.args.spec c.args.p (sym none ∙ col) in
    cc

pub returns-in_err-south-clause-value : goal.returns-in_err-south-clause-value
returns-in_err-south-clause-value c =
    let col : c.line_of.result ≡ col_of c.args.spec c.args.p =
    line_is c.args.p.x c.args.spec.west c.args.spec.cell c.args.spec.cols c.line_of.result c.requires.east c.requires.ranges.west_in_range c.requires.ranges.cell_in_range c.line_of.ensures.value in
    let south : c.line_of-2.result ≡ row_from_south c.args.spec c.args.p =
    line_is c.args.p.y c.args.spec.south c.args.spec.cell c.args.spec.rows c.line_of-2.result c.requires.north c.requires.ranges.south_in_range c.requires.ranges.cell_in_range c.line_of-2.ensures.value in
    let none : c.line_of-2.result ≡ None = c.in_err-south.was in
    let outside : None ≡ cell_of c.args.spec c.args.p = outside_rows c.args.spec c.args.p c.line_of.result col (sym none ∙ south) in
    cc

pub returns-clause-value : goal.returns-clause-value
returns-clause-value c =
    let col : c.line_of.result ≡ col_of c.args.spec c.args.p =
    line_is c.args.p.x c.args.spec.west c.args.spec.cell c.args.spec.cols c.line_of.result c.requires.east c.requires.ranges.west_in_range c.requires.ranges.cell_in_range c.line_of.ensures.value in
    let south : c.line_of-2.result ≡ row_from_south c.args.spec c.args.p =
    line_is c.args.p.y c.args.spec.south c.args.spec.cell c.args.spec.rows c.line_of-2.result c.requires.north c.requires.ranges.south_in_range c.requires.ranges.cell_in_range c.line_of-2.ensures.value in
    inside_both c.args.spec c.args.p c.in_ok-col.col c.in_ok-south.south (sym c.in_ok-col.was ∙ col) (sym c.in_ok-south.was ∙ south)
