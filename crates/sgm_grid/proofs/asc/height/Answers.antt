use Rattle.std.proofs.Common.{sym, ◌∙◌}
use Rattle.sgm_grid.specs.Numbers.{number_of}
use Rattle.sgm_grid.proofs.HeightLaws.{cell_as_read}
use Rattle.sgm_grid.proofs.asc.height.Goals as goal

pub returns : goal.returns
returns c = c.cell_told.ensures ∙ cell_as_read (number_of c.args.word.now) c.in_ok-number.field-0 (sym c.number.ensures ∙ c.in_ok-number.was)
