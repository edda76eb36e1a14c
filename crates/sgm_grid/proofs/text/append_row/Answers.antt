use Rattle.sgm_grid.proofs.Rows.{row_ends}
use Rattle.sgm_grid.proofs.text.append_row.Goals as goal

pub returns-clause-ok : goal.returns-clause-ok
returns-clause-ok c =
    row_ends c.extend_from_slice.result c.args.into.now.items c.append_height.new.into.items c.append_rest.new.into.items c.extend_from_slice.new.self.items
    c.args.heights.now c.requires c.in_ok-append_height.ensures.ok c.in_ok-append_rest.ensures.ok c.extend_from_slice.ensures.items
