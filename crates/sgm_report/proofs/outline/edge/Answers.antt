use Rattle.sgm_report.proofs.Marks.{edge_back, edge_between}
use Rattle.sgm_report.proofs.outline.edge.Goals as goal

pub returns-then-index-corners-clause-value : goal.returns-then-index-corners-clause-value
returns-then-index-corners-clause-value c = edge_between c.args.corners.now c.args.index _ _ c.if-index-corners.true

pub returns-else-index-corners-clause-value : goal.returns-else-index-corners-clause-value
returns-else-index-corners-clause-value c = edge_back c.args.corners.now c.args.index _ _ c.requires.index c.if-index-corners.false
