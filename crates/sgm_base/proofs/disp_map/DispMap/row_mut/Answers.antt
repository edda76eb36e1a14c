use Rattle.std.proofs.Common.{rules}
use Rattle.sgm_base.proofs.disp_map.DispMap.row_mut.Goals as goal

pub returns : goal.returns
returns c = search rules
