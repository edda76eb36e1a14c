use Rattle.std.proofs.Common.{ap, sym}
use Rattle.sgm_energy.specs.Dirs.{offset}
use Rattle.sgm_energy.proofs.dir.Dir.offset.Goals as goal

pub returns-in-DownRight : goal.returns-in-DownRight
returns-in-DownRight c = sym (ap offset c.in-DownRight.is)
