use Rattle.sgm_energy.proofs.PathLaws.{low, high, within_guided}
use Rattle.sgm_energy.proofs.laws.bounds.Goals as goal

pub returns-clause-low : goal.returns-clause-low
returns-clause-low c = low

pub returns-clause-high : goal.returns-clause-high
returns-clause-high c = high

pub returns-clause-guided : goal.returns-clause-guided
returns-clause-guided c = within_guided
