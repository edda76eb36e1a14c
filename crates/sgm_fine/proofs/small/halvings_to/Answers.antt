use Rattle.sgm_fine.proofs.Halvings.{length_enough, length_few, length_least}
use Rattle.sgm_fine.proofs.small.halvings_to.Goals as goal

pub returns-clause-few : goal.returns-clause-few
returns-clause-few c = length_few c.args.bits c.args.number _ c.requires.number c.saturating_sub.ensures

pub returns-clause-enough : goal.returns-clause-enough
returns-clause-enough c = length_enough c.args.bits c.args.number _ c.requires.number c.saturating_sub.ensures

pub returns-clause-least : goal.returns-clause-least
returns-clause-least c = length_least c.args.bits c.args.number _ c.requires.number c.saturating_sub.ensures
