use Rattle.sgm_draws.proofs.Popping.{rest_new}
use Rattle.sgm_series_tests.proofs.Tickets.{last_unused}
use Rattle.sgm_series_tests.proofs.draws.last_of.Goals as goal

pub returns-clause-unused : goal.returns-clause-unused
returns-clause-unused c = last_unused c.args.draws.now c.args.tickets.now.items c.pop.new.self.items c.pop.result c.pop.ensures.items c.requires

pub returns-clause-rest : goal.returns-clause-rest
returns-clause-rest c = rest_new c.args.draws.now c.args.tickets.now.items c.pop.new.self.items c.pop.result c.pop.ensures.items c.requires
