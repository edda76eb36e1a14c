use Rattle.sgm_board.proofs.Lawful.{one_event}
use Rattle.sgm_board.proofs.laws.events.Goals as goal

pub returns-clause-legal : goal.returns-clause-legal
returns-clause-legal c about made s t m at v event shown stands makes = (one_event about made s m shown t at v event stands makes).0

pub returns-clause-after : goal.returns-clause-after
returns-clause-after c about made s t m at v event shown stands makes = (one_event about made s m shown t at v event stands makes).1
