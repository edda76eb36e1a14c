use Rattle.sgm_fine.proofs.Quotients.{none_where_less}
use Rattle.sgm_fine.proofs.score.Score.is_zero.Goals as goal

pub returns : goal.returns
returns c = none_where_less c.args.self.square c.args.self.part c.args.self.some
