use Rattle.std.proofs.Common.{arith}
use Rattle.sgm_stages.specs.Ends.{order_of}
use Rattle.sgm_stages.proofs.VerdictLaws.{none_fetched}
use Rattle.sgm_stages.proofs.gathering.fetch_input.Goals as goal

pub returns-in-Err-Failed-clause-bytes : goal.returns-in-Err-Failed-clause-bytes
returns-in-Err-Failed-clause-bytes g c = λ told next none. none_fetched (order_of c.args.input) c.args.input (g.S.Shelf.held c.args.shelf.now c.args.name.now) next (omega arith) none
