use Rattle.std.proofs.Common.{Some, None}
use Rattle.std.proofs.lemmas.Bool.Decides.{Decides-eqb}
use Rattle.std.proofs.lemmas.Slice.Eq.{strip_prefix_is}
use Rattle.sgm_list.proofs.Joins.{join_some, join_none}
use Rattle.sgm_list.proofs.clash.is_joined.Goals as goal

pub returns-in-Some : goal.returns-in-Some
returns-in-Some c = join_some c.args.whole.now c.args.front.now c.in-Some.rest.now c.args.back.now c.eq.result c.eq.ensures (strip_prefix_is Decides-eqb c.args.whole.now c.args.front.now (Some c.in-Some.rest) c.in-Some.ensures.cases)

pub returns-in-None : goal.returns-in-None
returns-in-None c = join_none c.args.whole.now c.args.front.now c.args.back.now (strip_prefix_is Decides-eqb c.args.whole.now c.args.front.now None c.in-None.ensures.cases)
