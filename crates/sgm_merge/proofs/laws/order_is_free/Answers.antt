use Rattle.sgm_merge.proofs.Orders.{order_is_free}
use Rattle.sgm_merge.proofs.laws.order_is_free.Goals as goal

pub returns : goal.returns
returns c = order_is_free
