use Rattle.std.proofs.Common.{rules, arith}
use Rattle.sgm_draws.proofs.Seats.{draws}
use Rattle.sgm_draws.proofs.draws.Draws.draw.Goals as goal

pub fetch_add-found-requires : goal.fetch_add-found-requires
fetch_add-found-requires c =
    let k = c.args.self.now.table.shared.key in
    (search rules, omega arith, draws k.count k.passes c.args.self.now.table.shared.table_id.slots c.args.ticket.now.seat.id c.args.ticket.now.seat.me (omega arith) (omega arith) c.requires.own.live c.requires.below)
