use Rattle.std.proofs.Common.{rules, sym, subst, ◌∙◌, arith}
use Rattle.sgm_draws.specs.Plays.{Known}
use Rattle.sgm_draws.specs.Views.{IsLive}
use Rattle.sgm_draws.proofs.Seats.{checks, gathers, joined_live}
use Rattle.sgm_draws.proofs.draws.Draws.join.Goals as goal

pub join_seat-requires : goal.join_seat-requires
join_seat-requires c =
    let k = c.args.self.now.table.shared.key in
    (search rules, search rules, search rules, omega arith, gathers k.count k.passes c.args.ticket.now.seat.id c.args.ticket.now.seat.me.0 c.args.other.seat.id c.args.other.seat.me.0 c.requires.own.live c.requires.other.live)

pub load-requires : goal.load-requires
load-requires c =
    let k = c.args.self.now.table.shared.key in
    let did = c.join_seat.ensures in
    let live = subst (λ (m : Known). IsLive k.count k.passes m.0) (sym did.2) (joined_live k.count k.passes c.args.ticket.now.seat.me.0 c.args.other.seat.me.0 c.requires.own.live) in
    (did.0 ∙ c.requires.own.same_table, omega arith, checks k.count k.passes c.args.self.now.table.shared.table_id.slots c.join_seat.new.seat.id c.join_seat.new.seat.me live)
