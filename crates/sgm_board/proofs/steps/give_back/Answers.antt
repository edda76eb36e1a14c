use Rattle.std.proofs.Common.{rules, arith}
use Rattle.atomic_table.specs.Table.{rest}
use Rattle.sgm_board.specs.Plans.{about_of}
use Rattle.sgm_board.proofs.StripRules.{returns_at}
use Rattle.sgm_board.proofs.steps.give_back.Goals as goal

pub compare_exchange-requires : goal.compare_exchange-requires
compare_exchange-requires c =
    let k = c.args.shown.now.key in
    let h = c.requires.holds in (
      search rules,
      omega (arith, c.requires.table.1, c.requires.strip),
      returns_at (about_of k) k.passes c.args.shown.now.table_id.slots c.exchange.new.seat.id c.args.seat.now.me.0 c.args.strip c.args.parcel (rest c.args.seat.now.me.1) h.0 h.1 h.2 c.requires.parcel c.exchange.new.seat.me c.exchange.ensures.3,
    )
