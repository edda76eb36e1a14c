use Rattle.std.proofs.Common.{rules}
use Rattle.sgm_board.specs.Plans.{about_of}
use Rattle.sgm_board.proofs.Rules.{gathers}
use Rattle.sgm_board.proofs.steps.join.Goals as goal

pub join_seat-requires : goal.join_seat-requires
join_seat-requires c =
    let k = c.args.shown.now.key in (
      search rules,
      search rules,
      search rules,
      search rules,
      gathers (about_of k) k.passes c.args.seat.now.id c.args.seat.now.me.0 c.args.other.id c.args.other.me.0 c.requires.idle.0 c.requires.idle.1 c.requires.idle.2 c.requires.idle.3 c.requires.idle.4,
    )
