use Rattle.std.proofs.Common.{rules, arith}
use Rattle.sgm_board.specs.Plans.{about_of}
use Rattle.sgm_board.proofs.Rules.{looks}
use Rattle.sgm_board.proofs.steps.look.Goals as goal

pub load-requires : goal.load-requires
load-requires c =
    let k = c.args.shown.now.key in
    (search rules, omega arith, looks (about_of k) k.passes c.args.shown.now.table_id.slots c.args.seat.now.id c.args.seat.now.me c.args.word c.requires.word c.requires.live)
