use Rattle.std.proofs.Common.{arith, sym}
use Rattle.sgm_fine.proofs.Quotients.{no_greater, surely_greater}
use Rattle.sgm_fine.proofs.score.Score.is_greater.Goals as goal

pub returns-then-mine-others : goal.returns-then-mine-others
returns-then-mine-others c =
    let score = c.args.self in
    let other = c.args.other in
    sym (no_greater score.square score.part other.square other.part score.some other.some (omega (arith, c.if-mine-others.true, c.wide-mine.ensures, c.wide-others.ensures)))

pub returns-then-wide-mine : goal.returns-then-wide-mine
returns-then-wide-mine c =
    let score = c.args.self in
    let other = c.args.other in
    sym (surely_greater score.square score.part other.square other.part score.some other.some
    (omega (arith, c.if-mine-others.false, c.if-wide-mine.true, c.wide-mine.ensures, c.wide-others.ensures, c.wide.ensures)))
