use Rattle.std.proofs.Common.{arith}
use Rattle.sgm_board.specs.Words.{dir_word}
use Rattle.sgm_board.specs.Boards.{parts_of, strips_of}
use Rattle.sgm_work.proofs.Visiting.{still_idle}
use Rattle.sgm_work.proofs.Glancing.{glanced_more, glanced_none, over_all, over_more}
use Rattle.sgm_work.proofs.working.is_over.Goals as goal

pub loop-front-init : goal.loop-front-init
loop-front-init c = record { idle = c.requires.idle; glanced = glanced_none (parts_of c.args.pass.now); over = λ word h. absurd (omega arith) }

pub returns-then-passed-strips-clause-idle : goal.returns-then-passed-strips-clause-idle
returns-then-passed-strips-clause-idle c = let look = c.passed.ensures.look in still_idle c.args.board.now c.loop-front.pass c.passed.new.pass (dir_word c.dir_of.result) look.0 c.loop-front.invariant.idle c.passed.ensures.own look.3

pub returns-then-passed-strips-clause-glanced : goal.returns-then-passed-strips-clause-glanced
returns-then-passed-strips-clause-glanced c = let look = c.passed.ensures.look in
    glanced_more (parts_of c.args.pass.now) (parts_of c.loop-front.pass) (parts_of c.passed.new.pass) c.dir_of.result look.0 c.loop-front.invariant.glanced look.3

pub loop-front-preserved : goal.loop-front-preserved
loop-front-preserved c =
    let inv = c.loop-front.invariant in
    let look = c.passed.ensures.look in
    let is = look.3 in
    record {
      idle = still_idle c.args.board.now c.loop-front.pass c.passed.new.pass (dir_word c.dir_of.result) look.0 inv.idle c.passed.ensures.own is;
      glanced = glanced_more (parts_of c.args.pass.now) (parts_of c.loop-front.pass) (parts_of c.passed.new.pass) c.dir_of.result look.0 inv.glanced is;
      over = over_more (strips_of c.args.board.now) c.loop-front.front look.0 c.passed.result c.dir_of.result (parts_of c.loop-front.pass) (parts_of c.passed.new.pass) c.dir_of.ensures.front is look.1 look.2
          (omega (arith, c.if-passed-strips.false, c.strips.ensures)) inv.over;
    }

pub returns-clause-over : goal.returns-clause-over
returns-clause-over c true-one = over_all (strips_of c.args.board.now) c.loop-front.front (parts_of c.loop-front.pass) (omega arith) c.loop-front.invariant.over
