use Rattle.std.proofs.Common.{◌≡◌, ℕ, ◌<◌, ◌*◌}
use Rattle.sgm_board.specs.Boards.{parts_of, strips_of, IsIdlePassOf}
use Rattle.sgm_work.specs.Tries.{HasGlanced}
use Rattle.sgm_work.proofs.working.is_over.Given as goal

-- the words of the directions before this one were seen at twice the number of strips
abbrev pub invariant-loop-front : goal.invariant-loop-front
invariant-loop-front l = record {
  idle : IsIdlePassOf l.board l.pass;
  glanced : HasGlanced (parts_of l.fn.pass) (parts_of l.pass);
  over : (word : ℕ) → word < l.front → (parts_of l.pass).seen word ≡ 2 * strips_of l.board;
}
