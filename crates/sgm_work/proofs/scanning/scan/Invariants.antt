use Rattle.std.proofs.Common.{◌≡◌, ℕ, ◌+◌, ◌*◌, ◌≤◌}
use Rattle.sgm_board.specs.Words.{strip_word}
use Rattle.sgm_board.specs.Boards.{parts_of, IsIdlePassOf}
use Rattle.sgm_work.specs.Worked.{IsSamePass, LooksMore, TriesWhatItClaims}
use Rattle.sgm_work.proofs.scanning.scan.Given as goal

-- the strips before this one were visited
abbrev pub invariant-loop-strip : goal.invariant-loop-strip
invariant-loop-strip g l = record {
  idle : IsIdlePassOf l.board l.pass;
  spare : l.spare ≡ l.fn.spare;
  few : l.handed ≤ 6 * l.strip;
  same : IsSamePass (parts_of l.fn.pass) (parts_of l.pass);
  puts : (parts_of l.pass).puts ≡ (parts_of l.fn.pass).puts + l.handed;
  looked : LooksMore 1 l.strip (parts_of l.fn.pass) (parts_of l.pass);
  looks : (s : ℕ) → (parts_of l.fn.pass).looks (strip_word s) ≤ (parts_of l.pass).looks (strip_word s);
  tried : TriesWhatItClaims (parts_of l.fn.pass) (parts_of l.pass);
}
