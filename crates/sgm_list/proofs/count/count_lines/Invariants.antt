use Rattle.std.proofs.Common.{length, count_by, ◌≡◌, ◌+◌, ◌==◌, ◌≤◌}
use Rattle.std.specs.List.{position_from}
use Rattle.sgm_list.specs.Faults.{is_faulty}
use Rattle.sgm_text.specs.Words.{lines_left, lines_of, words_of}
use Rattle.sgm_list.specs.Reading.{size_left}
use Rattle.sgm_list.proofs.count.count_lines.Given as goal

abbrev pub invariant-loop-left : goal.invariant-loop-left
invariant-loop-left l = record {
  counted : l.count + count_by (λ line. length (words_of line) == l.need) (lines_left l.left) ≡ count_by (λ line. length (words_of line) == l.need) (lines_of l.text);
  first : position_from (is_faulty l.need) (l.number + 1) (lines_left l.left) ≡ position_from (is_faulty l.need) 1 (lines_of l.text);
  passed : l.number + size_left l.left ≤ length l.text + 1;
  few : l.count ≤ l.number;
}

abbrev pub decreases-loop-left : goal.decreases-loop-left
decreases-loop-left l = size_left l.left
