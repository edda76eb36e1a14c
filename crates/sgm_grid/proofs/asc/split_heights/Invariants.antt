use Rattle.std.proofs.Common.{◌≡◌, ◌+◌, ◌-◌, ◌≤◌, ◌++◌, drop, length}
use Rattle.sgm_grid.specs.Leading.{leading}
use Rattle.sgm_text.specs.Words.{words_of}
use Rattle.sgm_grid.proofs.asc.split_heights.Given as goal

-- the heights that were read and those that still lead are those of the whole text
abbrev pub invariant-loop-rest : goal.invariant-loop-rest
invariant-loop-rest l = record {
  few : length l.heights.items ≤ l.most;
  whole : l.heights.items ++ leading (l.most - length l.heights.items) (words_of l.rest) ≡ leading l.most (words_of l.text);
  rest : words_of l.rest ≡ drop (length l.heights.items) (words_of l.text);
  within : length l.heights.items + length l.rest ≤ length l.text;
}

abbrev pub decreases-loop-rest : goal.decreases-loop-rest
decreases-loop-rest l = length l.rest
