use Rattle.std.proofs.Common.{length, ◌-◌, ◌≡◌, ◌<◌, ◌≤◌, ℕ, false, get_or}
use Rattle.sgm_text.specs.Words.{is_space}
use Rattle.sgm_text.proofs.words.word_len.Given as goal

abbrev pub invariant-loop-count : goal.invariant-loop-count
invariant-loop-count l = record {
  some : 0 < l.count;
  within : l.count ≤ length l.bytes;
  word : (k : ℕ) → k < l.count → is_space (get_or l.bytes k 0) ≡ false;
}

abbrev pub decreases-loop-count : goal.decreases-loop-count
decreases-loop-count l = length l.bytes - l.count
