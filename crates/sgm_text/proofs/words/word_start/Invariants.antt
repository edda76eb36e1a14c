use Rattle.std.proofs.Common.{length, ◌-◌, ◌≡◌, ◌≤◌, drop}
use Rattle.std.specs.Str.{IsUtf8, IsCharBoundary}
use Rattle.sgm_text.specs.Words.{words_of}
use Rattle.sgm_text.proofs.words.word_start.Given as goal

abbrev pub invariant-loop-start : goal.invariant-loop-start
invariant-loop-start l = record {
  within : l.start ≤ length l.bytes;
  boundary : IsUtf8 l.bytes → IsCharBoundary l.bytes l.start;
  same : words_of (drop l.start l.bytes) ≡ words_of l.bytes;
}

abbrev pub decreases-loop-start : goal.decreases-loop-start
decreases-loop-start l = length l.bytes - l.start
