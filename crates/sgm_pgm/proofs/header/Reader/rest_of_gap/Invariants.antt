use Rattle.std.proofs.Common.{◌≡◌, ◌-◌, false, drop, length}
use Rattle.sgm_pgm.specs.Parts.{gap_rest}
use Rattle.sgm_pgm.proofs.header.Reader.rest_of_gap.Given as goal

-- what is left of the gap leads to where the whole of it leads
abbrev pub invariant-loop-byte : goal.invariant-loop-byte
invariant-loop-byte l = record {
  same : l.self.bytes.now ≡ l.fn.self.bytes.now;
  rest : gap_rest false (drop l.fn.self.at l.fn.self.bytes.now) ≡ gap_rest l.in_comment (drop l.self.at l.self.bytes.now);
}

abbrev pub decreases-loop-byte : goal.decreases-loop-byte
decreases-loop-byte l = length l.self.bytes.now - l.self.at
