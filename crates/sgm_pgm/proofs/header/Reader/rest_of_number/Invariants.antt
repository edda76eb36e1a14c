use Rattle.std.proofs.Common.{◌≡◌, ◌≤◌, ◌-◌, drop, length}
use Rattle.sgm_pgm.specs.Parts.{number_rest}
use Rattle.sgm_pgm.specs.declared.header.TheConstants.{TOO_GREAT}
use Rattle.sgm_pgm.proofs.header.Reader.rest_of_number.Given as goal

-- what is left of the number leads to where the whole of it leads
abbrev pub invariant-loop-byte : goal.invariant-loop-byte
invariant-loop-byte l = record {
  same : l.self.bytes.now ≡ l.fn.self.bytes.now;
  capped : l.value ≤ TOO_GREAT;
  rest : number_rest 0 (drop l.fn.self.at l.fn.self.bytes.now) ≡ number_rest l.value (drop l.self.at l.self.bytes.now);
}

abbrev pub decreases-loop-byte : goal.decreases-loop-byte
decreases-loop-byte l = length l.self.bytes.now - l.self.at
