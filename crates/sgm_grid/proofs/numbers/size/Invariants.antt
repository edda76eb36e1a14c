use Rattle.std.proofs.Common.{◌≡◌, true, take}
use Rattle.std.specs.Str.{all_ascii_digits}
use Rattle.std.specs.Str.Parse.{digits_value}
use Rattle.sgm_grid.specs.Capped.{capped_size}
use Rattle.sgm_grid.proofs.numbers.size.Given as goal

abbrev pub invariant-loop-byte : goal.invariant-loop-byte
invariant-loop-byte l = record {
  digits : all_ascii_digits (take l.byte-index l.digits) ≡ true;
  value : l.value ≡ capped_size (digits_value 10 (take l.byte-index l.digits));
}
