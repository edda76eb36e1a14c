use Rattle.std.proofs.Common.{◌≡◌, take, min, ◌^◌}
use Rattle.sgm_words.specs.Numbers.{value_of}
use Rattle.sgm_words.proofs.numbers.capped_value.Given as goal

abbrev pub invariant-loop-digit : goal.invariant-loop-digit
invariant-loop-digit l = l.value ≡ min (value_of (take l.digit-index l.digits)) (2 ^ 32)
