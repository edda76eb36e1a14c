use Rattle.std.proofs.Common.{arith}
use Rattle.std.proofs.lemmas.Nat.{ones-le, xor_lt}
use Rattle.sgm_lanes.proofs.codes.differing.Goals as goal

-- there are at most 64 bits to count
pub overflow_cast-result : goal.overflow_cast-result
overflow_cast-result c = omega (arith, ones-le 64 _ (xor_lt 64 c.args.a c.args.b (omega arith) (omega arith)))
