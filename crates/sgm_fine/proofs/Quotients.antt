-- Which of two quotients is greater, told by products.
use Rattle.std.proofs.Common.{◌≡◌, ℕ, ◌+◌, ◌*◌, ◌/◌, ◌<◌, ◌≤◌, ◌==◌, nat_lt, true, false, inl, inr, arith}
use Rattle.std.proofs.Math.Nat.{div-eq_of_lt, div-mul-le_self, le_of_mul-le-mul_right, mul-le-mul_right}
use Rattle.std.proofs.lemmas.Bool.{cases_lt}
use Rattle.std.proofs.lemmas.Nat.{le-div}

below : (a b : ℕ) → a < b → nat_lt a b ≡ true
below a b h = grind (arith, h)

not_below : (a b : ℕ) → b ≤ a → nat_lt a b ≡ false
not_below a b h = grind (arith, h)

pub no_greater : (a p b q : ℕ) → 0 < p → 0 < q → a * q ≤ b * p → nat_lt (b / q) (a / p) ≡ false
no_greater a p b q hp hq le =
    let own : ((a / p) * p) * q ≤ a * q = mul-le-mul_right q (div-mul-le_self a p) in
    let most : (a / p) * q ≤ b = le_of_mul-le-mul_right (omega (arith, own, le)) hp in
    not_below (b / q) (a / p) (le-div (a / p) b q hq most)

-- the quotients differ by one or more where the products differ by that of the divisors
pub surely_greater : (a p b q : ℕ) → 0 < p → 0 < q → b * p + p * q ≤ a * q → nat_lt (b / q) (a / p) ≡ true
surely_greater a p b q hp hq le =
    let others : ((b / q) * q) * p ≤ b * p = mul-le-mul_right p (div-mul-le_self b q) in
    let least : (b / q + 1) * p ≤ a = le_of_mul-le-mul_right (omega (arith, others, le)) hq in
    let more : b / q + 1 ≤ a / p = le-div (b / q + 1) a p hp least in
    below (b / q) (a / p) (omega (arith, more))

-- a quotient is 0 where the divisor is greater
pub none_where_less : (a p : ℕ) → 0 < p → nat_lt a p ≡ (a / p == 0)
none_where_less a p hp = elim (cases_lt a p) [
  | inl lt ↦ let none : a / p ≡ 0 = div-eq_of_lt lt in grind (arith, lt, none)
  | inr le ↦ let some : 1 ≤ a / p = le-div 1 a p hp (omega (arith, le)) in grind (arith, le, some)
]
