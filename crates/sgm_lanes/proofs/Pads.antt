-- A step with a great value in the place of a missing neighbour is a step with that neighbour left out.
use Rattle.std.proofs.Common.{◌≡◌, ℕ, zero, suc, ◌+◌, ◌-◌, ◌<◌, ◌≤◌, List, length, get_or, nat_lt, if◌then◌else◌, arith}
use Rattle.std.specs.List.{All}
use Rattle.std.proofs.lemmas.Bool.Decides.{nat_tests}

-- each lane's left neighbour, from the lanes and the one before the first
pub left_is : (behind result prev : List ℕ) (at absent i : ℕ) → get_or result 0 0 ≡ get_or behind 15 0
    → get_or behind 15 0 ≡ (if nat_lt 0 at then get_or prev (at - 1) 0 else absent) → ((k : ℕ) → k < 15 → get_or result (k + 1) 0 ≡ get_or prev (at + k) 0)
    → i < 16 → get_or result i 0 ≡ (if nat_lt 0 (at + i) then get_or prev (at + i - 1) 0 else absent)
left_is behind result prev at absent zero first is others lt = grind (arith, nat_tests)
left_is behind result prev at absent (suc k) first is others lt = grind (arith, nat_tests, others k)

-- neither neighbour is below the least value
pub left_low : (prev : List ℕ) (floor absent d : ℕ) → All (λ x. floor ≤ x) prev → floor ≤ absent → d < length prev → floor ≤ (if nat_lt 0 d then get_or prev (d - 1) 0 else absent)
left_low prev floor absent d low le lt = grind (arith, nat_tests, low (d - 1) 0)

pub right_low : (prev : List ℕ) (floor absent d : ℕ) → All (λ x. floor ≤ x) prev → floor ≤ absent → floor ≤ (if nat_lt (d + 1) (length prev) then get_or prev (d + 1) 0 else absent)
right_low prev floor absent d low le = grind (arith, nat_tests, low (d + 1) 0)
