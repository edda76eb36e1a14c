-- How often a number stands in a list, and lists that have each number below a limit once.
use Rattle.std.specs.Prelude.{◌≡◌, ℕ, ◌==◌, List, nat_lt, if◌then◌else◌}
use Rattle.std.specs.List.{sum_by}

abbrev pub times : List ℕ → ℕ → ℕ
times xs number = sum_by (λ x. if x == number then 1 else 0) xs

-- 1 for a number below the limit, else 0
abbrev pub once_below : ℕ → ℕ → ℕ
once_below limit number = if nat_lt number limit then 1 else 0

-- the list has the numbers below the limit, each once, and no other
abbrev pub IsEachOnce : ℕ → List ℕ → Type 0
IsEachOnce limit xs = (number : ℕ) → times xs number ≡ once_below limit number
