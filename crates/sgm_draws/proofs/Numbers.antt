-- Numbers below a limit, each once.
use Rattle.std.proofs.Common.{◌≡◌, ℕ, zero, suc, ◌+◌, ◌<◌, ◌≤◌, cond, eqb, ltb, leb, List, [], ◌∷◌, ◌++◌, length, refl, arith}
use Rattle.std.proofs.lemmas.List.Sums.{sum_by-append, sum_by-cons}
use Rattle.sgm_draws.specs.Numbers.{times, once_below}
use Rattle.sgm_draws.specs.Views.{count_up}

pub times_append : (xs ys : List ℕ) (n : ℕ) → times (xs ++ ys) n ≡ times xs n + times ys n
times_append xs ys n = sum_by-append (λ x. cond (eqb x n) 1 0) xs ys

pub times_cons : (x : ℕ) (xs : List ℕ) (n : ℕ) → times (x ∷ xs) n ≡ cond (eqb x n) 1 0 + times xs n
times_cons x xs n = sum_by-cons (λ y. cond (eqb y n) 1 0) x xs

pub times_own : (n : ℕ) (xs : List ℕ) → 1 ≤ times (n ∷ xs) n
times_own n xs = let c = times_cons n xs n in grind arith

pub times_short : (xs : List ℕ) (n : ℕ) → times xs n ≤ length xs
times_short [] n = omega arith
times_short (x ∷ xs) n = let h = times_short xs n in let c = times_cons x xs n in let e : length (x ∷ xs) ≡ suc (length xs) = refl in grind arith

pub once_yes : (limit n : ℕ) → n < limit → once_below limit n ≡ 1
once_yes limit n l = grind arith

pub once_inside : (limit n : ℕ) → 1 ≤ once_below limit n → n < limit
once_inside limit n h = grind arith

pub once_most : (limit n : ℕ) → once_below limit n ≤ 1
once_most limit n = grind arith

pub once_more : (limit n : ℕ) → once_below (limit + 1) n ≡ once_below limit n + cond (eqb limit n) 1 0
once_more limit n = grind arith

-- so many numbers from k on
pub times_count_up : (k c n : ℕ) → times (count_up k c) n ≡ cond (leb k n) (cond (ltb n (k + c)) 1 0) 0
times_count_up k zero n = let e : times (count_up k zero) n ≡ 0 = refl in grind arith
times_count_up k (suc c) n = let h = times_count_up (k + 1) c n in let e = times_cons k (count_up (k + 1) c) n in grind arith

pub length_count_up : (k c : ℕ) → length (count_up k c) ≡ c
length_count_up k zero = refl
length_count_up k (suc c) = let h = length_count_up (k + 1) c in omega arith

pub times_all : (made n : ℕ) → times (count_up 0 made) n ≡ once_below made n
times_all made n = let h = times_count_up 0 made n in grind arith
