-- A quotient, and that of the number turned round.
use Rattle.std.proofs.Common.{◌≡◌, ℕ, ◌+◌, ◌-◌, ◌*◌, ◌/◌, ◌%◌, ◌<◌, zero, suc, true, false, ℤ, pos, negsuc, ◌+ℤ◌, ◌-ℤ◌, ◌*ℤ◌, ◌≤ℤ◌, if◌then◌else◌, ap, sym, ◌∙◌, arith}
use Rattle.std.specs.Int.{int_div_euclid}
use Rattle.std.specs.Ordering.{int_eq}
use Rattle.std.proofs.Math.IntN.{*ℤ_comm}
use Rattle.std.proofs.lemmas.Int.{ints}
use Rattle.std.proofs.lemmas.Nat.{div-add-mod', div-mul-add, mod_below}
use Rattle.sgm_fine.proofs.Products.{times_difference}

-- a number that lies less than the divisor above a multiple of it
floor_at : (t q : ℤ) (k m : ℕ) → m < k → t ≡ (q *ℤ pos k) +ℤ pos m → int_div_euclid t (pos k) ≡ q
floor_at t (pos n) k m below e =
    let same : t ≡ pos (n * k + m) = omega (arith, ints, e) in
    ap (λ (z : ℤ). int_div_euclid z (pos k)) same ∙ ap pos (div-mul-add n k m below)
floor_at t (negsuc n) k m below e =
    let same : t ≡ negsuc (n * k + (k - 1 - m)) = omega (arith, ints, e, below) in
    ap (λ (z : ℤ). int_div_euclid z (pos k)) same ∙ ap negsuc (div-mul-add n k (k - 1 - m) (omega (arith, below)))

-- the quotient of the divisor less that number
turned_at : (t q : ℤ) (k m : ℕ) → m < k → t ≡ (q *ℤ pos k) +ℤ pos m → int_div_euclid (pos k -ℤ t) (pos k) ≡ (if int_eq (q *ℤ pos k) t then pos 1 else pos 0) -ℤ q
turned_at t q k zero below e =
    let exact : int_eq (q *ℤ pos k) t ≡ true = grind (arith, ints, e) in
    let less : (pos 1 -ℤ q) *ℤ pos k ≡ pos k -ℤ (q *ℤ pos k) = *ℤ_comm (pos 1 -ℤ q) (pos k) ∙ times_difference (pos k) (pos 1) q ∙ omega (arith, ints, *ℤ_comm q (pos k)) in
    floor_at (pos k -ℤ t) (pos 1 -ℤ q) k 0 below (omega (arith, ints, e, less)) ∙ sym (ap (λ b. (if b then pos 1 else pos 0) -ℤ q) exact)
turned_at t q k (suc m) below e =
    let exact : int_eq (q *ℤ pos k) t ≡ false = grind (arith, ints, e) in
    let less : (pos 0 -ℤ q) *ℤ pos k ≡ pos 0 -ℤ (q *ℤ pos k) = *ℤ_comm (pos 0 -ℤ q) (pos k) ∙ times_difference (pos k) (pos 0) q ∙ omega (arith, ints, *ℤ_comm q (pos k)) in
    floor_at (pos k -ℤ t) (pos 0 -ℤ q) k (k - suc m) (omega (arith, below)) (omega (arith, ints, e, less, below)) ∙ sym (ap (λ b. (if b then pos 1 else pos 0) -ℤ q) exact)

pub turned : (t d : ℤ) → pos 1 ≤ℤ d → int_div_euclid (d -ℤ t) d ≡ (if int_eq (int_div_euclid t d *ℤ d) t then pos 1 else pos 0) -ℤ int_div_euclid t d
turned (pos n) (pos k) some =
    turned_at (pos n) (pos (n / k)) k (n % k) (mod_below n k (omega (arith, ints, some))) (omega (arith, ints, div-add-mod' n k))
turned (negsuc n) (pos k) some =
    let below : n % k < k = mod_below n k (omega (arith, ints, some)) in
    turned_at (negsuc n) (negsuc (n / k)) k (k - 1 - n % k) (omega (arith, below)) (omega (arith, ints, below, div-add-mod' n k))
turned t (negsuc k) some = absurd (omega (arith, ints, some))
