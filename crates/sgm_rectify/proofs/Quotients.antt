-- Quotients that are found from a number beside them.
use Rattle.std.proofs.Common.{◌≡◌, ℕ, ◌+◌, ◌-◌, ◌*◌, ◌<◌, ℤ, pos, negsuc, ◌+ℤ◌, ◌-ℤ◌, ◌*ℤ◌, ◌≤ℤ◌, ◌<ℤ◌, sym, ap, ◌∙◌, arith}
use Rattle.std.specs.Int.{int_div_euclid}
use Rattle.std.proofs.lemmas.Int.{ints}
use Rattle.std.proofs.lemmas.Nat.{div-mul-add}

-- a number that lies less than the divisor above a multiple of it
floor_at : (a q : ℤ) (k m : ℕ) → m < k → a ≡ (q *ℤ pos k) +ℤ pos m → int_div_euclid a (pos k) ≡ q
floor_at a (pos n) k m below e =
    let same : a ≡ pos (n * k + m) = omega (arith, ints, e) in
    ap (λ (z : ℤ). int_div_euclid z (pos k)) same ∙ ap pos (div-mul-add n k m below)
floor_at a (negsuc n) k m below e =
    let same : a ≡ negsuc (n * k + (k - 1 - m)) = omega (arith, ints, e, below) in
    ap (λ (z : ℤ). int_div_euclid z (pos k)) same ∙ ap negsuc (div-mul-add n k (k - 1 - m) (omega (arith, below)))

pub is_floor : (a b q left : ℤ) → pos 0 <ℤ b → left ≡ a -ℤ (q *ℤ b) → pos 0 ≤ℤ left → left <ℤ b → q ≡ int_div_euclid a b
is_floor a (pos k) q (pos m) some e low high = sym (floor_at a q k m (omega (arith, ints, high)) (omega (arith, ints, e)))
is_floor a (pos k) q (negsuc m) some e low high = absurd (omega (arith, ints, low))
is_floor a (negsuc k) q left some e low high = absurd (omega (arith, ints, some))
