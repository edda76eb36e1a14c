-- Products of sums of signed numbers.
use Rattle.std.proofs.Common.{◌≡◌, ◌+◌, ◌*◌, ℤ, ◌+ℤ◌, ◌-ℤ◌, ◌*ℤ◌, arith, ap, ◌∙◌}
use Rattle.std.proofs.Math.IntN.{*ℤ_comm}
use Rattle.std.proofs.lemmas.Int.{ints}
use borrow.Author.Differences.{up, down}

pub times_sum : (a b c : ℤ) → a *ℤ (b +ℤ c) ≡ (a *ℤ b) +ℤ (a *ℤ c)
times_sum a b c =
    let e : up (b +ℤ c) + (down b + down c) ≡ down (b +ℤ c) + (up b + up c) = omega (arith, ints) in
    omega (arith, ints, ap (λ n. up a * n) e, ap (λ n. down a * n) e)

pub times_difference : (a b c : ℤ) → a *ℤ (b -ℤ c) ≡ (a *ℤ b) -ℤ (a *ℤ c)
times_difference a b c =
    let e : up (b -ℤ c) + (down b + up c) ≡ down (b -ℤ c) + (up b + down c) = omega (arith, ints) in
    omega (arith, ints, ap (λ n. up a * n) e, ap (λ n. down a * n) e)

-- the product of two distances
pub times_apart : (p q a b : ℤ) → (p -ℤ a) *ℤ (q -ℤ b) ≡ (((p *ℤ q) -ℤ (b *ℤ p)) -ℤ (a *ℤ q)) +ℤ (a *ℤ b)
times_apart p q a b =
    let outer = times_difference (p -ℤ a) q b in
    let left = *ℤ_comm (p -ℤ a) q ∙ times_difference q p a in
    let right = *ℤ_comm (p -ℤ a) b ∙ times_difference b p a in
    omega (arith, ints, outer, left, right)

-- a sum that grows by a product
pub times_more : (a b c d : ℤ) → (a +ℤ c) *ℤ (b +ℤ d) ≡ (((a *ℤ b) +ℤ (a *ℤ d)) +ℤ (c *ℤ b)) +ℤ (c *ℤ d)
times_more a b c d =
    let outer = times_sum (a +ℤ c) b d in
    let left = *ℤ_comm (a +ℤ c) b ∙ times_sum b a c in
    let right = *ℤ_comm (a +ℤ c) d ∙ times_sum d a c in
    omega (arith, ints, outer, left, right)

-- the first two of three factors exchanged
pub times_swap : (a b c : ℤ) → a *ℤ (b *ℤ c) ≡ b *ℤ (a *ℤ c)
times_swap a b c =
    let e : up (b *ℤ c) + (up b * down c + down b * up c) ≡ down (b *ℤ c) + (up b * up c + down b * down c) = omega (arith, ints) in
    let f : up (a *ℤ c) + (up a * down c + down a * up c) ≡ down (a *ℤ c) + (up a * up c + down a * down c) = omega (arith, ints) in
    omega (arith, ints, ap (λ n. up a * n) e, ap (λ n. down a * n) e, ap (λ n. up b * n) f, ap (λ n. down b * n) f)
