-- A covariance of numbers with themselves is not negative, and so the square of a covariance is at most the product of
-- both numbers' own.
use Rattle.std.proofs.Common.{◌≡◌, ℕ, ◌<◌, zero, suc, ℤ, pos, negsuc, ◌+ℤ◌, ◌-ℤ◌, ◌*ℤ◌, ◌≤ℤ◌, arith, ap, ap₂, subst, ◌∙◌}
use Rattle.std.proofs.Math.IntN.{*ℤ_comm}
use Rattle.std.proofs.lemmas.Int.{ints}
use Rattle.sgm_fine.specs.Scores.{covariance}
use Rattle.sgm_fine.specs.Windows.{sum_below}
use Rattle.sgm_fine.proofs.Covariances.{covariance_linear, covariance_turned}
use Rattle.sgm_fine.proofs.Products.{times_difference, times_swap}
use Rattle.sgm_fine.proofs.Totals.{covaries, covaries_more}

square_from_0 : (z : ℤ) → pos 0 ≤ℤ (z *ℤ z)
square_from_0 (pos a) = omega (arith, ints)
square_from_0 (negsuc a) = omega (arith, ints)

sum_from_0 : (n : ℕ) (f : ℕ → ℤ) → ((k : ℕ) → k < n → pos 0 ≤ℤ f k) → pos 0 ≤ℤ sum_below n f
unfolding sum_below
sum_from_0 zero f h = omega (arith, ints)
sum_from_0 (suc n) f h =
    let s = sum_from_0 n f (λ k lt. h k (omega arith)) in
    let t = h n (omega arith) in
    omega (arith, ints, s, t)

grown : (x y z : ℤ) → z ≡ x +ℤ y → pos 0 ≤ℤ x → pos 0 ≤ℤ y → pos 0 ≤ℤ z
grown x y z e h k = omega (arith, ints, e, h, k)

covaries_from_0 : (n : ℕ) (f : ℕ → ℤ) → pos 0 ≤ℤ covaries n f f
unfolding sum_below
covaries_from_0 zero f = omega (arith, ints)
covaries_from_0 (suc n) f =
    grown (covaries n f f) (sum_below n (λ k. (f k -ℤ f n) *ℤ (f k -ℤ f n))) (covaries (suc n) f f) (covaries_more n f f)
    (covaries_from_0 n f) (sum_from_0 n (λ k. (f k -ℤ f n) *ℤ (f k -ℤ f n)) (λ k lt. square_from_0 (f k -ℤ f n)))

-- numbers vary with themselves
pub own_from_0 : (f : ℕ → ℤ) → pos 0 ≤ℤ covariance f f
own_from_0 f = covaries_from_0 25 f

-- the covariance of p f + q g with itself
pub own_of_two : (p q : ℤ) (f g : ℕ → ℤ) → covariance (λ k. (p *ℤ f k) +ℤ (q *ℤ g k)) (λ k. (p *ℤ f k) +ℤ (q *ℤ g k))
    ≡ (p *ℤ ((p *ℤ covariance f f) +ℤ (q *ℤ covariance f g))) +ℤ (q *ℤ ((p *ℤ covariance f g) +ℤ (q *ℤ covariance g g)))
own_of_two p q f g =
    let x = λ (k : ℕ). (p *ℤ f k) +ℤ (q *ℤ g k) in
    covariance_linear x p q f g
    ∙ ap₂ (λ (y z : ℤ). (p *ℤ y) +ℤ (q *ℤ z)) (covariance_turned x f ∙ covariance_linear f p q f g)
    (covariance_turned x g ∙ covariance_linear g p q f g ∙ ap (λ (y : ℤ). (p *ℤ y) +ℤ (q *ℤ covariance g g)) (covariance_turned g f))

-- such numbers V, A and B: p p V + 2 p q A + q q B is never negative
OwnOfTwo : ℤ → ℤ → ℤ → Type 0
OwnOfTwo v a b = (p q : ℤ) → pos 0 ≤ℤ ((p *ℤ ((p *ℤ v) +ℤ (q *ℤ a))) +ℤ (q *ℤ ((p *ℤ a) +ℤ (q *ℤ b))))

swapped : (a b : ℤ) → (b *ℤ pos 0) -ℤ (b *ℤ a) ≡ pos 0 -ℤ (a *ℤ b)
swapped a b = omega (arith, ints)

times_turned : (a b : ℤ) → (pos 0 -ℤ a) *ℤ b ≡ pos 0 -ℤ (a *ℤ b)
times_turned a b = *ℤ_comm (pos 0 -ℤ a) b ∙ times_difference b (pos 0) a ∙ swapped a b

less : (x y : ℤ) → x +ℤ (pos 0 -ℤ y) ≡ x -ℤ y
less x y = omega (arith, ints)

nothing : (a b : ℤ) → (b *ℤ a) +ℤ (pos 0 -ℤ (a *ℤ b)) ≡ pos 0
nothing a b = omega (arith, ints)

no_more : (x y : ℤ) → x +ℤ (y *ℤ pos 0) ≡ x
no_more x y = omega (arith, ints)

-- p = B and q = -A
chosen : (v a b : ℤ) → (b *ℤ ((b *ℤ v) +ℤ ((pos 0 -ℤ a) *ℤ a))) +ℤ ((pos 0 -ℤ a) *ℤ ((b *ℤ a) +ℤ ((pos 0 -ℤ a) *ℤ b)))
    ≡ b *ℤ ((b *ℤ v) -ℤ (a *ℤ a))
chosen v a b =
    ap₂ (λ (y z : ℤ). (b *ℤ ((b *ℤ v) +ℤ y)) +ℤ ((pos 0 -ℤ a) *ℤ ((b *ℤ a) +ℤ z))) (times_turned a a) (times_turned a b)
    ∙ ap₂ (λ (y z : ℤ). (b *ℤ y) +ℤ ((pos 0 -ℤ a) *ℤ z)) (less (b *ℤ v) (a *ℤ a)) (nothing a b)
    ∙ no_more (b *ℤ ((b *ℤ v) -ℤ (a *ℤ a))) (pos 0 -ℤ a)

-- what a positive number times is not negative is not so itself
divided : (n : ℕ) (z : ℤ) → pos 0 ≤ℤ (pos (suc n) *ℤ z) → pos 0 ≤ℤ z
divided n (pos a) h = omega (arith, ints)
divided n (negsuc a) h = absurd (omega (arith, ints, h))

at_most : (x y z : ℤ) → x ≡ z → pos 0 ≤ℤ (x -ℤ y) → y ≤ℤ z
at_most x y z e h = omega (arith, ints, e, h)

as_it_is : (v x : ℤ) → pos 1 *ℤ ((pos 1 *ℤ v) +ℤ x) ≡ v +ℤ x
as_it_is v x = omega (arith, ints)

alone : (a q : ℤ) → (pos 1 *ℤ a) +ℤ (q *ℤ pos 0) ≡ a
alone a q = omega (arith, ints)

gathered : (v x : ℤ) → (v +ℤ x) +ℤ x ≡ v +ℤ (x +ℤ x)
gathered v x = omega (arith, ints)

-- p = 1 and q = -A (V + 1), where B = 0
other_chosen : (v a : ℤ) (q : ℤ) → (pos 1 *ℤ ((pos 1 *ℤ v) +ℤ (q *ℤ a))) +ℤ (q *ℤ ((pos 1 *ℤ a) +ℤ (q *ℤ pos 0)))
    ≡ v +ℤ ((q *ℤ a) +ℤ (q *ℤ a))
other_chosen v a q =
    ap₂ (λ (y z : ℤ). y +ℤ (q *ℤ z)) (as_it_is v (q *ℤ a)) (alone a q) ∙ gathered v (q *ℤ a)

-- so no square s above 0 has V - 2 (V + 1) s not negative
square_none : (v : ℕ) (s x : ℤ) → pos 0 ≤ℤ s → x ≡ pos 0 -ℤ (pos (suc v) *ℤ s) → pos 0 ≤ℤ (pos v +ℤ (x +ℤ x)) → s ≤ℤ pos 0
square_none v (pos zero) x some e h = omega (arith, ints)
square_none v (pos (suc s)) x some e h = absurd (omega (arith, ints, e, h))
square_none v (negsuc s) x some e h = absurd (omega (arith, ints, some))

steep : (v a : ℤ) → ((pos 0 -ℤ (v *ℤ a)) *ℤ a) ≡ pos 0 -ℤ (v *ℤ (a *ℤ a))
steep v a = times_turned (v *ℤ a) a ∙ ap (λ (z : ℤ). pos 0 -ℤ z) (*ℤ_comm (v *ℤ a) a ∙ times_swap a v a)

zero_times : (v : ℕ) → pos 0 ≡ pos v *ℤ pos 0
zero_times v = omega (arith, ints)

-- the square of A is at most V B
square_within : (v a b : ℤ) → pos 0 ≤ℤ v → pos 0 ≤ℤ b → OwnOfTwo v a b → (a *ℤ a) ≤ℤ (v *ℤ b)
unfolding OwnOfTwo
square_within v a (pos (suc b)) hv hb own =
    let low : pos 0 ≤ℤ (pos (suc b) *ℤ ((pos (suc b) *ℤ v) -ℤ (a *ℤ a))) = subst (λ (z : ℤ). pos 0 ≤ℤ z) (chosen v a (pos (suc b))) (own (pos (suc b)) (pos 0 -ℤ a)) in
    at_most (pos (suc b) *ℤ v) (a *ℤ a) (v *ℤ pos (suc b)) (*ℤ_comm (pos (suc b)) v) (divided b ((pos (suc b) *ℤ v) -ℤ (a *ℤ a)) low)
square_within (pos v) a (pos zero) hv hb own =
    let q = pos 0 -ℤ (pos (suc v) *ℤ a) in
    let low : pos 0 ≤ℤ (pos v +ℤ ((q *ℤ a) +ℤ (q *ℤ a))) = subst (λ (z : ℤ). pos 0 ≤ℤ z) (other_chosen (pos v) a q) (own (pos 1) q) in
    let none : (a *ℤ a) ≤ℤ pos 0 = square_none v (a *ℤ a) (q *ℤ a) (square_from_0 a) (steep (pos (suc v)) a) low in
    subst (λ (z : ℤ). (a *ℤ a) ≤ℤ z) (zero_times v) none
square_within (negsuc v) a (pos zero) hv hb own = absurd (omega (arith, ints, hv))
square_within v a (negsuc b) hv hb own = absurd (omega (arith, ints, hb))

pub covariance_within : (f g : ℕ → ℤ) → (covariance f g *ℤ covariance f g) ≤ℤ (covariance f f *ℤ covariance g g)
unfolding OwnOfTwo
covariance_within f g =
    square_within (covariance f f) (covariance f g) (covariance g g) (own_from_0 f) (own_from_0 g)
    (λ p q. subst (λ (z : ℤ). pos 0 ≤ℤ z) (own_of_two p q f g) (own_from_0 (λ k. (p *ℤ f k) +ℤ (q *ℤ g k))))
