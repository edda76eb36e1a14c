-- How covariances follow sums, factors and constants.
use Rattle.std.proofs.Common.{◌≡◌, ℕ, ◌<◌, refl, ℤ, pos, ◌+ℤ◌, ◌-ℤ◌, ◌*ℤ◌, arith, ap, ap₂, sym, ◌∙◌}
use Rattle.std.proofs.Math.IntN.{*ℤ_comm}
use Rattle.std.proofs.lemmas.Int.{ints}
use Rattle.sgm_fine.specs.Scores.{covariance}
use Rattle.sgm_fine.specs.Windows.{over, products, sum_below}
use Rattle.sgm_fine.proofs.Blends.{products_turned}
use Rattle.sgm_fine.proofs.Products.{times_difference, times_sum, times_swap}
use Rattle.sgm_fine.proofs.Totals.{products_same, sum_linear, sum_same}

pub covariance_turned : (f g : ℕ → ℤ) → covariance f g ≡ covariance g f
covariance_turned f g = ap₂ (λ (y z : ℤ). (pos 25 *ℤ y) -ℤ z) (products_turned f g) (*ℤ_comm (over f) (over g))

-- numbers that are the same everywhere have the same covariances
pub covariance_same : (f g h : ℕ → ℤ) → ((k : ℕ) → k < 25 → g k ≡ h k) → covariance f g ≡ covariance f h
covariance_same f g h e =
    ap₂ (λ (y z : ℤ). (pos 25 *ℤ y) -ℤ (over f *ℤ z)) (products_same f g f h (λ k lt. refl) e) (sum_same 25 g h e)

-- a product with a sum of two numbers, each so many times
spread : (n a b p q : ℤ) → n *ℤ ((a *ℤ p) +ℤ (b *ℤ q)) ≡ (a *ℤ (n *ℤ p)) +ℤ (b *ℤ (n *ℤ q))
spread n a b p q = times_sum n (a *ℤ p) (b *ℤ q) ∙ ap₂ (λ (y z : ℤ). y +ℤ z) (times_swap n a p) (times_swap n b q)

crossed : (p q r s : ℤ) → (p +ℤ q) -ℤ (r +ℤ s) ≡ (p -ℤ r) +ℤ (q -ℤ s)
crossed p q r s = omega (arith, ints)

drawn : (n a b p q f g h : ℤ) → (n *ℤ ((a *ℤ p) +ℤ (b *ℤ q))) -ℤ (f *ℤ ((a *ℤ g) +ℤ (b *ℤ h)))
    ≡ (a *ℤ ((n *ℤ p) -ℤ (f *ℤ g))) +ℤ (b *ℤ ((n *ℤ q) -ℤ (f *ℤ h)))
drawn n a b p q f g h =
    ap₂ (λ (y z : ℤ). y -ℤ z) (spread n a b p q) (spread f a b g h)
    ∙ crossed (a *ℤ (n *ℤ p)) (b *ℤ (n *ℤ q)) (a *ℤ (f *ℤ g)) (b *ℤ (f *ℤ h))
    ∙ ap₂ (λ (y z : ℤ). y +ℤ z) (sym (times_difference a (n *ℤ p) (f *ℤ g))) (sym (times_difference b (n *ℤ q) (f *ℤ h)))

products_linear : (l : ℕ → ℤ) (a b : ℤ) (g h : ℕ → ℤ) → products l (λ k. (a *ℤ g k) +ℤ (b *ℤ h k)) ≡ (a *ℤ products l g) +ℤ (b *ℤ products l h)
products_linear l a b g h =
    sum_same 25 (λ k. l k *ℤ ((a *ℤ g k) +ℤ (b *ℤ h k))) (λ k. (a *ℤ (l k *ℤ g k)) +ℤ (b *ℤ (l k *ℤ h k))) (λ k lt. spread (l k) a b (g k) (h k))
    ∙ sum_linear 25 a b (λ k. l k *ℤ g k) (λ k. l k *ℤ h k)

-- the covariance with a sum of two, each so many times
pub covariance_linear : (f : ℕ → ℤ) (a b : ℤ) (g h : ℕ → ℤ) → covariance f (λ k. (a *ℤ g k) +ℤ (b *ℤ h k)) ≡ (a *ℤ covariance f g) +ℤ (b *ℤ covariance f h)
covariance_linear f a b g h =
    ap₂ (λ (y z : ℤ). (pos 25 *ℤ y) -ℤ (over f *ℤ z)) (products_linear f a b g h) (sum_linear 25 a b g h)
    ∙ drawn (pos 25) a b (products f g) (products f h) (over f) (over g) (over h)

nothing_more : (a b : ℤ) → a +ℤ (pos 0 *ℤ b) ≡ a
nothing_more a b = omega (arith, ints)

pub covariance_stretched : (c : ℤ) (f g : ℕ → ℤ) → covariance f (λ k. c *ℤ g k) ≡ c *ℤ covariance f g
covariance_stretched c f g =
    covariance_same f (λ k. c *ℤ g k) (λ k. (c *ℤ g k) +ℤ (pos 0 *ℤ g k)) (λ k lt. sym (nothing_more (c *ℤ g k) (g k)))
    ∙ covariance_linear f c (pos 0) g g
    ∙ nothing_more (c *ℤ covariance f g) (covariance f g)

-- a number that is the same at all places
ones : ℕ → ℤ
ones k = pos 1

over_ones : over ones ≡ pos 25
unfolding sum_below ones
over_ones = refl

times_one : (f : ℕ → ℤ) → products f ones ≡ over f
unfolding ones
times_one f = sum_same 25 (λ k. f k *ℤ ones k) f (λ k lt. omega (arith, ints))

alike : (z : ℤ) → (pos 25 *ℤ z) -ℤ (z *ℤ pos 25) ≡ pos 0
alike z = omega (arith, ints)

covariance_ones : (f : ℕ → ℤ) → covariance f ones ≡ pos 0
covariance_ones f =
    ap₂ (λ (y z : ℤ). (pos 25 *ℤ y) -ℤ (over f *ℤ z)) (times_one f) over_ones ∙ alike (over f)

added : (a c : ℤ) → a +ℤ c ≡ (pos 1 *ℤ a) +ℤ (c *ℤ pos 1)
added a c = omega (arith, ints)

kept_one : (a c : ℤ) → (pos 1 *ℤ a) +ℤ (c *ℤ pos 0) ≡ a
kept_one a c = omega (arith, ints)

shifted_right : (c : ℤ) (f g : ℕ → ℤ) → covariance g (λ k. f k +ℤ c) ≡ covariance g f
unfolding ones
shifted_right c f g =
    covariance_same g (λ k. f k +ℤ c) (λ k. (pos 1 *ℤ f k) +ℤ (c *ℤ ones k)) (λ k lt. added (f k) c)
    ∙ covariance_linear g (pos 1) c f ones
    ∙ ap (λ (z : ℤ). (pos 1 *ℤ covariance g f) +ℤ (c *ℤ z)) (covariance_ones g)
    ∙ kept_one (covariance g f) c

pub covariance_shifted : (c : ℤ) (f g : ℕ → ℤ) → covariance (λ k. f k +ℤ c) g ≡ covariance f g
covariance_shifted c f g = covariance_turned (λ k. f k +ℤ c) g ∙ shifted_right c f g ∙ covariance_turned g f
