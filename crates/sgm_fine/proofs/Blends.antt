-- Sums over numbers between those of two windows follow from the sums over both.
use Rattle.std.proofs.Common.{◌≡◌, ℕ, ◌-◌, ℤ, pos, ◌+ℤ◌, ◌*ℤ◌, ap, ap₂, ◌∙◌}
use Rattle.std.proofs.Math.IntN.{*ℤ_comm}
use Rattle.sgm_fine.specs.Scores.{blended}
use Rattle.sgm_fine.specs.Windows.{over, products}
use Rattle.sgm_fine.proofs.Products.{times_sum, times_swap}
use Rattle.sgm_fine.proofs.Totals.{sum_linear, sum_same}

pub over_blended : (h s : ℕ → ℤ) (n : ℕ) → over (blended h s n) ≡ (pos (8 - n) *ℤ over h) +ℤ (pos n *ℤ over s)
over_blended h s n = sum_linear 25 (pos (8 - n)) (pos n) h s

pub products_blended : (l h s : ℕ → ℤ) (n : ℕ) → products l (blended h s n) ≡ (pos (8 - n) *ℤ products l h) +ℤ (pos n *ℤ products l s)
products_blended l h s n =
    sum_same 25 (λ k. l k *ℤ blended h s n k) (λ k. (pos (8 - n) *ℤ (l k *ℤ h k)) +ℤ (pos n *ℤ (l k *ℤ s k)))
    (λ k lt. times_sum (l k) (pos (8 - n) *ℤ h k) (pos n *ℤ s k) ∙ ap₂ (λ (y z : ℤ). y +ℤ z) (times_swap (l k) (pos (8 - n)) (h k)) (times_swap (l k) (pos n) (s k)))
    ∙ sum_linear 25 (pos (8 - n)) (pos n) (λ k. l k *ℤ h k) (λ k. l k *ℤ s k)

pub products_turned : (f g : ℕ → ℤ) → products f g ≡ products g f
products_turned f g = sum_same 25 (λ k. f k *ℤ g k) (λ k. g k *ℤ f k) (λ k lt. *ℤ_comm (f k) (g k))

pub squares_blended : (h s : ℕ → ℤ) (n : ℕ) → products (blended h s n) (blended h s n)
    ≡ (pos (8 - n) *ℤ ((pos (8 - n) *ℤ products h h) +ℤ (pos n *ℤ products h s))) +ℤ (pos n *ℤ ((pos (8 - n) *ℤ products h s) +ℤ (pos n *ℤ products s s)))
squares_blended h s n =
    let x = blended h s n in
    products_blended x h s n
    ∙ ap₂ (λ (y z : ℤ). (pos (8 - n) *ℤ y) +ℤ (pos n *ℤ z)) (products_turned x h ∙ products_blended h h s n)
    (products_turned x s ∙ products_blended s h s n ∙ ap (λ (y : ℤ). (pos (8 - n) *ℤ y) +ℤ (pos n *ℤ products s s)) (products_turned s h))
