-- What the code computes of a window's sums.
use Rattle.std.proofs.Common.{◌≡◌, ℕ, ◌+◌, ◌-◌, ◌*◌, ◌<◌, ◌≤◌, ℤ, pos, ◌+ℤ◌, ◌-ℤ◌, ◌*ℤ◌, FitsSigned, to_z, of_z, w32, w64, arith, ap, ap₂, sym, ◌∙◌}
use Rattle.std.proofs.Math.IntN.{*ℤ_comm}
use Rattle.std.proofs.lemmas.Int.{ints}
use Rattle.sgm_base.specs.Ranges.{IsFromTo, Within}
use Rattle.sgm_fine.proofs.Products.{times_difference}
use Rattle.sgm_fine.proofs.Totals.{product_from_to, product_within, sum_from_to}
use Rattle.sgm_fine.specs.Windows.{over}

-- what the code computes as a * b, of numbers that are p and q
pub wide_product : (m n : ℕ) (p q a b : ℤ) → m * n < 9223372036854775808 → a ≡ p → b ≡ q → Within m p → Within n q → to_z w64 (of_z w64 (a *ℤ b)) ≡ p *ℤ q
wide_product m n p q a b few ea eb h k =
    let w = product_within m n p q h k in
    ap₂ (λ (y z : ℤ). to_z w64 (of_z w64 (y *ℤ z))) ea eb ∙ omega (arith, ints, few, w.0, w.1)

-- so many eighths of the way from one number to another
pub stepped : (n : ℕ) (h s : ℤ) → n ≤ 8 → (pos 8 *ℤ h) +ℤ (pos n *ℤ (s -ℤ h)) ≡ (pos (8 - n) *ℤ h) +ℤ (pos n *ℤ s)
stepped n h s few =
    let g : pos 8 -ℤ pos n ≡ pos (8 - n) = omega (arith, ints, few) in
    let rest : (pos 8 *ℤ h) -ℤ (pos n *ℤ h) ≡ pos (8 - n) *ℤ h =
    ap₂ (λ (y z : ℤ). y -ℤ z) (*ℤ_comm (pos 8) h) (*ℤ_comm (pos n) h) ∙ sym (times_difference h (pos 8) (pos n)) ∙ ap (λ z. h *ℤ z) g ∙ *ℤ_comm h (pos (8 - n)) in
    omega (arith, ints, times_difference (pos n) s h, rest)

-- as many parts of two numbers as make eight of one
pub eighths_within : (a n m : ℕ) (h s : ℤ) → a + n ≡ 8 → Within m h → Within m s → Within (8 * m) ((pos a *ℤ h) +ℤ (pos n *ℤ s))
eighths_within a n m h s e p q =
    let some : Within a (pos a) = (omega (arith, ints), omega (arith, ints)) in
    let others : Within n (pos n) = (omega (arith, ints), omega (arith, ints)) in
    let whole : (a * m) + (n * m) ≡ 8 * m = omega (arith, ap (λ k. k * m) e) in
    let x = product_within a m (pos a) h some p in
    let y = product_within n m (pos n) s others q in
    (omega (arith, ints, whole, x.0, y.0), omega (arith, ints, whole, x.1, y.1))

-- a covariance, as the code computes it of y and z
pub covariance_fits : (t a b y z : ℤ) → Within 2199023255552 t → Within 1048576 a → Within 1048576 b → y ≡ pos 25 *ℤ t → z ≡ a *ℤ b → FitsSigned w64 (y -ℤ z)
covariance_fits t a b y z h p q ey ez =
    let w = product_within 1048576 1048576 a b p q in
    omega (arith, ints, ey, ez, h.0, h.1, w.0, w.1)

pub covariance_kept : (t a b y z : ℤ) → Within 2199023255552 t → Within 1048576 a → Within 1048576 b → y ≡ pos 25 *ℤ t → z ≡ a *ℤ b
    → to_z w64 (of_z w64 (y -ℤ z)) ≡ (pos 25 *ℤ t) -ℤ (a *ℤ b)
covariance_kept t a b y z h p q ey ez =
    let w = product_within 1048576 1048576 a b p q in
    omega (arith, ints, ey, ez, h.0, h.1, w.0, w.1)

pub covariance_small : (t a b z : ℤ) → Within 2199023255552 t → Within 1048576 a → Within 1048576 b → z ≡ (pos 25 *ℤ t) -ℤ (a *ℤ b) → Within 70368744177664 z
covariance_small t a b z h p q e =
    let w = product_within 1048576 1048576 a b p q in
    (omega (arith, ints, e, h.0, h.1, w.0, w.1), omega (arith, ints, e, h.0, h.1, w.0, w.1))

-- numbers from 0 to 4095 lie within 4096
pub near_zero : (f : ℕ → ℤ) → ((k : ℕ) → k < 25 → IsFromTo (pos 0) (pos 4095) (f k)) → (k : ℕ) → k < 25 → Within 4096 (f k)
near_zero f h k lt =
    let t = h k lt in
    (omega (arith, ints, t.0), omega (arith, ints, t.1))

-- the code's sum of numbers from 0 to m
pub total_from_to : (m : ℕ) (f : ℕ → ℤ) (r : ℤ) → 25 * m < 2147483648 → ((k : ℕ) → k < 25 → IsFromTo (pos 0) (pos m) (f k)) → r ≡ over f
    → IsFromTo (pos 0) (pos (25 * m)) (to_z w32 (of_z w32 r))
total_from_to m f r few h e =
    let s = sum_from_to 25 m f h in
    (omega (arith, ints, few, e, s.0, s.1), omega (arith, ints, few, e, s.0, s.1))

pub of_eight : (n : ℕ) → n ≤ 8 → (8 - n) + n ≡ 8
of_eight n few = omega (arith, few)

-- as many parts of two numbers from 0 to m as make eight of one
pub eighths_from_to : (a n m : ℕ) (h s : ℤ) → a + n ≡ 8 → IsFromTo (pos 0) (pos m) h → IsFromTo (pos 0) (pos m) s → IsFromTo (pos 0) (pos (8 * m)) ((pos a *ℤ h) +ℤ (pos n *ℤ s))
eighths_from_to a n m h s e p q =
    let some : IsFromTo (pos 0) (pos a) (pos a) = (omega (arith, ints), omega (arith, ints)) in
    let others : IsFromTo (pos 0) (pos n) (pos n) = (omega (arith, ints), omega (arith, ints)) in
    let whole : (a * m) + (n * m) ≡ 8 * m = omega (arith, ap (λ k. k * m) e) in
    let x = product_from_to a m (pos a) h some p in
    let y = product_from_to n m (pos n) s others q in
    (omega (arith, ints, x.0, y.0), omega (arith, ints, whole, x.1, y.1))

-- a number of 32 bits that is cast to 64
pub cast : (r z : ℤ) → FitsSigned w32 z → r ≡ to_z w32 (of_z w32 z) → to_z w64 (of_z w64 r) ≡ z
cast r z f e = omega (arith, ints, f, e)

pub narrow : (z : ℤ) → FitsSigned w32 z → Within 2147483648 z
narrow z f = (omega (arith, ints, f), omega (arith, ints, f))

-- parts of two numbers of which each is another one
pub eighths_same : (a n : ℕ) (h s y z : ℤ) → h ≡ y → s ≡ z → (pos a *ℤ h) +ℤ (pos n *ℤ s) ≡ (pos a *ℤ y) +ℤ (pos n *ℤ z)
eighths_same a n h s y z eh es = ap₂ (λ (t u : ℤ). (pos a *ℤ t) +ℤ (pos n *ℤ u)) eh es
