-- Sums over places, and how large they and the covariances of small numbers can be.
use Rattle.std.proofs.Common.{◌≡◌, ℕ, ◌+◌, ◌*◌, ◌<◌, ◌≤◌, zero, suc, refl, List, ℤ, pos, negsuc, ◌+ℤ◌, ◌-ℤ◌, ◌*ℤ◌, unsigned_abs, to_z, of_z, w32, arith, ap, ap₂, subst, sym, ◌∙◌}
use Rattle.std.proofs.lemmas.Int.{ints, unsigned_abs-mul}
use Rattle.std.proofs.lemmas.Nat.{mul-le}
use Rattle.std.proofs.Math.IntN.{*ℤ_comm, suc_ℤ-*ℤ}
use Rattle.sgm_fine.proofs.Products.{times_apart, times_more, times_sum}
use Rattle.sgm_base.specs.Ranges.{IsFromTo, Within}
use Rattle.sgm_fine.specs.Windows.{IsPadded, number, over, products, sum_below}

pub sum_none : (f : ℕ → ℤ) → sum_below 0 f ≡ pos 0
unfolding sum_below
sum_none f = refl

pub sum_more : (n : ℕ) (f : ℕ → ℤ) → sum_below (n + 1) f ≡ sum_below n f +ℤ f n
unfolding sum_below
sum_more n f = let next : n + 1 ≡ suc n = omega arith in ap (λ m. sum_below m f) next

-- the sum of the products of two windows' numbers, over the first n places
pub products_below : ℕ → List ℤ → List ℤ → ℤ
products_below n a b = sum_below n (λ k. number a k *ℤ number b k)

pub products_none : (a b : List ℤ) → products_below 0 a b ≡ pos 0
unfolding products_below sum_below
products_none a b = refl

pub products_more : (n : ℕ) (a b : List ℤ) → products_below (n + 1) a b ≡ products_below n a b +ℤ (number a n *ℤ number b n)
unfolding products_below
products_more n a b = sum_more n (λ k. number a k *ℤ number b k)

-- lanes of 0 add nothing
pub sum_padded : (m n : ℕ) (f : ℕ → ℤ) → ((k : ℕ) → n ≤ k → f k ≡ pos 0) → sum_below (m + n) f ≡ sum_below n f
sum_padded zero n f h = let none : 0 + n ≡ n = omega arith in ap (λ k. sum_below k f) none
sum_padded (suc m) n f h =
    let next : suc m + n ≡ (m + n) + 1 = omega arith in
    let before = sum_padded m n f h in
    ap (λ k. sum_below k f) next ∙ sum_more (m + n) f ∙ omega (arith, ints, before, h (m + n) (omega arith))

no_times : (y z : ℤ) → y ≡ pos 0 → y *ℤ z ≡ pos 0
no_times y z e = ap (λ (x : ℤ). x *ℤ z) e ∙ omega (arith, ints)

pub products_padded : (a b : List ℤ) → IsPadded a → products_below 32 a b ≡ products (number a) (number b)
unfolding products_below
products_padded a b h = sum_padded 7 25 (λ k. number a k *ℤ number b k) (λ k le. no_times (number a k) (number b k) (h k le))

pub over_padded : (a : List ℤ) → IsPadded a → sum_below 32 (number a) ≡ over (number a)
over_padded a h = sum_padded 7 25 (number a) h

pub sum_same : (n : ℕ) (f g : ℕ → ℤ) → ((k : ℕ) → k < n → f k ≡ g k) → sum_below n f ≡ sum_below n g
unfolding sum_below
sum_same zero f g h = refl
sum_same (suc n) f g h = ap₂ (λ a b. a +ℤ b) (sum_same n f g (λ k lt. h k (omega arith))) (h n (omega arith))

pub sum_within : (n m : ℕ) (f : ℕ → ℤ) → ((k : ℕ) → k < n → Within m (f k)) → Within (n * m) (sum_below n f)
unfolding sum_below
sum_within zero m f h = (omega (arith, ints), omega (arith, ints))
sum_within (suc n) m f h =
    let s = sum_within n m f (λ k lt. h k (omega arith)) in
    let t = h n (omega arith) in
    (omega (arith, ints, s.0, t.0), omega (arith, ints, s.1, t.1))

suc_times : (n : ℕ) (z : ℤ) → pos (suc n) *ℤ z ≡ (pos n *ℤ z) +ℤ z
suc_times n z = suc_ℤ-*ℤ (pos n) z

gathered : (p q r s : ℤ) → (p +ℤ q) +ℤ (r +ℤ s) ≡ (p +ℤ r) +ℤ (q +ℤ s)
gathered p q r s = omega (arith, ints)

-- the sum of the products of distances, with one more
apart_more : (n : ℕ) (a b p q f g m d : ℤ) → d ≡ ((m +ℤ (pos n *ℤ (a *ℤ b))) -ℤ (b *ℤ f)) -ℤ (a *ℤ g)
    → d +ℤ ((p -ℤ a) *ℤ (q -ℤ b)) ≡ (((m +ℤ (p *ℤ q)) +ℤ (pos (suc n) *ℤ (a *ℤ b))) -ℤ (b *ℤ (f +ℤ p))) -ℤ (a *ℤ (g +ℤ q))
apart_more n a b p q f g m d h =
    let ab = a *ℤ b in
    omega (arith, ints, h, times_apart p q a b, times_sum b f p, times_sum a g q, suc_times n (a *ℤ b))

-- the covariance, with one place more
covary_step : (n : ℕ) (p q f g m d : ℤ) → d ≡ ((m +ℤ (pos n *ℤ (p *ℤ q))) -ℤ (q *ℤ f)) -ℤ (p *ℤ g)
    → (pos (suc n) *ℤ (m +ℤ (p *ℤ q))) -ℤ ((f +ℤ p) *ℤ (g +ℤ q)) ≡ ((pos n *ℤ m) -ℤ (f *ℤ g)) +ℤ d
covary_step n p q f g m d h =
    omega (arith, ints, h, times_more f g p q, suc_times n (m +ℤ (p *ℤ q)), times_sum (pos n) m (p *ℤ q), *ℤ_comm q f)

-- sums of two sums, each so many times
pub sum_linear : (n : ℕ) (a b : ℤ) (f g : ℕ → ℤ) → sum_below n (λ k. (a *ℤ f k) +ℤ (b *ℤ g k)) ≡ (a *ℤ sum_below n f) +ℤ (b *ℤ sum_below n g)
unfolding sum_below
sum_linear zero a b f g = omega (arith, ints)
sum_linear (suc n) a b f g =
    let s = sum_linear n a b f g in
    let first = times_sum a (sum_below n f) (f n) in
    let second = times_sum b (sum_below n g) (g n) in
    ap (λ (z : ℤ). z +ℤ ((a *ℤ f n) +ℤ (b *ℤ g n))) s ∙ gathered (a *ℤ sum_below n f) (b *ℤ sum_below n g) (a *ℤ f n) (b *ℤ g n)
    ∙ ap₂ (λ y z. y +ℤ z) (sym first) (sym second)

-- the products of two functions' distances from a and from b, over the first n places
pub apart : (n : ℕ) (a b : ℤ) (f g : ℕ → ℤ) → sum_below n (λ k. (f k -ℤ a) *ℤ (g k -ℤ b))
    ≡ ((sum_below n (λ k. f k *ℤ g k) +ℤ (pos n *ℤ (a *ℤ b))) -ℤ (b *ℤ sum_below n f)) -ℤ (a *ℤ sum_below n g)
unfolding sum_below
apart zero a b f g = omega (arith, ints)
apart (suc n) a b f g =
    apart_more n a b (f n) (g n) (sum_below n f) (sum_below n g) (sum_below n (λ k. f k *ℤ g k)) (sum_below n (λ k. (f k -ℤ a) *ℤ (g k -ℤ b))) (apart n a b f g)

-- the covariance of the first n places
abbrev pub covaries : ℕ → (ℕ → ℤ) → (ℕ → ℤ) → ℤ
covaries n f g = (pos n *ℤ sum_below n (λ k. f k *ℤ g k)) -ℤ (sum_below n f *ℤ sum_below n g)

-- one place more adds the products of the distances from it
pub covaries_more : (n : ℕ) (f g : ℕ → ℤ) → covaries (suc n) f g ≡ covaries n f g +ℤ sum_below n (λ k. (f k -ℤ f n) *ℤ (g k -ℤ g n))
unfolding sum_below
covaries_more n f g =
    covary_step n (f n) (g n) (sum_below n f) (sum_below n g) (sum_below n (λ k. f k *ℤ g k)) (sum_below n (λ k. (f k -ℤ f n) *ℤ (g k -ℤ g n))) (apart n (f n) (g n) f g)

-- a product of two small numbers is small
pub product_within : (m n : ℕ) (p q : ℤ) → Within m p → Within n q → Within (m * n) (p *ℤ q)
product_within m n p q h k =
    let low : unsigned_abs (p *ℤ q) ≤ m * n =
    subst (λ x. x ≤ m * n) (sym (unsigned_abs-mul p q)) (mul-le (unsigned_abs p) (unsigned_abs q) m n (omega (arith, ints, h.0, h.1)) (omega (arith, ints, k.0, k.1))) in
    (omega (arith, ints, low), omega (arith, ints, low))

-- the same of what the code computes as a * b
pub product_kept : (m n : ℕ) (p q a b : ℤ) → m * n < 2147483648 → a ≡ p → b ≡ q → Within m p → Within n q → to_z w32 (of_z w32 (a *ℤ b)) ≡ p *ℤ q
product_kept m n p q a b few ea eb h k =
    let w = product_within m n p q h k in
    ap₂ (λ (y z : ℤ). to_z w32 (of_z w32 (y *ℤ z))) ea eb ∙ omega (arith, ints, few, w.0, w.1)

-- numbers from 0 on that lie in one range lie no further apart
distance_within : (x : ℕ) (p q : ℤ) → IsFromTo (pos 0) (pos x) p → IsFromTo (pos 0) (pos x) q → Within x (p -ℤ q)
distance_within x p q h k = (omega (arith, ints, h.0, h.1, k.0, k.1), omega (arith, ints, h.0, h.1, k.0, k.1))

pub sum_of_two : (m n : ℕ) (p q r : ℤ) → r ≡ p +ℤ q → Within m p → Within n q → Within (m + n) r
sum_of_two m n p q r e h k = (omega (arith, ints, e, h.0, k.0), omega (arith, ints, e, h.1, k.1))

-- the pairs of n places
unfoldable pub pairs : ℕ → ℕ
pairs zero = 0
pairs (suc n) = pairs n + n

-- the covariance of numbers from 0 to x and of numbers from 0 to y is at most x y for each pair of places
pub covaries_within : (n x y : ℕ) (f g : ℕ → ℤ) → ((k : ℕ) → k < n → IsFromTo (pos 0) (pos x) (f k)) → ((k : ℕ) → k < n → IsFromTo (pos 0) (pos y) (g k))
    → Within (pairs n * (x * y)) (covaries n f g)
unfolding sum_below pairs
covaries_within zero x y f g hf hg = (omega (arith, ints), omega (arith, ints))
covaries_within (suc n) x y f g hf hg =
    let s = covaries_within n x y f g (λ k lt. hf k (omega arith)) (λ k lt. hg k (omega arith)) in
    let t = sum_within n (x * y) (λ k. (f k -ℤ f n) *ℤ (g k -ℤ g n))
    (λ k lt. product_within x y (f k -ℤ f n) (g k -ℤ g n) (distance_within x (f k) (f n) (hf k (omega arith)) (hf n (omega arith)))
    (distance_within y (g k) (g n) (hg k (omega arith)) (hg n (omega arith)))) in
    let next : pairs (suc n) ≡ pairs n + n = refl in
    let wider : pairs n * (x * y) + n * (x * y) ≡ pairs (suc n) * (x * y) = omega (arith, ap (λ m. m * (x * y)) next) in
    subst (λ m. Within m (covaries (suc n) f g)) wider
    (sum_of_two (pairs n * (x * y)) (n * (x * y)) (covaries n f g) (sum_below n (λ k. (f k -ℤ f n) *ℤ (g k -ℤ g n))) (covaries (suc n) f g) (covaries_more n f g) s t)

-- numbers from 0 on: their products and their sums
pub product_from_to : (m n : ℕ) (p q : ℤ) → IsFromTo (pos 0) (pos m) p → IsFromTo (pos 0) (pos n) q → IsFromTo (pos 0) (pos (m * n)) (p *ℤ q)
product_from_to m n (pos a) (pos b) h k =
    let most : a * b ≤ m * n = mul-le a b m n (omega (arith, ints, h.1)) (omega (arith, ints, k.1)) in
    (omega (arith, ints), omega (arith, ints, most))
product_from_to m n (pos a) (negsuc b) h k = absurd (omega (arith, ints, k.0))
product_from_to m n (negsuc a) q h k = absurd (omega (arith, ints, h.0))

pub sum_from_to : (n m : ℕ) (f : ℕ → ℤ) → ((k : ℕ) → k < n → IsFromTo (pos 0) (pos m) (f k)) → IsFromTo (pos 0) (pos (n * m)) (sum_below n f)
unfolding sum_below
sum_from_to zero m f h = (omega (arith, ints), omega (arith, ints))
sum_from_to (suc n) m f h =
    let s = sum_from_to n m f (λ k lt. h k (omega arith)) in
    let t = h n (omega arith) in
    (omega (arith, ints, s.0, t.0), omega (arith, ints, s.1, t.1))

pub square_from_to : (m : ℕ) (p : ℤ) → Within m p → IsFromTo (pos 0) (pos (m * m)) (p *ℤ p)
square_from_to m (pos a) h =
    let most : a * a ≤ m * m = mul-le a a m m (omega (arith, ints, h.1)) (omega (arith, ints, h.1)) in
    (omega (arith, ints), omega (arith, ints, most))
square_from_to m (negsuc a) h =
    let least : suc a ≤ m = omega (arith, ints, h.0) in
    let most : suc a * suc a ≤ m * m = mul-le (suc a) (suc a) m m least least in
    (omega (arith, ints), omega (arith, ints, most))

pub products_same : (f g p q : ℕ → ℤ) → ((k : ℕ) → k < 25 → f k ≡ p k) → ((k : ℕ) → k < 25 → g k ≡ q k) → products f g ≡ products p q
products_same f g p q hf hg = sum_same 25 (λ k. f k *ℤ g k) (λ k. p k *ℤ q k) (λ k lt. ap₂ (λ (y z : ℤ). y *ℤ z) (hf k lt) (hg k lt))
