-- What the sums of a small window tell, and those of a pixel's.
use Rattle.std.proofs.Common.{◌≡◌, ℕ, ◌-◌, ◌*◌, ◌<◌, ◌≤◌, ◌≤ℤ◌, zero, suc, refl, Bool, true, false, List, ◌++◌, ◌&&◌, ℤ, pos, negsuc, neg_ℤ, to_z, of_z, w32, ◌+ℤ◌, ◌-ℤ◌, ◌*ℤ◌, int_lt, if◌then◌else◌, unsigned_abs, arith, ap, ap₂, subst, sym, ◌∙◌}
use Rattle.std.proofs.lemmas.Int.{ints}
use Rattle.sgm_base.specs.Ranges.{IsFromTo, Within}
use Rattle.sgm_fine.specs.Finer.{ArePixelParts, best, by_itself, finer_value, left_alone, place_score, right_numbers, tells, with_left}
use Rattle.sgm_fine.specs.Samples.{Centre, HoldsSamples, half, has_all}
use Rattle.sgm_fine.specs.Scores.{HoldsParts, IsFitOf, blended, covariance, numbers_at, score}
use Rattle.sgm_fine.specs.Small.{HoldsSmall, IsSmall, small, small_left, small_right}
use Rattle.sgm_fine.specs.Windows.{number, sum_below}
use Rattle.sgm_fine.specs.declared.scores.Fit.{Fit}
use Rattle.sgm_fine.specs.declared.scores.Parts.{Parts}
use Rattle.sgm_fine.specs.declared.samples.Window.{Window}
use Rattle.sgm_fine.specs.declared.small.SmallWindow.{SmallWindow}
use Rattle.sgm_fine.proofs.Totals.{covaries, covaries_more, covaries_within, pairs, product_from_to, products_same, sum_same}

-- a square isn't negative, nor a sum of squares, nor a covariance of numbers with themselves
pub square_from : (z : ℤ) → pos 0 ≤ℤ (z *ℤ z)
square_from (pos a) = omega (arith, ints)
square_from (negsuc a) = omega (arith, ints)

pub squares_from : (n : ℕ) (a : ℤ) (f : ℕ → ℤ) → pos 0 ≤ℤ sum_below n (λ k. (f k -ℤ a) *ℤ (f k -ℤ a))
unfolding sum_below
squares_from zero a f = omega (arith, ints)
squares_from (suc n) a f = omega (arith, ints, squares_from n a f, square_from (f n -ℤ a))

pub covaries_from : (n : ℕ) (f : ℕ → ℤ) → pos 0 ≤ℤ covaries n f f
unfolding sum_below
covaries_from zero f = omega (arith, ints)
covaries_from (suc n) f = omega (arith, ints, covaries_more n f f, covaries_from n f, squares_from n (f n) f)

pairs_all : pairs 25 ≡ 300
unfolding pairs
pairs_all = refl

covaries_all : (x y most : ℕ) (f g : ℕ → ℤ) → 300 * (x * y) ≡ most → ((k : ℕ) → k < 25 → IsFromTo (pos 0) (pos x) (f k)) → ((k : ℕ) → k < 25 → IsFromTo (pos 0) (pos y) (g k))
    → Within most (covariance f g)
covaries_all x y most f g e hf hg =
    subst (λ m. Within m (covariance f g)) (ap (λ m. m * (x * y)) pairs_all ∙ e) (covaries_within 25 x y f g hf hg)

-- the side's numbers are those of the one or of the other
either_side : (b : Bool) (f g : ℕ → ℤ) (k : ℕ) → IsFromTo (pos 0) (pos 4095) (f k) → IsFromTo (pos 0) (pos 4095) (g k) → IsFromTo (pos 0) (pos 4095) ((if b then f else g) k)
either_side true f g k hf hg = hf
either_side false f g k hf hg = hg

blended_within : (h s : ℕ → ℤ) (n k : ℕ) → n ≤ 8 → IsFromTo (pos 0) (pos 4095) (h k) → IsFromTo (pos 0) (pos 4095) (s k) → IsFromTo (pos 0) (pos 32760) (blended h s n k)
blended_within h s n k few hh hs =
    let a = product_from_to (8 - n) 4095 (pos (8 - n)) (h k) (omega (arith, ints), omega (arith, ints)) hh in
    let b = product_from_to n 4095 (pos n) (s k) (omega (arith, ints), omega (arith, ints)) hs in
    (omega (arith, ints, a.0, b.0), omega (arith, ints, few, a.1, b.1))

numbers_within : (w : SmallWindow) (c : ℤ) → IsSmall w → Within 8 c → (k : ℕ) → k < 25 → IsFromTo (pos 0) (pos 32760) (numbers_at w c k)
numbers_within w c small near k lt =
    blended_within (number w.here) (if int_lt c (pos 0) then number w.after else number w.before) (unsigned_abs c) k (omega (arith, ints, near.0, near.1)) (small.here k lt)
    (either_side (int_lt c (pos 0)) (number w.after) (number w.before) k (small.after k lt) (small.before k lt))

pub together_within : (w : SmallWindow) (c : ℤ) → IsSmall w → Within 8 c → Within 2506140000 (covariance (number w.left) (numbers_at w c))
together_within w c small near = covaries_all 255 32760 2506140000 (number w.left) (numbers_at w c) refl small.left (numbers_within w c small near)

pub right_from_to : (w : SmallWindow) (c : ℤ) → IsSmall w → Within 8 c → IsFromTo (pos 0) (pos 321965280000) (covariance (numbers_at w c) (numbers_at w c))
right_from_to w c small near =
    (covaries_from 25 (numbers_at w c), (covaries_all 32760 32760 321965280000 (numbers_at w c) (numbers_at w c) refl (numbers_within w c small near) (numbers_within w c small near)).1)

pub left_from_to : (w : SmallWindow) → IsSmall w → IsFromTo (pos 0) (pos 19507500) (covariance (number w.left) (number w.left))
left_from_to w small =
    (covaries_from 25 (number w.left), (covaries_all 255 255 19507500 (number w.left) (number w.left) refl small.left small.left).1)

-- numbers that are the same at each place vary in the same way
covariance_same : (f g p q : ℕ → ℤ) → ((k : ℕ) → k < 25 → f k ≡ p k) → ((k : ℕ) → k < 25 → g k ≡ q k) → covariance f g ≡ covariance p q
covariance_same f g p q hf hg =
    ap₂ (λ (y z : ℤ). (pos 25 *ℤ y) -ℤ z) (products_same f g p q hf hg) (ap₂ (λ (y z : ℤ). y *ℤ z) (sum_same 25 f p hf) (sum_same 25 g q hg))

same_side : (b : Bool) (f g : ℕ → ℤ) (p : Centre) (k : ℕ) → f k ≡ small_right p half k → g k ≡ small_right p (neg_ℤ half) k
    → (if b then f else g) k ≡ small_right p (if b then half else neg_ℤ half) k
same_side true f g p k hf hg = hf
same_side false f g p k hf hg = hg

numbers_same : (parts : Parts) (p : Centre) (h : ArePixelParts parts p) (c : ℤ) (k : ℕ) → k < 25 → numbers_at h.window c k ≡ right_numbers p c k
numbers_same parts p h c k lt =
    ap₂ (λ (y z : ℤ). (pos (8 - unsigned_abs c) *ℤ y) +ℤ (pos (unsigned_abs c) *ℤ z)) (h.here k lt)
    (same_side (int_lt c (pos 0)) (number h.window.after) (number h.window.before) p k (h.after k lt) (h.before k lt))

pub with_left_is : (parts : Parts) (p : Centre) (h : ArePixelParts parts p) (c : ℤ) (fit : Fit) → IsFitOf fit h.window c → fit.together ≡ with_left p c
with_left_is parts p h c fit is =
    is.together ∙ covariance_same (number h.window.left) (numbers_at h.window c) (small_left p) (right_numbers p c) h.left (numbers_same parts p h c)

pub by_itself_is : (parts : Parts) (p : Centre) (h : ArePixelParts parts p) (c : ℤ) (fit : Fit) → IsFitOf fit h.window c → fit.right ≡ by_itself p c
by_itself_is parts p h c fit is =
    is.right ∙ covariance_same (numbers_at h.window c) (numbers_at h.window c) (right_numbers p c) (right_numbers p c) (numbers_same parts p h c) (numbers_same parts p h c)

pub left_alone_is : (parts : Parts) (p : Centre) (h : ArePixelParts parts p) → covariance (number h.window.left) (number h.window.left) ≡ left_alone p
left_alone_is parts p h = covariance_same (number h.window.left) (number h.window.left) (small_left p) (small_left p) h.left h.left

-- so that its score is that of the place
pub score_is : (parts : Parts) (p : Centre) (h : ArePixelParts parts p) (c : ℤ) (fit : Fit) → IsFitOf fit h.window c → score fit.together fit.right ≡ place_score p c
score_is parts p h c fit is = ap₂ score (with_left_is parts p h c fit is) (by_itself_is parts p h c fit is)

-- and both are small
pub together_small : (fit : Fit) (w : SmallWindow) (c : ℤ) → IsSmall w → Within 8 c → IsFitOf fit w c → Within 2506140000 fit.together
together_small fit w c small near is = subst (Within 2506140000) (sym is.together) (together_within w c small near)

-- the samples of a pixel's window made small
same_small : (a h b x p q r y : List ℕ) (k : ℕ) → a ≡ p → h ≡ q → b ≡ r → x ≡ y → small 4096 (a ++ h ++ b) x k ≡ small 4096 (p ++ q ++ r) y k
same_small a h b x p q r y k ea eh eb ex = λ i. small 4096 (ea i ++ eh i ++ eb i) (ex i) k

pub pixel_parts : (parts : Parts) (found : SmallWindow) (window : Window) (p : Centre) → HoldsParts parts found → HoldsSmall found window → HoldsSamples window p → ArePixelParts parts p
pixel_parts parts found window p holds made is = record {
  window = found;
  holds = holds;
  left = λ k lt. made.left k lt ∙ ap (λ xs. small 256 xs xs k) is.left;
  after = λ k lt. made.after k lt ∙ same_small _ _ _ _ _ _ _ _ k is.after is.here is.before is.after;
  here = λ k lt. made.here k lt ∙ same_small _ _ _ _ _ _ _ _ k is.after is.here is.before is.here;
  before = λ k lt. made.before k lt ∙ same_small _ _ _ _ _ _ _ _ k is.after is.here is.before is.before;
}

-- the finer value where samples lack, and where they are there
pub not_finer : (count : ℕ) (p : Centre) → has_all p ≡ false → p.value ≡ finer_value count p
unfolding finer_value
not_finer count p e = sym (ap (λ b. if b && tells p (best count p) then unsigned_abs (pos p.value +ℤ best count p) else p.value) e)

pub is_finer : (count : ℕ) (p : Centre) → has_all p ≡ true → (if tells p (best count p) then unsigned_abs (pos p.value +ℤ best count p) else p.value) ≡ finer_value count p
unfolding finer_value
is_finer count p e = sym (ap (λ b. if b && tells p (best count p) then unsigned_abs (pos p.value +ℤ best count p) else p.value) e)

-- the fit of a place that the code holds in 32 bits
pub fit_kept : (fit : Fit) (w : SmallWindow) (c : ℤ) → Within 8 c → IsFitOf fit w (to_z w32 (of_z w32 c)) → IsFitOf fit w c
fit_kept fit w c h is = let same : to_z w32 (of_z w32 c) ≡ c = omega (arith, ints, h.0, h.1) in subst (IsFitOf fit w) same is
