-- Walks from the numbers of one place to those of another one, an eighth of the way at a time.
use Rattle.std.proofs.Common.{◌≡◌, ℕ, ◌+◌, ◌-◌, ◌*◌, ◌<◌, ◌≤◌, ℤ, pos, ◌+ℤ◌, ◌-ℤ◌, ◌*ℤ◌, negsuc, int_lt, unsigned_abs, if◌then◌else◌, Bool, true, false, FitsSigned, to_z, of_z, w64, arith, ap, ap₂, subst, sym, ◌∙◌}
use Rattle.std.proofs.Math.IntN.{*ℤ_comm}
use Rattle.std.proofs.lemmas.Int.{ints}
use Rattle.sgm_base.specs.Ranges.{Within}
use Rattle.sgm_fine.specs.Scores.{HoldsPart, HoldsWalk, IsFitOf, IsPart, IsWalk, blended, covariance, distances, numbers_at}
use Rattle.sgm_fine.specs.Windows.{number}
use Rattle.sgm_fine.specs.declared.scores.Part.{Part}
use Rattle.sgm_fine.specs.declared.scores.Walk.{Walk}
use Rattle.sgm_fine.specs.declared.small.SmallWindow.{SmallWindow}
use Rattle.sgm_fine.proofs.Covariances.{covariance_linear, covariance_same, covariance_turned}
use Rattle.sgm_fine.proofs.Products.{times_difference, times_sum}
use Rattle.sgm_fine.proofs.SideSums.{eighths_within, of_eight, stepped}
use Rattle.sgm_fine.proofs.Squares.{own_of_two}
use Rattle.sgm_fine.proofs.Totals.{product_within}

-- one more of some
plus_one : (a b : ℕ) (z : ℤ) → b ≡ a + 1 → pos b *ℤ z ≡ (pos a *ℤ z) +ℤ z
plus_one a b z e =
    let more : pos b ≡ pos a +ℤ pos 1 = omega (arith, ints, e) in
    let whole = *ℤ_comm (pos b) z ∙ ap (λ (y : ℤ). z *ℤ y) more ∙ times_sum z (pos a) (pos 1) in
    omega (arith, ints, whole, *ℤ_comm z (pos a))

odd_times : (n : ℕ) (z : ℤ) → pos (2 * n + 1) *ℤ z ≡ ((pos n *ℤ z) +ℤ (pos n *ℤ z)) +ℤ z
odd_times n z =
    let parts : pos (2 * n + 1) ≡ (pos n +ℤ pos n) +ℤ pos 1 = omega (arith, ints) in
    let whole = *ℤ_comm (pos (2 * n + 1)) z ∙ ap (λ (y : ℤ). z *ℤ y) parts ∙ times_sum z (pos n +ℤ pos n) (pos 1) in
    omega (arith, ints, whole, times_sum z (pos n) (pos n), *ℤ_comm z (pos n))

-- an eighth further from one number to another
eighth_further : (n : ℕ) (x y : ℤ) → n < 8 → (pos (8 - (n + 1)) *ℤ x) +ℤ (pos (n + 1) *ℤ y) ≡ ((pos (8 - n) *ℤ x) +ℤ (pos n *ℤ y)) +ℤ (y -ℤ x)
eighth_further n x y few =
    let left = plus_one (8 - (n + 1)) (8 - n) x (omega (arith, few)) in
    omega (arith, ints, left, plus_one n (n + 1) y (omega arith))

-- numbers that are blended of two, themselves blended
twice : ℕ → ℤ → ℤ → ℤ → ℤ
twice n o x w = (pos (8 - n) *ℤ ((pos (8 - n) *ℤ o) +ℤ (pos n *ℤ x))) +ℤ (pos n *ℤ ((pos (8 - n) *ℤ x) +ℤ (pos n *ℤ w)))

twice_further : (n : ℕ) (o x w : ℤ) → n < 8
    → twice (n + 1) o x w ≡ twice n o x w +ℤ ((pos 16 *ℤ (x -ℤ o)) +ℤ (pos (2 * n + 1) *ℤ ((w -ℤ x) -ℤ (x -ℤ o))))
unfolding twice
twice_further n o x w few =
    let p = 8 - n in
    let near = (pos p *ℤ o) +ℤ (pos n *ℤ x) in
    let far = (pos p *ℤ x) +ℤ (pos n *ℤ w) in
    let a = x -ℤ o in
    let b = w -ℤ x in
    let one = ap₂ (λ (y z : ℤ). (pos (8 - (n + 1)) *ℤ y) +ℤ (pos (n + 1) *ℤ z)) (eighth_further n o x few) (eighth_further n x w few) in
    let two = eighth_further n (near +ℤ a) (far +ℤ b) few in
    omega (
      arith,
      ints,
      one,
      two,
      times_sum (pos p) near a,
      times_sum (pos n) far b,
      times_difference (pos p) x o,
      times_difference (pos n) w x,
      stepped n a b (omega (arith, few)),
      odd_times n (b -ℤ a),
    )

-- covariances of distances
one_less : (y z : ℤ) → y -ℤ z ≡ (pos 1 *ℤ y) +ℤ (negsuc 0 *ℤ z)
one_less y z = omega (arith, ints)

pub with_distances : (f h s : ℕ → ℤ) → covariance f (distances h s) ≡ covariance f s -ℤ covariance f h
with_distances f h s =
    covariance_same f (distances h s) (λ k. (pos 1 *ℤ s k) +ℤ (negsuc 0 *ℤ h k)) (λ k lt. one_less (s k) (h k)) ∙ covariance_linear f (pos 1) (negsuc 0) s h
    ∙ sym (one_less (covariance f s) (covariance f h))

pub of_distances : (h s : ℕ → ℤ) → covariance (distances h s) (distances h s) ≡ (covariance s s -ℤ covariance h s) -ℤ (covariance h s -ℤ covariance h h)
of_distances h s =
    let d = distances h s in
    with_distances d h s
    ∙ ap₂ (λ (y z : ℤ). y -ℤ z) (covariance_turned d s ∙ with_distances s h s ∙ ap (λ (z : ℤ). covariance s s -ℤ z) (covariance_turned s h))
    (covariance_turned d h ∙ with_distances h h s)

together_is : (l h s : ℕ → ℤ) (n : ℕ) → covariance l (blended h s n) ≡ (pos (8 - n) *ℤ covariance l h) +ℤ (pos n *ℤ covariance l s)
together_is l h s n = covariance_linear l (pos (8 - n)) (pos n) h s

right_is : (h s : ℕ → ℤ) (n : ℕ) → covariance (blended h s n) (blended h s n) ≡ twice n (covariance h h) (covariance h s) (covariance s s)
unfolding twice
right_is h s n = own_of_two (pos (8 - n)) (pos n) h s

pub together_further : (l h s : ℕ → ℤ) (n : ℕ) → n < 8 → covariance l (blended h s n) +ℤ covariance l (distances h s) ≡ covariance l (blended h s (n + 1))
together_further l h s n few =
    ap₂ (λ (y z : ℤ). y +ℤ z) (together_is l h s n) (with_distances l h s) ∙ sym (eighth_further n (covariance l h) (covariance l s) few) ∙ sym (together_is l h s (n + 1))

pub right_further : (h s : ℕ → ℤ) (n : ℕ) → n < 8
    → covariance (blended h s n) (blended h s n)
    +ℤ ((pos 16 *ℤ covariance h (distances h s)) +ℤ (pos (2 * n + 1) *ℤ covariance (distances h s) (distances h s)))
    ≡ covariance (blended h s (n + 1)) (blended h s (n + 1))
right_further h s n few =
    ap₂ (λ (y z : ℤ). y +ℤ z) (right_is h s n)
    (ap₂ (λ (y z : ℤ). (pos 16 *ℤ y) +ℤ (pos (2 * n + 1) *ℤ z)) (with_distances h h s) (of_distances h s))
    ∙ sym (twice_further n (covariance h h) (covariance h s) (covariance s s) few) ∙ sym (right_is h s (n + 1))

pub more_further : (a z : ℤ) (n : ℕ) → (a +ℤ (pos (2 * n + 1) *ℤ z)) +ℤ (pos 2 *ℤ z) ≡ a +ℤ (pos (2 * (n + 1) + 1) *ℤ z)
more_further a z n = omega (arith, ints, odd_times n z, odd_times (n + 1) z, plus_one n (n + 1) z (omega arith))

-- at the start
eighths_none : (x y : ℤ) → (pos (8 - 0) *ℤ x) +ℤ (pos 0 *ℤ y) ≡ pos 8 *ℤ x
eighths_none x y = omega (arith, ints)

pub together_first : (l h s : ℕ → ℤ) → covariance l (blended h s 0) ≡ pos 8 *ℤ covariance l h
together_first l h s = together_is l h s 0 ∙ eighths_none (covariance l h) (covariance l s)

pub right_first : (h s : ℕ → ℤ) → covariance (blended h s 0) (blended h s 0) ≡ pos 64 *ℤ covariance h h
unfolding twice
right_first h s = right_is h s 0 ∙ omega (arith, ints)

-- what the code computes
pub sum_kept : (a b : ℤ) → Within 36028797018963968 a → Within 36028797018963968 b → to_z w64 (of_z w64 (to_z w64 (of_z w64 a) +ℤ to_z w64 (of_z w64 b))) ≡ a +ℤ b
sum_kept a b p q = omega (arith, ints, p.0, p.1, q.0, q.1)

pub wide_kept : (z : ℤ) → Within 36028797018963968 z → to_z w64 (of_z w64 z) ≡ z
wide_kept z h = omega (arith, ints, h.0, h.1)

pub difference_kept : (a b : ℤ) → Within 70368744177664 a → Within 70368744177664 b → to_z w64 (of_z w64 (to_z w64 (of_z w64 a) -ℤ to_z w64 (of_z w64 b))) ≡ a -ℤ b
difference_kept a b p q = omega (arith, ints, p.0, p.1, q.0, q.1)

-- how distances vary by themselves, as the code computes it of the covariances w, x and o
pub distances_kept : (o x w : ℤ) → Within 70368744177664 o → Within 70368744177664 x → Within 70368744177664 w
    → to_z w64 (of_z w64 (to_z w64 (of_z w64 (to_z w64 (of_z w64 w) -ℤ to_z w64 (of_z w64 x))) -ℤ to_z w64 (of_z w64 (to_z w64 (of_z w64 x) -ℤ to_z w64 (of_z w64 o))))) ≡ (w -ℤ x) -ℤ (x -ℤ o)
distances_kept o x w ho hx hw =
    let a = difference_kept w x hw hx in
    let b = difference_kept x o hx ho in
    ap₂ (λ (y z : ℤ). to_z w64 (of_z w64 (y -ℤ z))) a b ∙ omega (arith, ints, ho.0, ho.1, hx.0, hx.1, hw.0, hw.1)

pub distances_within : (o x w : ℤ) → Within 70368744177664 o → Within 70368744177664 x → Within 70368744177664 w → Within 281474976710656 ((w -ℤ x) -ℤ (x -ℤ o))
distances_within o x w ho hx hw = (omega (arith, ints, ho.0, ho.1, hx.0, hx.1, hw.0, hw.1), omega (arith, ints, ho.0, ho.1, hx.0, hx.1, hw.0, hw.1))

-- what the first step adds, as the code computes it of y and z
pub more_kept : (a b y z : ℤ) → Within 140737488355328 a → Within 281474976710656 b → y ≡ a → z ≡ b
    → to_z w64 (of_z w64 (to_z w64 (of_z w64 (pos 16 *ℤ y)) +ℤ z)) ≡ (pos 16 *ℤ a) +ℤ b
more_kept a b y z ha hb ey ez = omega (arith, ints, ey, ez, ha.0, ha.1, hb.0, hb.1)

pub more_fits : (a b y z : ℤ) → Within 140737488355328 a → Within 281474976710656 b → y ≡ a → z ≡ b → FitsSigned w64 (to_z w64 (of_z w64 (pos 16 *ℤ y)) +ℤ z)
more_fits a b y z ha hb ey ez = omega (arith, ints, ey, ez, ha.0, ha.1, hb.0, hb.1)

pub twice_kept : (b z : ℤ) → Within 281474976710656 b → z ≡ b → to_z w64 (of_z w64 (pos 2 *ℤ z)) ≡ pos 2 *ℤ b
twice_kept b z hb ez = omega (arith, ints, ez, hb.0, hb.1)

pub twice_fits : (b z : ℤ) → Within 281474976710656 b → z ≡ b → FitsSigned w64 (pos 2 *ℤ z)
twice_fits b z hb ez = omega (arith, ints, ez, hb.0, hb.1)

pub difference_within : (o x : ℤ) → Within 70368744177664 o → Within 70368744177664 x → Within 140737488355328 (x -ℤ o)
difference_within o x ho hx = (omega (arith, ints, ho.0, ho.1, hx.0, hx.1), omega (arith, ints, ho.0, ho.1, hx.0, hx.1))

pub eight_times : (z : ℤ) → Within 70368744177664 z → to_z w64 (of_z w64 (pos 8 *ℤ to_z w64 (of_z w64 z))) ≡ pos 8 *ℤ z
eight_times z h = omega (arith, ints, h.0, h.1)

pub eight_eights_times : (z : ℤ) → Within 70368744177664 z → to_z w64 (of_z w64 (pos 64 *ℤ to_z w64 (of_z w64 z))) ≡ pos 64 *ℤ z
eight_eights_times z h = omega (arith, ints, h.0, h.1)

taken_once : (a z : ℤ) → (pos 16 *ℤ a) +ℤ z ≡ (pos 16 *ℤ a) +ℤ (pos (2 * 0 + 1) *ℤ z)
taken_once a z = omega (arith, ints)

pub more_first : (a b x z : ℤ) → a ≡ x → b ≡ z → (pos 16 *ℤ a) +ℤ b ≡ (pos 16 *ℤ x) +ℤ (pos (2 * 0 + 1) *ℤ z)
more_first a b x z ea eb = ap₂ (λ (t u : ℤ). (pos 16 *ℤ t) +ℤ u) ea eb ∙ taken_once x z

-- its ranges
same_within : (m : ℕ) (y z : ℤ) → y ≡ z → Within m z → Within m y
same_within m y z e h = subst (Within m) (sym e) h

wider : (m : ℕ) (z : ℤ) → m ≤ 36028797018963968 → Within m z → Within 36028797018963968 z
wider m z h p = (omega (arith, ints, h, p.0), omega (arith, ints, h, p.1))

twice_within : (n m : ℕ) (o x w : ℤ) → n ≤ 8 → Within m o → Within m x → Within m w → Within (8 * (8 * m)) (twice n o x w)
unfolding twice
twice_within n m o x w few ho hx hw =
    let g = 8 - n in
    eighths_within g n (8 * m) ((pos g *ℤ o) +ℤ (pos n *ℤ x)) ((pos g *ℤ x) +ℤ (pos n *ℤ w)) (of_eight n few)
    (eighths_within g n m o x (of_eight n few) ho hx) (eighths_within g n m x w (of_eight n few) hx hw)

more_within : (n : ℕ) (a b : ℤ) → n ≤ 8 → Within 140737488355328 a → Within 281474976710656 b → Within 36028797018963968 ((pos 16 *ℤ a) +ℤ (pos (2 * n + 1) *ℤ b))
more_within n a b few ha hb =
    let p = product_within 17 281474976710656 (pos (2 * n + 1)) b (omega (arith, ints, few), omega (arith, ints, few)) hb in
    (omega (arith, ints, ha.0, ha.1, p.0, p.1), omega (arith, ints, ha.0, ha.1, p.0, p.1))

double_within : (b : ℤ) → Within 281474976710656 b → Within 36028797018963968 (pos 2 *ℤ b)
double_within b h = (omega (arith, ints, h.0, h.1), omega (arith, ints, h.0, h.1))

pub walk_within : (walk : Walk) (here side : Part) (l h s : ℕ → ℤ) (n : ℕ) → n ≤ 8 → IsPart here → IsPart side → HoldsPart here l h h → HoldsPart side l h s
    → HoldsWalk walk l h s n → IsWalk walk
walk_within walk here side l h s n few near far one two is =
    let lh = same_within 70368744177664 (covariance l h) here.left (sym one.left) near.left in
    let ls = same_within 70368744177664 (covariance l s) side.left (sym two.left) far.left in
    let o = same_within 70368744177664 (covariance h h) here.own (sym one.own) near.own in
    let x = same_within 70368744177664 (covariance h s) side.cross (sym two.cross) far.cross in
    let w = same_within 70368744177664 (covariance s s) side.own (sym two.own) far.own in
    let together = eighths_within (8 - n) n 70368744177664 (covariance l h) (covariance l s) (of_eight n few) lh ls in
    let turned = same_within 140737488355328 _ _ (with_distances h h s) (difference_within (covariance h h) (covariance h s) o x) in
    let apart = same_within 281474976710656 _ _ (of_distances h s) (distances_within (covariance h h) (covariance h s) (covariance s s) o x w) in
    record {
      together = wider 562949953421312 walk.fit.together (omega arith) (same_within 562949953421312 _ _ (is.together ∙ together_is l h s n) together);
      right = wider 4503599627370496 walk.fit.right (omega arith)
          (same_within 4503599627370496 _ _ (is.right ∙ right_is h s n) (twice_within n 70368744177664 (covariance h h) (covariance h s) (covariance s s) few o x w));
      further = wider 140737488355328 walk.further (omega arith) (same_within 140737488355328 _ _ (is.further ∙ with_distances l h s) (difference_within (covariance l h) (covariance l s) lh ls));
      more = same_within 36028797018963968 _ _ is.more (more_within n (covariance h (distances h s)) (covariance (distances h s) (distances h s)) few turned apart);
      bend = same_within 36028797018963968 _ _ is.bend (double_within (covariance (distances h s) (distances h s)) apart);
    }

-- the fits at the places after and before the pixel's own
not_after : (n : ℕ) → int_lt (pos n) (pos 0) ≡ false
not_after n = grind (arith, ints)

is_after : (n : ℕ) → int_lt (negsuc n) (pos 0) ≡ true
is_after n = grind (arith, ints)

side_fit : (walk : Walk) (w : SmallWindow) (n : ℕ) (c : ℤ) (b : Bool) → int_lt c (pos 0) ≡ b → unsigned_abs c ≡ n
    → HoldsWalk walk (number w.left) (number w.here) (if b then number w.after else number w.before) n → IsFitOf walk.fit w c
side_fit walk w n c b e f is =
    let same : blended (number w.here) (if b then number w.after else number w.before) n ≡ numbers_at w c =
    ap₂ (λ t k. blended (number w.here) (if t then number w.after else number w.before) k) (sym e) (sym f) in
    record {
      together = is.together ∙ ap (covariance (number w.left)) same;
      right = is.right ∙ ap (λ g. covariance g g) same;
    }

pub fit_after : (walk : Walk) (w : SmallWindow) (n : ℕ) → HoldsWalk walk (number w.left) (number w.here) (number w.after) (n + 1) → IsFitOf walk.fit w (negsuc n)
fit_after walk w n is = side_fit walk w (n + 1) (negsuc n) true (is_after n) (omega (arith, ints)) is

pub fit_before : (walk : Walk) (w : SmallWindow) (n : ℕ) → HoldsWalk walk (number w.left) (number w.here) (number w.before) n → IsFitOf walk.fit w (pos n)
fit_before walk w n is = side_fit walk w n (pos n) false (not_after n) (omega (arith, ints)) is
