-- That axes which are nearly those of a rotation keep lengths.
use Rattle.std.proofs.Common.{◌≡◌, zero, suc, ◌^◌, ◌*◌, true, [], ◌∷◌, ℤ, pos, negsuc, ◌+ℤ◌, ◌-ℤ◌, ◌*ℤ◌, ◌≤ℤ◌, refl, sym, ap, ◌∙◌, arith, IsTrue, subst}
use Rattle.std.proofs.lemmas.Bool.{and_parts}
use Rattle.std.proofs.lemmas.Int.{ints, by_lt_z}
use Rattle.sgm_base.specs.Ranges.{Within}
use Rattle.sgm_base.specs.declared.point.Point.{Point}
use Rattle.sgm_height.specs.declared.pose.Axes.{Axes}
use Rattle.sgm_height.specs.Laws.{squared, turned}
use Rattle.sgm_height.specs.Pose.{is_small, is_nearly_rotation}
use Rattle.sgm_height.proofs.Forms.{axis, squares, form, form_of_none, square, skew, columns_as_rows, stretched, weighed}
use Rattle.sgm_height.proofs.Polynomials.{Term, whole, at, ◌⊕◌, ◌⊖◌, ◌⊗◌, same}
use Rattle.sgm_height.proofs.Quotients.{product_within}

-- ---- products and order

product_from_0 : (a b : ℤ) → pos 0 ≤ℤ a → pos 0 ≤ℤ b → pos 0 ≤ℤ (a *ℤ b)
product_from_0 (pos a) (pos b) ha hb = omega (arith, ints)
product_from_0 (negsuc a) b ha hb = absurd (omega (arith, ints))
product_from_0 (pos a) (negsuc b) ha hb = absurd (omega (arith, ints))

less_one : (a b : ℤ) → (a -ℤ pos 1) *ℤ (b -ℤ pos 1) ≡ (((a *ℤ b) -ℤ a) -ℤ b) +ℤ pos 1
less_one a b =
    same ((at 0 ⊖ whole (pos 1)) ⊗ (at 1 ⊖ whole (pos 1))) ((((at 0 ⊗ at 1) ⊖ at 0) ⊖ at 1) ⊕ whole (pos 1)) refl (a ∷ b ∷ [])

product_from_1 : (a b : ℤ) → pos 1 ≤ℤ a → pos 1 ≤ℤ b → pos 1 ≤ℤ (a *ℤ b)
product_from_1 a b ha hb =
    omega (arith, ints, ha, hb, less_one a b, product_from_0 (a -ℤ pos 1) (b -ℤ pos 1) (omega (arith, ints, ha)) (omega (arith, ints, hb)))

times_difference : (a b c : ℤ) → a *ℤ (b -ℤ c) ≡ (a *ℤ b) -ℤ (a *ℤ c)
times_difference a b c = same (at 0 ⊗ (at 1 ⊖ at 2)) ((at 0 ⊗ at 1) ⊖ (at 0 ⊗ at 2)) refl (a ∷ b ∷ c ∷ [])

-- a factor that isn't negative keeps an order, and one above 0 can be left out
times_more : (a b c : ℤ) → pos 0 ≤ℤ a → b ≤ℤ c → (a *ℤ b) ≤ℤ (a *ℤ c)
times_more a b c ha h = omega (arith, ints, times_difference a c b, product_from_0 a (c -ℤ b) ha (omega (arith, ints, h)))

without_factor : (a b c : ℤ) → pos 1 ≤ℤ a → (a *ℤ b) ≤ℤ (a *ℤ c) → b ≤ℤ c
without_factor a b c ha h =
    by_lt_z c b
    (λ lt. absurd (omega (arith, ints, h, times_difference a b c, product_from_1 a (b -ℤ c) ha (omega (arith, ints, lt)))))
    (λ le. le)

square_from_0 : (a : ℤ) → pos 0 ≤ℤ (a *ℤ a)
square_from_0 (pos n) = omega (arith, ints)
square_from_0 (negsuc n) = omega (arith, ints)

root_of_0 : (a : ℤ) → (a *ℤ a) ≤ℤ pos 0 → a ≡ pos 0
root_of_0 (pos zero) h = refl
root_of_0 (pos (suc n)) h = absurd (omega (arith, ints))
root_of_0 (negsuc n) h = absurd (omega (arith, ints))

-- ---- the form and the square of a length

length_from_0 : (x y h : ℤ) → pos 0 ≤ℤ square x y h
length_from_0 x y h = omega (arith, ints, square_from_0 x, square_from_0 y, square_from_0 h)

squares_from_0 : (xx yy hh xy xh yh : ℤ) → pos 0 ≤ℤ squares xx yy hh xy xh yh
squares_from_0 xx yy hh xy xh yh =
    omega (arith, ints, square_from_0 xx, square_from_0 yy, square_from_0 hh, square_from_0 xy, square_from_0 xh, square_from_0 yh)

-- of no length, all coordinates are 0
form_is_0 : (xx yy hh xy xh yh x y h : ℤ) → square x y h ≤ℤ pos 0 → form xx yy hh xy xh yh x y h ≡ pos 0
form_is_0 xx yy hh xy xh yh x y h none =
    let ex : x ≡ pos 0 = root_of_0 x (omega (arith, ints, none, square_from_0 y, square_from_0 h)) in
    let ey : y ≡ pos 0 = root_of_0 y (omega (arith, ints, none, square_from_0 x, square_from_0 h)) in
    let eh : h ≡ pos 0 = root_of_0 h (omega (arith, ints, none, square_from_0 x, square_from_0 y)) in
    ap (λ (t : ℤ). form xx yy hh xy xh yh t y h) ex
    ∙ ap (λ (t : ℤ). form xx yy hh xy xh yh (pos 0) t h) ey
    ∙ ap (λ (t : ℤ). form xx yy hh xy xh yh (pos 0) (pos 0) t) eh
    ∙ form_of_none xx yy hh xy xh yh

regrouped : (g n : ℤ) → (n *ℤ n) *ℤ (g *ℤ g) ≡ (g *ℤ n) *ℤ (g *ℤ n)
regrouped g n = same ((at 1 ⊗ at 1) ⊗ (at 0 ⊗ at 0)) ((at 0 ⊗ at 1) ⊗ (at 0 ⊗ at 1)) refl (g ∷ n ∷ [])

halved : (s t w : ℤ) → pos 0 ≤ℤ ((s -ℤ (pos 2 *ℤ t)) +ℤ w) → s ≤ℤ w → t ≤ℤ w
halved s t w h most = omega (arith, ints, h, most)

-- squares aren't negative: so the form, times g times the square of the length, is bounded
form_times : (xx yy hh xy xh yh g x y h : ℤ) → squares xx yy hh xy xh yh ≤ℤ (g *ℤ g)
    → ((g *ℤ square x y h) *ℤ form xx yy hh xy xh yh x y h) ≤ℤ ((g *ℤ square x y h) *ℤ (g *ℤ square x y h))
form_times xx yy hh xy xh yh g x y h most =
    let n : ℤ = square x y h in
    let more : ((n *ℤ n) *ℤ squares xx yy hh xy xh yh) ≤ℤ ((n *ℤ n) *ℤ (g *ℤ g)) =
    times_more (n *ℤ n) (squares xx yy hh xy xh yh) (g *ℤ g) (square_from_0 n) most in
    halved _ _ _
    (subst (λ (t : ℤ). pos 0 ≤ℤ t) (weighed xx yy hh xy xh yh g x y h) (squares_from_0 _ _ _ _ _ _))
    (subst (λ (t : ℤ). ((n *ℤ n) *ℤ squares xx yy hh xy xh yh) ≤ℤ t) (regrouped g n) more)

opposite_times : (g n f : ℤ) → ((pos 0 -ℤ g) *ℤ n) *ℤ f ≡ (g *ℤ n) *ℤ (pos 0 -ℤ f)
opposite_times g n f =
    same (((whole (pos 0) ⊖ at 0) ⊗ at 1) ⊗ at 2) ((at 0 ⊗ at 1) ⊗ (whole (pos 0) ⊖ at 2)) refl (g ∷ n ∷ f ∷ [])

opposite_squared : (g n : ℤ) → ((pos 0 -ℤ g) *ℤ n) *ℤ ((pos 0 -ℤ g) *ℤ n) ≡ (g *ℤ n) *ℤ (g *ℤ n)
opposite_squared g n =
    let a : Term = (whole (pos 0) ⊖ at 0) ⊗ at 1 in
    same (a ⊗ a) ((at 0 ⊗ at 1) ⊗ (at 0 ⊗ at 1)) refl (g ∷ n ∷ [])

opposite_square : (g : ℤ) → g *ℤ g ≡ (pos 0 -ℤ g) *ℤ (pos 0 -ℤ g)
opposite_square g = same (at 0 ⊗ at 0) ((whole (pos 0) ⊖ at 0) ⊗ (whole (pos 0) ⊖ at 0)) refl (g ∷ [])

same_order : (s t u v : ℤ) → s ≡ t → u ≡ v → s ≤ℤ u → t ≤ℤ v
same_order s t u v e f h = omega (arith, ints, e, f, h)

form_times_opposite : (xx yy hh xy xh yh g x y h : ℤ) → squares xx yy hh xy xh yh ≤ℤ (g *ℤ g)
    → ((g *ℤ square x y h) *ℤ (pos 0 -ℤ form xx yy hh xy xh yh x y h)) ≤ℤ ((g *ℤ square x y h) *ℤ (g *ℤ square x y h))
form_times_opposite xx yy hh xy xh yh g x y h most =
    same_order _ _ _ _ (opposite_times g (square x y h) (form xx yy hh xy xh yh x y h)) (opposite_squared g (square x y h))
    (form_times xx yy hh xy xh yh (pos 0 -ℤ g) x y h (subst (λ (t : ℤ). squares xx yy hh xy xh yh ≤ℤ t) (opposite_square g) most))

from_none : (f w : ℤ) → f ≡ pos 0 → pos 0 ≤ℤ w → f ≤ℤ w
from_none f w e h = omega (arith, ints, e, h)

opposite_of_0 : (f : ℤ) → f ≡ pos 0 → pos 0 -ℤ f ≡ pos 0
opposite_of_0 f e = omega (arith, ints, e)

-- that factor can be left out, also where it is 0
bounded : (g x y h f : ℤ) → pos 1 ≤ℤ g → (square x y h ≤ℤ pos 0 → f ≡ pos 0)
    → ((g *ℤ square x y h) *ℤ f) ≤ℤ ((g *ℤ square x y h) *ℤ (g *ℤ square x y h)) → f ≤ℤ (g *ℤ square x y h)
bounded g x y h f hg none times =
    by_lt_z (pos 0) (square x y h)
    (λ some. without_factor _ _ _ (product_from_1 g (square x y h) hg (omega (arith, ints, some))) times)
    (λ le. from_none f _ (none le) (product_from_0 g (square x y h) (omega (arith, ints, hg)) (length_from_0 x y h)))

-- ---- axes that are nearly those of a rotation

near : (z : ℤ) → is_small z ≡ true → Within (2 ^ 45) z
near z small = grind (arith, ints)

small_square : (z : ℤ) → is_small z ≡ true → (z *ℤ z) ≤ℤ pos (2 ^ 90)
small_square z small = omega (arith, ints, product_within z z (2 ^ 45) (2 ^ 45) (near z small) (near z small))

nine : (a b c d e f : ℤ) → a ≤ℤ pos (2 ^ 90) → b ≤ℤ pos (2 ^ 90) → c ≤ℤ pos (2 ^ 90)
    → d ≤ℤ pos (2 ^ 90) → e ≤ℤ pos (2 ^ 90) → f ≤ℤ pos (2 ^ 90)
    → (((a +ℤ b) +ℤ c) +ℤ (pos 2 *ℤ ((d +ℤ e) +ℤ f))) ≤ℤ pos (9 * 2 ^ 90)
nine a b c d e f ha hb hc hd he hf = omega (arith, ints, ha, hb, hc, hd, he, hf)

rows_skew : (axes : Axes) → is_nearly_rotation axes ≡ true → skew (pos (2 ^ 60)) axes.east axes.north axes.up ≤ℤ pos (9 * 2 ^ 90)
unfolding is_nearly_rotation
rows_skew axes h =
    let north_up = and_parts _ _ h in
    let east_up = and_parts _ _ north_up.0 in
    let east_north = and_parts _ _ east_up.0 in
    let up = and_parts _ _ east_north.0 in
    let first = and_parts _ _ up.0 in
    nine _ _ _ _ _ _ (small_square _ first.0) (small_square _ first.1) (small_square _ up.1)
    (small_square _ east_north.1) (small_square _ east_up.1) (small_square _ north_up.1)

columns_skew : (axes : Axes) → is_nearly_rotation axes ≡ true
    → skew (pos (2 ^ 60)) (axis axes.east.x axes.north.x axes.up.x) (axis axes.east.y axes.north.y axes.up.y) (axis axes.east.h axes.north.h axes.up.h)
    ≤ℤ (pos (3 * 2 ^ 45) *ℤ pos (3 * 2 ^ 45))
columns_skew axes h =
    subst (λ (t : ℤ). t ≤ℤ pos (9 * 2 ^ 90)) (sym (columns_as_rows (pos (2 ^ 60)) axes.east axes.north axes.up)) (rows_skew axes h)

over : (u s f w : ℤ) → u ≡ s +ℤ f → f ≤ℤ w → u ≤ℤ (s +ℤ w)
over u s f w e h = omega (arith, ints, e, h)

under : (u s f w : ℤ) → u ≡ s +ℤ f → (pos 0 -ℤ f) ≤ℤ w → (s -ℤ w) ≤ℤ u
under u s f w e h = omega (arith, ints, e, h)

pub at_most : (axes : Axes) (p : Point) → IsTrue (is_nearly_rotation axes)
    → squared (turned axes p) ≤ℤ ((pos (2 ^ 60) *ℤ squared p) +ℤ (pos (3 * 2 ^ 45) *ℤ squared p))
at_most axes p h =
    over _ _ _ _ (stretched (pos (2 ^ 60)) axes.east axes.north axes.up p)
    (bounded (pos (3 * 2 ^ 45)) p.x p.y p.h _ (omega (arith, ints)) (form_is_0 _ _ _ _ _ _ p.x p.y p.h)
    (form_times _ _ _ _ _ _ (pos (3 * 2 ^ 45)) p.x p.y p.h (columns_skew axes h)))

pub at_least : (axes : Axes) (p : Point) → IsTrue (is_nearly_rotation axes)
    → ((pos (2 ^ 60) *ℤ squared p) -ℤ (pos (3 * 2 ^ 45) *ℤ squared p)) ≤ℤ squared (turned axes p)
at_least axes p h =
    under _ _ _ _ (stretched (pos (2 ^ 60)) axes.east axes.north axes.up p)
    (bounded (pos (3 * 2 ^ 45)) p.x p.y p.h _ (omega (arith, ints)) (λ none. opposite_of_0 _ (form_is_0 _ _ _ _ _ _ p.x p.y p.h none))
    (form_times_opposite _ _ _ _ _ _ (pos (3 * 2 ^ 45)) p.x p.y p.h (columns_skew axes h)))
