-- Sums over the nine entries of a matrix of rows and columns x, y and h that is the same on both
-- sides of its diagonal, and equations between them.
use Rattle.std.proofs.Common.{◌≡◌, [], ◌∷◌, ℤ, pos, ◌+ℤ◌, ◌-ℤ◌, ◌*ℤ◌, refl}
use Rattle.sgm_base.specs.declared.point.Point.{Point}
use Rattle.sgm_height.specs.declared.pose.Axis.{Axis}
use Rattle.sgm_height.specs.Laws.{squared, turned}
use Rattle.sgm_height.specs.Pose.{dot}
use Rattle.sgm_height.proofs.Polynomials.{Term, whole, at, ◌⊕◌, ◌⊖◌, ◌⊗◌, same}

abbrev pub axis : ℤ → ℤ → ℤ → Axis
axis x y h = record { x = x; y = y; h = h }

-- the sum of the squares of the entries
abbrev pub squares : ℤ → ℤ → ℤ → ℤ → ℤ → ℤ → ℤ
squares xx yy hh xy xh yh =
    (((xx *ℤ xx) +ℤ (yy *ℤ yy)) +ℤ (hh *ℤ hh)) +ℤ (pos 2 *ℤ (((xy *ℤ xy) +ℤ (xh *ℤ xh)) +ℤ (yh *ℤ yh)))

-- the sum of the entries times the two coordinates that belong to each
abbrev pub form : ℤ → ℤ → ℤ → ℤ → ℤ → ℤ → ℤ → ℤ → ℤ → ℤ
form xx yy hh xy xh yh x y h =
    (((xx *ℤ (x *ℤ x)) +ℤ (yy *ℤ (y *ℤ y))) +ℤ (hh *ℤ (h *ℤ h)))
    +ℤ (pos 2 *ℤ (((xy *ℤ (x *ℤ y)) +ℤ (xh *ℤ (x *ℤ h))) +ℤ (yh *ℤ (y *ℤ h))))

-- the square of a length, by its coordinates
abbrev pub square : ℤ → ℤ → ℤ → ℤ
square x y h = ((x *ℤ x) +ℤ (y *ℤ y)) +ℤ (h *ℤ h)

-- how far three axes are from being of that square and at right angles: the squares of what their
-- products are off
abbrev pub skew : ℤ → Axis → Axis → Axis → ℤ
skew unit a b c = squares (dot a a -ℤ unit) (dot b b -ℤ unit) (dot c c -ℤ unit) (dot a b) (dot a c) (dot b c)

-- the same as terms
abbrev squares_term : Term → Term → Term → Term → Term → Term → Term
squares_term xx yy hh xy xh yh =
    (((xx ⊗ xx) ⊕ (yy ⊗ yy)) ⊕ (hh ⊗ hh)) ⊕ (whole (pos 2) ⊗ (((xy ⊗ xy) ⊕ (xh ⊗ xh)) ⊕ (yh ⊗ yh)))

abbrev form_term : Term → Term → Term → Term → Term → Term → Term → Term → Term → Term
form_term xx yy hh xy xh yh x y h =
    (((xx ⊗ (x ⊗ x)) ⊕ (yy ⊗ (y ⊗ y))) ⊕ (hh ⊗ (h ⊗ h)))
    ⊕ (whole (pos 2) ⊗ (((xy ⊗ (x ⊗ y)) ⊕ (xh ⊗ (x ⊗ h))) ⊕ (yh ⊗ (y ⊗ h))))

abbrev dot_term : Term → Term → Term → Term → Term → Term → Term
dot_term a b c x y h = ((a ⊗ x) ⊕ (b ⊗ y)) ⊕ (c ⊗ h)

abbrev skew_term : Term → Term → Term → Term → Term → Term → Term → Term → Term → Term → Term
skew_term unit a b c d e f g h i =
    squares_term (dot_term a b c a b c ⊖ unit) (dot_term d e f d e f ⊖ unit) (dot_term g h i g h i ⊖ unit)
    (dot_term a b c d e f) (dot_term a b c g h i) (dot_term d e f g h i)

-- the columns of a matrix are as far from it as its rows
pub columns_as_rows : (unit : ℤ) (a b c : Axis)
    → skew unit (axis a.x b.x c.x) (axis a.y b.y c.y) (axis a.h b.h c.h) ≡ skew unit a b c
columns_as_rows unit a b c =
    same (skew_term (at 9) (at 0) (at 3) (at 6) (at 1) (at 4) (at 7) (at 2) (at 5) (at 8))
    (skew_term (at 9) (at 0) (at 1) (at 2) (at 3) (at 4) (at 5) (at 6) (at 7) (at 8))
    refl (a.x ∷ a.y ∷ a.h ∷ b.x ∷ b.y ∷ b.h ∷ c.x ∷ c.y ∷ c.h ∷ unit ∷ [])

-- what turning adds to that multiple of the square of a length
pub stretched : (unit : ℤ) (a b c : Axis) (p : Point)
    → squared (turned (record { east = a; north = b; up = c }) p)
    ≡ (unit *ℤ squared p)
    +ℤ form (dot (axis a.x b.x c.x) (axis a.x b.x c.x) -ℤ unit) (dot (axis a.y b.y c.y) (axis a.y b.y c.y) -ℤ unit)
    (dot (axis a.h b.h c.h) (axis a.h b.h c.h) -ℤ unit) (dot (axis a.x b.x c.x) (axis a.y b.y c.y))
    (dot (axis a.x b.x c.x) (axis a.h b.h c.h)) (dot (axis a.y b.y c.y) (axis a.h b.h c.h)) p.x p.y p.h
stretched unit a b c p =
    let u : Term = dot_term (at 0) (at 1) (at 2) (at 10) (at 11) (at 12) in
    let v : Term = dot_term (at 3) (at 4) (at 5) (at 10) (at 11) (at 12) in
    let w : Term = dot_term (at 6) (at 7) (at 8) (at 10) (at 11) (at 12) in
    same (dot_term u v w u v w)
    ((at 9 ⊗ dot_term (at 10) (at 11) (at 12) (at 10) (at 11) (at 12))
    ⊕ form_term (dot_term (at 0) (at 3) (at 6) (at 0) (at 3) (at 6) ⊖ at 9) (dot_term (at 1) (at 4) (at 7) (at 1) (at 4) (at 7) ⊖ at 9)
    (dot_term (at 2) (at 5) (at 8) (at 2) (at 5) (at 8) ⊖ at 9) (dot_term (at 0) (at 3) (at 6) (at 1) (at 4) (at 7))
    (dot_term (at 0) (at 3) (at 6) (at 2) (at 5) (at 8)) (dot_term (at 1) (at 4) (at 7) (at 2) (at 5) (at 8)) (at 10) (at 11) (at 12))
    refl (a.x ∷ a.y ∷ a.h ∷ b.x ∷ b.y ∷ b.h ∷ c.x ∷ c.y ∷ c.h ∷ unit ∷ p.x ∷ p.y ∷ p.h ∷ [])

-- the squares of the entries, times the square of a length, less g times the two coordinates
pub weighed : (xx yy hh xy xh yh g x y h : ℤ)
    → squares ((square x y h *ℤ xx) -ℤ (g *ℤ (x *ℤ x))) ((square x y h *ℤ yy) -ℤ (g *ℤ (y *ℤ y))) ((square x y h *ℤ hh) -ℤ (g *ℤ (h *ℤ h)))
    ((square x y h *ℤ xy) -ℤ (g *ℤ (x *ℤ y))) ((square x y h *ℤ xh) -ℤ (g *ℤ (x *ℤ h))) ((square x y h *ℤ yh) -ℤ (g *ℤ (y *ℤ h)))
    ≡ (((square x y h *ℤ square x y h) *ℤ squares xx yy hh xy xh yh) -ℤ (pos 2 *ℤ ((g *ℤ square x y h) *ℤ form xx yy hh xy xh yh x y h)))
    +ℤ ((g *ℤ square x y h) *ℤ (g *ℤ square x y h))
weighed xx yy hh xy xh yh g x y h =
    let x' : Term = at 7 in let y' : Term = at 8 in let h' : Term = at 9 in
    let n : Term = dot_term x' y' h' x' y' h' in let g' : Term = at 6 in
    same (squares_term ((n ⊗ at 0) ⊖ (g' ⊗ (x' ⊗ x'))) ((n ⊗ at 1) ⊖ (g' ⊗ (y' ⊗ y'))) ((n ⊗ at 2) ⊖ (g' ⊗ (h' ⊗ h')))
    ((n ⊗ at 3) ⊖ (g' ⊗ (x' ⊗ y'))) ((n ⊗ at 4) ⊖ (g' ⊗ (x' ⊗ h'))) ((n ⊗ at 5) ⊖ (g' ⊗ (y' ⊗ h'))))
    ((((n ⊗ n) ⊗ squares_term (at 0) (at 1) (at 2) (at 3) (at 4) (at 5)) ⊖ (whole (pos 2) ⊗ ((g' ⊗ n) ⊗ form_term (at 0) (at 1) (at 2) (at 3) (at 4) (at 5) x' y' h')))
    ⊕ ((g' ⊗ n) ⊗ (g' ⊗ n)))
    refl (xx ∷ yy ∷ hh ∷ xy ∷ xh ∷ yh ∷ g ∷ x ∷ y ∷ h ∷ [])

-- the form of no length
pub form_of_none : (xx yy hh xy xh yh : ℤ) → form xx yy hh xy xh yh (pos 0) (pos 0) (pos 0) ≡ pos 0
form_of_none xx yy hh xy xh yh =
    same (form_term (at 0) (at 1) (at 2) (at 3) (at 4) (at 5) (whole (pos 0)) (whole (pos 0)) (whole (pos 0))) (whole (pos 0))
    refl (xx ∷ yy ∷ hh ∷ xy ∷ xh ∷ yh ∷ [])
