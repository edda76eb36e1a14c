-- Polynomials with whole coefficients, by which `same` proves an equation between sums, differences
-- and products of whole numbers: both sides are written as terms, and their difference is
-- multiplied out.
use Rattle.std.proofs.Common.{◌≡◌, ℕ, zero, suc, ◌+◌, ◌*◌, Bool, true, false, ◌&&◌, List, [], ◌∷◌, get_or, ℤ, pos, negsuc, ◌+ℤ◌, ◌-ℤ◌, ◌*ℤ◌, refl, sym, ap, ap₂, ◌∙◌, arith}
use Rattle.std.proofs.lemmas.Int.{ints}
use Rattle.std.proofs.lemmas.Bool.{false≢true, and_parts}
use borrow.Author.Differences.{up, down}
use Rattle.std.proofs.Math.IntN.{*ℤ_comm}

-- ---- sums and products of whole numbers

times_sum : (a b c : ℤ) → a *ℤ (b +ℤ c) ≡ (a *ℤ b) +ℤ (a *ℤ c)
times_sum a b c =
    let e : up (b +ℤ c) + (down b + down c) ≡ down (b +ℤ c) + (up b + up c) = omega (arith, ints) in
    omega (arith, ints, ap (λ (n : ℕ). up a * n) e, ap (λ (n : ℕ). down a * n) e)

sum_times : (a b c : ℤ) → (a +ℤ b) *ℤ c ≡ (a *ℤ c) +ℤ (b *ℤ c)
sum_times a b c = *ℤ_comm (a +ℤ b) c ∙ times_sum c a b ∙ ap₂ (λ (y z : ℤ). y +ℤ z) (*ℤ_comm c a) (*ℤ_comm c b)

times_assoc : (a b c : ℤ) → (a *ℤ b) *ℤ c ≡ a *ℤ (b *ℤ c)
times_assoc a b c =
    let e : up (a *ℤ b) + (up a * down b + down a * up b) ≡ down (a *ℤ b) + (up a * up b + down a * down b) = omega (arith, ints) in
    let f : up (b *ℤ c) + (up b * down c + down b * up c) ≡ down (b *ℤ c) + (up b * up c + down b * down c) = omega (arith, ints) in
    omega (arith, ints, ap (λ (n : ℕ). n * up c) e, ap (λ (n : ℕ). n * down c) e, ap (λ (n : ℕ). up a * n) f, ap (λ (n : ℕ). down a * n) f)

-- ---- polynomials

-- a number, or p + x q, with the first letter x, p in the other letters and q in all
pub data Poly : Type 0 where
  number : ℤ → Poly
  split : Poly → Poly → Poly

-- what it comes to where the letters are those numbers, and 0 past their end
abbrev pub value : Poly → List ℤ → ℤ
value (number c) xs = c
value (split p q) [] = value p []
value (split p q) (x ∷ xs) = value p xs +ℤ (x *ℤ value q (x ∷ xs))

abbrev pub plus : Poly → Poly → Poly
plus (number a) (number b) = number (a +ℤ b)
plus (number a) (split p q) = split (plus (number a) p) q
plus (split p q) (number b) = split (plus p (number b)) q
plus (split p q) (split r s) = split (plus p r) (plus q s)

abbrev pub scaled : ℤ → Poly → Poly
scaled a (number b) = number (a *ℤ b)
scaled a (split p q) = split (scaled a p) (scaled a q)

-- the product with a polynomial in the letters but the first, by f, the products with it in these
abbrev pub spread : (Poly → Poly) → Poly → Poly
spread f (number c) = split (f (number c)) (number (pos 0))
spread f (split p q) = split (f p) (spread f q)

abbrev pub times : Poly → Poly → Poly
times (number a) r = scaled a r
times (split p q) r = plus (spread (times p) r) (split (number (pos 0)) (times q r))

abbrev pub letter : ℕ → Poly
letter zero = split (number (pos 0)) (number (pos 1))
letter (suc n) = split (letter n) (number (pos 0))

abbrev pub is_zero : Poly → Bool
is_zero (number (pos zero)) = true
is_zero (number (pos (suc n))) = false
is_zero (number (negsuc n)) = false
is_zero (split p q) = is_zero p && is_zero q

-- ---- their values

sums_meet : (a b c d x : ℤ) → (a +ℤ c) +ℤ (x *ℤ (b +ℤ d)) ≡ (a +ℤ (x *ℤ b)) +ℤ (c +ℤ (x *ℤ d))
sums_meet a b c d x = omega (arith, ints, times_sum x b d)

plus_is : (p q : Poly) (xs : List ℤ) → value (plus p q) xs ≡ value p xs +ℤ value q xs
plus_is (number a) (number b) xs = refl
plus_is (number a) (split r s) [] = plus_is (number a) r []
plus_is (number a) (split r s) (x ∷ xs) = omega (arith, ints, plus_is (number a) r xs)
plus_is (split p q) (number b) [] = plus_is p (number b) []
plus_is (split p q) (number b) (x ∷ xs) = omega (arith, ints, plus_is p (number b) xs)
plus_is (split p q) (split r s) [] = plus_is p r []
plus_is (split p q) (split r s) (x ∷ xs) =
    ap₂ (λ (y z : ℤ). y +ℤ (x *ℤ z)) (plus_is p r xs) (plus_is q s (x ∷ xs))
    ∙ sums_meet (value p xs) (value q (x ∷ xs)) (value r xs) (value s (x ∷ xs)) x

-- x (a b) as a (x b)
times_swap : (a b x : ℤ) → x *ℤ (a *ℤ b) ≡ a *ℤ (x *ℤ b)
times_swap a b x = sym (times_assoc x a b) ∙ ap (λ (y : ℤ). y *ℤ b) (*ℤ_comm x a) ∙ times_assoc a x b

into_sum : (a b c x : ℤ) → (a *ℤ b) +ℤ (x *ℤ (a *ℤ c)) ≡ a *ℤ (b +ℤ (x *ℤ c))
into_sum a b c x = ap (λ (y : ℤ). (a *ℤ b) +ℤ y) (times_swap a c x) ∙ sym (times_sum a b (x *ℤ c))

scaled_is : (a : ℤ) (p : Poly) (xs : List ℤ) → value (scaled a p) xs ≡ a *ℤ value p xs
scaled_is a (number b) xs = refl
scaled_is a (split p q) [] = scaled_is a p []
scaled_is a (split p q) (x ∷ xs) =
    ap₂ (λ (y z : ℤ). y +ℤ (x *ℤ z)) (scaled_is a p xs) (scaled_is a q (x ∷ xs))
    ∙ into_sum a (value p xs) (value q (x ∷ xs)) x

without_first : (a x : ℤ) → a +ℤ (x *ℤ pos 0) ≡ a
without_first a x = omega (arith, ints)

spread_is : (f : Poly → Poly) (r p : Poly) → ((q : Poly) (ys : List ℤ) → value (f q) ys ≡ value r ys *ℤ value q ys)
    → (x : ℤ) (xs : List ℤ) → value (spread f p) (x ∷ xs) ≡ value r xs *ℤ value p (x ∷ xs)
spread_is f r (number c) h x xs = without_first (value (f (number c)) xs) x ∙ h (number c) xs
spread_is f r (split p q) h x xs =
    ap₂ (λ (y z : ℤ). y +ℤ (x *ℤ z)) (h p xs) (spread_is f r q h x xs)
    ∙ into_sum (value r xs) (value p xs) (value q (x ∷ xs)) x

spread_of_none : (f : Poly → Poly) (r p : Poly) → ((q : Poly) (ys : List ℤ) → value (f q) ys ≡ value r ys *ℤ value q ys)
    → value (spread f p) [] ≡ value r [] *ℤ value p []
spread_of_none f r (number c) h = h (number c) []
spread_of_none f r (split p q) h = h p []

products_meet : (a b c x : ℤ) → (a *ℤ c) +ℤ (pos 0 +ℤ (x *ℤ (b *ℤ c))) ≡ (a +ℤ (x *ℤ b)) *ℤ c
products_meet a b c x = omega (arith, ints, sum_times a (x *ℤ b) c, times_assoc x b c)

times_is : (p r : Poly) (xs : List ℤ) → value (times p r) xs ≡ value p xs *ℤ value r xs
times_is (number a) r xs = scaled_is a r xs
times_is (split p q) r [] =
    plus_is (spread (times p) r) (split (number (pos 0)) (times q r)) []
    ∙ ap (λ (y : ℤ). y +ℤ pos 0) (spread_of_none (times p) p r (times_is p))
    ∙ without_first (value p [] *ℤ value r []) (pos 0)
times_is (split p q) r (x ∷ xs) =
    plus_is (spread (times p) r) (split (number (pos 0)) (times q r)) (x ∷ xs)
    ∙ ap₂ (λ (y z : ℤ). y +ℤ (pos 0 +ℤ (x *ℤ z))) (spread_is (times p) p r (times_is p) x xs) (times_is q r (x ∷ xs))
    ∙ products_meet (value p xs) (value q (x ∷ xs)) (value r (x ∷ xs)) x

letter_is : (n : ℕ) (xs : List ℤ) → value (letter n) xs ≡ get_or xs n (pos 0)
letter_is zero [] = refl
letter_is zero (x ∷ xs) = omega (arith, ints)
letter_is (suc n) [] = letter_is n []
letter_is (suc n) (x ∷ xs) = without_first (value (letter n) xs) x ∙ letter_is n xs

zero_is : (p : Poly) (xs : List ℤ) → is_zero p ≡ true → value p xs ≡ pos 0
zero_is (number (pos zero)) xs h = refl
zero_is (number (pos (suc n))) xs h = absurd (false≢true h)
zero_is (number (negsuc n)) xs h = absurd (false≢true h)
zero_is (split p q) [] h = zero_is p [] ((and_parts (is_zero p) (is_zero q) h).0)
zero_is (split p q) (x ∷ xs) h =
    let parts = and_parts (is_zero p) (is_zero q) h in
    ap₂ (λ (y z : ℤ). y +ℤ (x *ℤ z)) (zero_is p xs parts.0) (zero_is q (x ∷ xs) parts.1)
    ∙ without_first (pos 0) x

-- ---- terms

pub data Term : Type 0 where
  whole : ℤ → Term
  at : ℕ → Term
  sum : Term → Term → Term
  difference : Term → Term → Term
  product : Term → Term → Term

infixl 6 ◌⊕◌
abbrev pub ◌⊕◌ : Term → Term → Term
a ⊕ b = sum a b

infixl 6 ◌⊖◌
abbrev pub ◌⊖◌ : Term → Term → Term
a ⊖ b = difference a b

infixl 7 ◌⊗◌
abbrev pub ◌⊗◌ : Term → Term → Term
a ⊗ b = product a b

-- what a term comes to where its letters are those numbers, counted from 0
abbrev pub means : Term → List ℤ → ℤ
means (whole c) xs = c
means (at n) xs = get_or xs n (pos 0)
means (sum a b) xs = means a xs +ℤ means b xs
means (difference a b) xs = means a xs -ℤ means b xs
means (product a b) xs = means a xs *ℤ means b xs

-- a term multiplied out
abbrev pub poly : Term → Poly
poly (whole c) = number c
poly (at n) = letter n
poly (sum a b) = plus (poly a) (poly b)
poly (difference a b) = plus (poly a) (scaled (negsuc 0) (poly b))
poly (product a b) = times (poly a) (poly b)

less : (a b : ℤ) → a +ℤ (negsuc 0 *ℤ b) ≡ a -ℤ b
less a b = omega (arith, ints)

poly_is : (a : Term) (xs : List ℤ) → value (poly a) xs ≡ means a xs
poly_is (whole c) xs = refl
poly_is (at n) xs = letter_is n xs
poly_is (sum a b) xs =
    plus_is (poly a) (poly b) xs ∙ ap₂ (λ (y z : ℤ). y +ℤ z) (poly_is a xs) (poly_is b xs)
poly_is (difference a b) xs =
    plus_is (poly a) (scaled (negsuc 0) (poly b)) xs
    ∙ ap₂ (λ (y z : ℤ). y +ℤ z) (poly_is a xs) (scaled_is (negsuc 0) (poly b) xs ∙ ap (λ (z : ℤ). negsuc 0 *ℤ z) (poly_is b xs))
    ∙ less (means a xs) (means b xs)
poly_is (product a b) xs =
    times_is (poly a) (poly b) xs ∙ ap₂ (λ (y z : ℤ). y *ℤ z) (poly_is a xs) (poly_is b xs)

equal : (a b : ℤ) → a -ℤ b ≡ pos 0 → a ≡ b
equal a b h = omega (arith, ints)

-- two terms are equal if their difference, multiplied out, has no coefficient but 0
pub same : (a b : Term) → is_zero (poly (a ⊖ b)) ≡ true → (xs : List ℤ) → means a xs ≡ means b xs
same a b h xs = equal (means a xs) (means b xs) (sym (poly_is (a ⊖ b) xs) ∙ zero_is (poly (a ⊖ b)) xs h)
