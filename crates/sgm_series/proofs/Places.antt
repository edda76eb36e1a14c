-- Elements by their places.
use Rattle.std.proofs.Common.{◌≡◌, ◌⊎◌, inl, inr, ℕ, zero, suc, ◌+◌, ◌<◌, List, [], ◌∷◌, ◌++◌, take, length, Bool, true, false, cond, ◌||◌, Some, None, refl, ap, ◌∙◌, arith, Contains}
use Rattle.std.specs.Prelude.{slice_get, flat_map, find}
use Rattle.std.specs.List.{list_any, range_with_len}

-- an element among the first n stands at its place in the whole list
pub of_take : {X : Type 0} (n : ℕ) (xs : List X) (place : ℕ) (x : X) → slice_get (take n xs) place ≡ Some x → slice_get xs place ≡ Some x
of_take zero xs place x e = absurd (cc)
of_take (suc n) [] place x e = e
of_take (suc n) (y ∷ xs) zero x e = e
of_take (suc n) (y ∷ xs) (suc place) x e = of_take n xs place x e

-- and one before n stands among the first n
pub in_take : {X : Type 0} (n : ℕ) (xs : List X) (place : ℕ) (x : X) → place < n → slice_get xs place ≡ Some x → slice_get (take n xs) place ≡ Some x
in_take zero xs place x lt e = absurd (omega (arith, lt))
in_take (suc n) [] place x lt e = e
in_take (suc n) (y ∷ xs) zero x lt e = e
in_take (suc n) (y ∷ xs) (suc place) x lt e = in_take n xs place x (omega (arith, lt)) e

pub below_take : {X : Type 0} (n : ℕ) (xs : List X) (place : ℕ) (x : X) → slice_get (take n xs) place ≡ Some x → place < n
below_take zero xs place x e = absurd (cc)
below_take (suc n) [] place x e = absurd (cc)
below_take (suc n) (y ∷ xs) zero x e = omega arith
below_take (suc n) (y ∷ xs) (suc place) x e = let lt = below_take n xs place x e in omega (arith, lt)

pub in_length : {X : Type 0} (xs : List X) (place : ℕ) (x : X) → slice_get xs place ≡ Some x → place < length xs
in_length [] place x e = absurd (cc)
in_length (y ∷ xs) zero x e = omega arith
in_length (y ∷ xs) (suc place) x e = let lt = in_length xs place x e in omega (arith, lt)

-- an element has a place
pub place_of : {X : Type 0} (xs : List X) (x : X) → Contains xs x → (place : ℕ) × (slice_get xs place ≡ Some x)
place_of [] x (k, lt, e) = absurd (omega (arith, lt))
place_of (y ∷ xs) x (zero, lt, e) = (0, ap (λ (z : _). Some z) e)
place_of (y ∷ xs) x (suc k, lt, e) = let found = place_of xs x (k, omega (arith, lt), e) in (suc found.0, found.1)

pub element_at : {X : Type 0} (xs : List X) (place : ℕ) (x : X) → slice_get xs place ≡ Some x → Contains xs x
element_at [] place x e = absurd (cc)
element_at (y ∷ xs) zero x e = let same : y ≡ x = cc in (0, omega arith, same)
element_at (y ∷ xs) (suc place) x e = let found = element_at xs place x e in let lt = found.1 in (suc found.0, omega (arith, lt), found.2)

pub or_true : (a b : Bool) → b ≡ true → (a || b) ≡ true
or_true true b e = refl
or_true false b e = e

-- an element that passes
pub any_true : {X : Type 0} (p : X → Bool) (xs : List X) (place : ℕ) (x : X) → slice_get xs place ≡ Some x → p x ≡ true → list_any p xs ≡ true
any_true p [] place x e t = absurd (cc)
any_true p (y ∷ xs) zero x e t = let same : y ≡ x = cc in ap (λ (b : Bool). b || list_any p xs) (ap p same ∙ t)
any_true p (y ∷ xs) (suc place) x e t = or_true (p y) (list_any p xs) (any_true p xs place x e t)

pub is_false : (b : Bool) → (b ≡ true → ⊥) → b ≡ false
is_false true never = absurd (never refl)
is_false false never = refl

-- where none passes
pub any_false : {X : Type 0} (p : X → Bool) (xs : List X) (place : ℕ) (x : X) → list_any p xs ≡ false → slice_get xs place ≡ Some x → p x ≡ false
any_false p xs place x none e = is_false (p x) (λ t. let some : list_any p xs ≡ true = any_true p xs place x e t in absurd (cc))

-- none of these numbers is found
pub none_found : (p : ℕ → Bool) (a n : ℕ) → find p (range_with_len a n) ≡ None → (k : ℕ) → k < n → p (a + k) ≡ false
none_found p a zero none k lt = absurd (omega (arith, lt))
none_found p a (suc n) none k lt = by_first (p a) refl none k lt (none_found p (a + 1) n)
  where
    by_first : (b : Bool) → p a ≡ b → cond b (Some a) (find p (range_with_len (a + 1) n)) ≡ None → (k : ℕ) → k < suc n
        → (find p (range_with_len (a + 1) n) ≡ None → (j : ℕ) → j < n → p ((a + 1) + j) ≡ false) → p (a + k) ≡ false
    by_first true is none k lt later = absurd (cc)
    by_first false is none zero lt later = ap p (let e : a + 0 ≡ a = omega arith in e) ∙ is
    by_first false is none (suc k) lt later = ap p (let e : a + suc k ≡ (a + 1) + k = omega arith in e) ∙ later none k (omega (arith, lt))

-- an element of a list that is made of others is one of these
pub in_flat : {X Y : Type 0} (f : X → List Y) (xs : List X) (y : Y) → Contains (flat_map f xs) y → (place : ℕ) × (x : X) × (slice_get xs place ≡ Some x) × Contains (f x) y
in_flat f [] y (k, lt, e) = absurd (omega (arith, lt))
in_flat f (x ∷ xs) y c = elim (in_either (f x) (flat_map f xs) y c) [
  | inl here ↦ (0, x, refl, here)
  | inr later ↦ (let found = in_flat f xs y later in (suc found.0, found.1, found.2, found.3))
]
  where
    in_either : {Y : Type 0} (xs ys : List Y) (y : Y) → Contains (xs ++ ys) y → Contains xs y ⊎ Contains ys y
    in_either [] ys y c = inr c
    in_either (x ∷ xs) ys y (zero, lt, e) = inl (0, omega arith, e)
    in_either (x ∷ xs) ys y (suc k, lt, e) = elim (in_either xs ys y (k, omega (arith, lt), e)) [
      | inl here ↦ (let within = here.1 in inl (suc here.0, omega (arith, within), here.2))
      | inr later ↦ inr later
    ]
