-- Sums over lists of which one element changed.
use Rattle.std.proofs.Common.{◌≡◌, ◌≢◌, ℕ, zero, suc, ◌+◌, ◌<◌, ◌≤◌, ◌⊎◌, List, [], ◌∷◌, ◌++◌, length, get_or, set, sym, refl, ap, ◌∙◌, inl, inr, ⊎_elim, arith}
use mathlib.Core.Option.{some, some-injective, some-ne-none}
use lib.ListN.{get_elem?}
use Rattle.std.specs.List.{sum_by}
use Rattle.std.proofs.lemmas.List.Sums.{sum_by-append, sum_by-cons, sum_by-set, get_or-le-sum_by}
use Rattle.atomic_table.proofs.Lists.{at_set, set_else}

module _ {X : Type 0} where
  inside : (xs : List X) (i : ℕ) (a : X) → get_elem? xs i ≡ some a → i < length xs
  inside [] i a e = absurd (some-ne-none a (sym e))
  inside (x ∷ xs) zero a e = omega arith
  inside (x ∷ xs) (suc i) a e = let h = inside xs i a e in omega arith

  at_get : (xs : List X) (i : ℕ) (a : X) → get_elem? xs i ≡ some a → get_or xs i a ≡ a
  at_get [] i a e = absurd (some-ne-none a (sym e))
  at_get (x ∷ xs) zero a e = some-injective x a e
  at_get (x ∷ xs) (suc i) a e = at_get xs i a e

  pub set_at : (l : List X) (i : ℕ) (a b : X) → get_elem? l i ≡ some a → get_elem? (set l i b) i ≡ some b
  set_at [] i a b e = absurd (some-ne-none a (sym e))
  set_at (x ∷ xs) zero a b e = refl
  set_at (x ∷ xs) (suc i) a b e = set_at xs i a b e

  pub at_push : (xs : List X) (a b : X) (j : ℕ) → get_elem? (xs ++ a ∷ []) j ≡ some b → (get_elem? xs j ≡ some b) ⊎ (a ≡ b)
  at_push [] a b zero e = inr (some-injective a b e)
  at_push [] a b (suc j) e = absurd (some-ne-none b (sym e))
  at_push (x ∷ xs) a b zero e = inl e
  at_push (x ∷ xs) a b (suc j) e = at_push xs a b j e

  module _ (g : X → ℕ) where
    pub moved : (xs : List X) (i : ℕ) (v w : X) → get_elem? xs i ≡ some v → sum_by g (set xs i w) + g v ≡ sum_by g xs + g w
    moved xs i v w at = let q = sum_by-set g xs i w v (inside xs i v at) in let e = ap g (at_get xs i v at) in omega arith

    one_of : (xs : List X) (i : ℕ) (v : X) → get_elem? xs i ≡ some v → g v ≤ sum_by g xs
    one_of xs i v at = let q = get_or-le-sum_by g xs i v (inside xs i v at) in let e = ap g (at_get xs i v at) in omega arith

    -- of two elements, where some value counts nothing
    pub two_of : (none : X) → g none ≡ 0 → (xs : List X) (i j : ℕ) (v u : X) → j ≢ i → get_elem? xs i ≡ some v → get_elem? xs j ≡ some u → g v + g u ≤ sum_by g xs
    two_of none zero_none xs i j v u ne at at' =
        let q = moved xs i v none at in
        let o = one_of (set xs i none) j u (set_else xs i j none ne ∙ at') in
        omega arith

    zero_sum : (xs : List X) → ((j : ℕ) (u : X) → get_elem? xs j ≡ some u → g u ≡ 0) → sum_by g xs ≡ 0
    zero_sum [] each = refl
    zero_sum (x ∷ xs) each = let e = sum_by-cons g x xs in let z = each 0 x refl in let r = zero_sum xs (λ j u h. each (suc j) u h) in omega arith

    -- nothing but one element counts
    pub alone : (none : X) → g none ≡ 0 → (xs : List X) (i : ℕ) (v : X) → get_elem? xs i ≡ some v → ((j : ℕ) (u : X) → j ≢ i → get_elem? xs j ≡ some u → g u ≡ 0) → sum_by g xs ≡ g v
    alone none zero_none xs i v at others =
        let q = moved xs i v none at in
        let z = zero_sum (set xs i none) (λ j u h. ⊎_elim (λ (t : (j ≡ i) × (none ≡ u)). ap g (sym t.1) ∙ zero_none) (λ (t : (j ≢ i) × (get_elem? xs j ≡ some u)). others j u t.0 t.1) (at_set xs i j none u h)) in
        omega arith

    pub pushed_sum : (xs : List X) (x : X) → sum_by g (xs ++ x ∷ []) ≡ sum_by g xs + g x
    pushed_sum xs x = let e = sum_by-append g xs (x ∷ []) in let o = sum_by-cons g x [] in omega arith
