-- Sums over lists of which one element changed, and what holds of each element.
use Rattle.std.proofs.Common.{◌≡◌, ◌≢◌, ℕ, zero, suc, ◌+◌, ◌<◌, ◌≤◌, List, [], ◌∷◌, length, get_or, set, sym, refl, ap, ◌∙◌, subst, arith}
use mathlib.Core.Option.{some, some-injective, some-ne-none}
use lib.ListN.{get_elem?}
use Rattle.atomic_table.proofs.Lists.{set_else}
use Rattle.std.specs.List.{All, sum_by}
use Rattle.std.proofs.lemmas.List.Elements.{All-cons}
use Rattle.std.proofs.lemmas.List.Sums.{sum_by-set, get_or-le-sum_by, sum_by-le}

module _ {X : Type 0} where
  pub inside : (xs : List X) (i : ℕ) (a : X) → get_elem? xs i ≡ some a → i < length xs
  inside [] i a e = absurd (some-ne-none a (sym e))
  inside (x ∷ xs) zero a e = omega arith
  inside (x ∷ xs) (suc i) a e = let h = inside xs i a e in omega arith

  pub at_get : (xs : List X) (i : ℕ) (a : X) → get_elem? xs i ≡ some a → get_or xs i a ≡ a
  at_get [] i a e = absurd (some-ne-none a (sym e))
  at_get (x ∷ xs) zero a e = some-injective x a e
  at_get (x ∷ xs) (suc i) a e = at_get xs i a e

  pub set_same : (xs : List X) (i : ℕ) (a : X) → get_elem? xs i ≡ some a → set xs i a ≡ xs
  set_same [] i a e = refl
  set_same (x ∷ xs) zero a e = ap (λ y. y ∷ xs) (sym (some-injective x a e))
  set_same (x ∷ xs) (suc i) a e = ap (λ ys. x ∷ ys) (set_same xs i a e)

  -- what holds of each element holds of one, and the other way round
  pub at_all : (P : X → Type 0) (xs : List X) (i : ℕ) (a : X) → All P xs → get_elem? xs i ≡ some a → P a
  at_all P xs i a h e = subst P (at_get xs i a e) (h i a (inside xs i a e))

  pub get_at : (xs : List X) (i : ℕ) (d : X) → i < length xs → get_elem? xs i ≡ some (get_or xs i d)
  get_at [] i d l = absurd (omega arith)
  get_at (x ∷ xs) zero d l = refl
  get_at (x ∷ xs) (suc i) d l = get_at xs i d (omega arith)

  pub all_at : (P : X → Type 0) (xs : List X) → ((i : ℕ) (a : X) → get_elem? xs i ≡ some a → P a) → All P xs
  all_at P xs h k d l = h k (get_or xs k d) (get_at xs k d l)

  pub all_weaker : (P Q : X → Type 0) (xs : List X) → ((x : X) → P x → Q x) → All P xs → All Q xs
  all_weaker P Q xs f h k d l = f (get_or xs k d) (h k d l)

  pub all_one : (P : X → Type 0) (x : X) → P x → All P (x ∷ [])
  all_one P x p = All-cons P x [] p (λ k d l. absurd (omega arith))

  module _ (g : X → ℕ) where
    pub moved : (xs : List X) (i : ℕ) (v w : X) → get_elem? xs i ≡ some v → sum_by g (set xs i w) + g v ≡ sum_by g xs + g w
    moved xs i v w at = let q = sum_by-set g xs i w v (inside xs i v at) in let e = ap g (at_get xs i v at) in omega arith

    pub one_of : (xs : List X) (i : ℕ) (v : X) → get_elem? xs i ≡ some v → g v ≤ sum_by g xs
    one_of xs i v at = let q = get_or-le-sum_by g xs i v (inside xs i v at) in let e = ap g (at_get xs i v at) in omega arith

    -- of two elements, where some value counts nothing
    pub two_of : (none : X) → g none ≡ 0 → (xs : List X) (i j : ℕ) (v u : X) → j ≢ i → get_elem? xs i ≡ some v → get_elem? xs j ≡ some u → g v + g u ≤ sum_by g xs
    two_of none zero_none xs i j v u ne at at' =
        let q = moved xs i v none at in
        let o = one_of (set xs i none) j u (set_else xs i j none ne ∙ at') in
        omega arith

    pub all_zero : (xs : List X) → All (λ x. g x ≡ 0) xs → sum_by g xs ≡ 0
    all_zero xs h = let q = sum_by-le g 0 xs (all_weaker (λ x. g x ≡ 0) (λ x. g x ≤ 0) xs (λ x e. omega arith) h) in omega arith
