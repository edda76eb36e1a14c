-- What stands at a place of a list.
use Rattle.std.proofs.Common.{◌≡◌, ℕ, zero, suc, ◌<◌, ◌⊎◌, List, [], ◌∷◌, ◌++◌, length, sym, refl, ◌∙◌, ap, inl, inr, ⊎_elim, arith, subst, All, Some, None}
use Rattle.std.specs.List.{slice_get}
use Rattle.std.proofs.lemmas.Option.{get_or_from_slice_get, slice_get_within}
use Rattle.std.proofs.lemmas.List.Elements.{All-append}
use mathlib.Core.Option.{some, some-injective, some-ne-none}
use lib.ListN.{get_elem?}

none_some : {A : Type 0} (a : A) → None ≡ Some a → ⊥
none_some a e = cc

-- the two ways to say it
pub get_from_slice : {A : Type 0} (xs : List A) (i : ℕ) (a : A) → slice_get xs i ≡ Some a → get_elem? xs i ≡ some a
get_from_slice [] i a e = absurd (none_some a e)
get_from_slice (x ∷ xs) zero a e = let same : x ≡ a = cc in ap some same
get_from_slice (x ∷ xs) (suc i) a e = get_from_slice xs i a e

pub slice_from_get : {A : Type 0} (xs : List A) (i : ℕ) (a : A) → get_elem? xs i ≡ some a → slice_get xs i ≡ Some a
slice_from_get [] i a e = absurd (some-ne-none a (sym e))
slice_from_get (x ∷ xs) zero a e = let same : x ≡ a = some-injective x a e in cc
slice_from_get (x ∷ xs) (suc i) a e = slice_from_get xs i a e

pub get-push : {A : Type 0} (xs : List A) (a b : A) (i : ℕ) → slice_get (xs ++ a ∷ []) i ≡ Some b → (slice_get xs i ≡ Some b) ⊎ ((i ≡ length xs) × (a ≡ b))
get-push [] a b zero e = inr (refl, cc)
get-push [] a b (suc i) e = absurd (none_some b e)
get-push (x ∷ xs) a b zero e = inl e
get-push (x ∷ xs) a b (suc i) e = ⊎_elim (λ t. inl t) (λ t. inr (ap suc t.0, t.1)) (get-push xs a b i e)

pub some_at : {A : Type 0} (xs : List A) (i : ℕ) → i < length xs → (a : A) × (slice_get xs i ≡ Some a)
some_at [] i l = absurd (omega arith)
some_at (x ∷ xs) zero l = (x, refl)
some_at (x ∷ xs) (suc i) l = some_at xs i (omega arith)

pub all_at : {A : Type 0} (P : A → Type 0) (xs : List A) (i : ℕ) (a : A) → All P xs → slice_get xs i ≡ Some a → P a
all_at P xs i a h e = subst P (get_or_from_slice_get xs i a a e) (h i a (slice_get_within xs i a e))

one : {A : Type 0} (P : A → Type 0) (a : A) → P a → All P (a ∷ [])
one P a p zero d l = p
one P a p (suc i) d l = absurd (omega arith)

pub All-push : {A : Type 0} (P : A → Type 0) (xs : List A) (a : A) → All P xs → P a → All P (xs ++ a ∷ [])
All-push P xs a all last = All-append P xs (a ∷ []) all (one P a last)

-- a list that grows by one, each of which fits its place
pub each-push : {A : Type 0} (P : ℕ → A → Type 0) (xs : List A) (a : A) (n : ℕ) → length xs ≡ n → ((i : ℕ) (x : A) → slice_get xs i ≡ Some x → P i x) → P n a → (i : ℕ) (x : A) → slice_get (xs ++ a ∷ []) i ≡ Some x → P i x
each-push {A = A} P xs a n long all last i x h = ⊎_elim (λ (e : slice_get xs i ≡ Some x). all i x e)
    (λ (t : (i ≡ length xs) × (a ≡ x)). subst (λ (z : ℕ × A). P z.0 z.1) (λ j. (sym (t.0 ∙ long) j, t.1 j)) last) (get-push xs a x i h)
