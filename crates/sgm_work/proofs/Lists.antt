-- One place of a list that is written.
use Rattle.std.proofs.Common.{◌≡◌, ◌≢◌, ℕ, ◌<◌, ◌⊎◌, List, [], ◌∷◌, ◌++◌, suc, take, drop, take_all, length, get_or, set, Some, sym, ap, ◌∙◌, inl, inr, arith, get_or-set_same, get_or-set_other}
use Rattle.std.specs.List.{AllZip}
use Rattle.std.specs.Prelude.{slice_get}
use Rattle.std.proofs.lemmas.Bool.{cases_eq}
use Rattle.std.proofs.lemmas.List.{length-set, take-append-le}
use Rattle.std.proofs.lemmas.Option.{slice_get-get_or, slice_get_within, get_or_from_slice_get}

pub any_default : {X : Type 0} (xs : List X) (k : ℕ) (d e : X) → k < length xs → get_or xs k d ≡ get_or xs k e
any_default xs k d e h = get_or_from_slice_get xs k (get_or xs k e) d (slice_get-get_or xs k e h)

-- what stands at a place of it is what was written, or what stood there
pub get_set : {X : Type 0} (xs : List X) (s : ℕ) (x : X) (k : ℕ) (y : X) → slice_get (set xs s x) k ≡ Some y → ((k ≡ s) × (y ≡ x)) ⊎ ((k ≢ s) × (slice_get xs k ≡ Some y))
get_set xs s x k y e =
    let there : get_or (set xs s x) k y ≡ y = get_or_from_slice_get (set xs s x) k y y e in
    let inside : k < length xs = omega (arith, slice_get_within (set xs s x) k y e, length-set xs s x) in
    elim (cases_eq k s) [
      | inl same ↦ inl (same, sym there ∙ ap (λ n. get_or (set xs s x) n y) same ∙ get_or-set_same xs s x y (omega (arith, same)))
      | inr other ↦ inr (other, slice_get-get_or xs k y inside ∙ ap (λ z. Some z) (sym (get_or-set_other xs s k x y other) ∙ there))
    ]

-- what holds place by place of two lists that are as long
pub zip_places : {X Y : Type 0} (R : X → Y → Type 0) (xs : List X) (ys : List Y) → length xs ≡ length ys → ((k : ℕ) (d : X) (e : Y) → k < length xs → R (get_or xs k d) (get_or ys k e)) → AllZip R xs ys
zip_places R [] [] long each = tt
zip_places R [] (y ∷ ys) long each = absurd (omega (arith, long))
zip_places R (x ∷ xs) [] long each = absurd (omega (arith, long))
zip_places R (x ∷ xs) (y ∷ ys) long each = (each 0 x y (omega arith), zip_places R xs ys (omega (arith, long)) (λ k d e h. each (suc k) d e (omega arith)))

-- a slice of a vector's items, written back
pub written_back : {X : Type 0} (n : ℕ) (new items : List X) → length new ≡ n → take n (new ++ drop (length new) items) ≡ new
written_back n new items e = take-append-le n new (drop (length new) items) (omega (arith, e)) ∙ take_all n new (omega (arith, e))
