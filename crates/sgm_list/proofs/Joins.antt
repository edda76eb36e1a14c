-- A text that is two texts, one after the other.
use Rattle.std.proofs.Common.{◌≡◌, ◌≢◌, List, [], ◌∷◌, ◌++◌, ℕ, refl, sym, ap, ◌∙◌, Bool, true, false, ◌&&◌, eq-eqb}
use Rattle.std.specs.Str.{bytes_eq}
use Rattle.std.proofs.lemmas.Slice.Eq.{bytes_eq-Decides}

front_same : (front rest back : List ℕ) → bytes_eq (front ++ rest) (front ++ back) ≡ bytes_eq rest back
front_same [] rest back = refl
front_same (x ∷ front) rest back = ap (λ (b : Bool). b && bytes_eq (front ++ rest) (front ++ back)) (eq-eqb x x refl) ∙ front_same front rest back

pub join_some : (whole front rest back : List ℕ) (r : Bool) → r ≡ bytes_eq rest back → whole ≡ front ++ rest → r ≡ bytes_eq whole (front ++ back)
join_some whole front rest back r is split = is ∙ sym (front_same front rest back) ∙ ap (λ (w : List ℕ). bytes_eq w (front ++ back)) (sym split)

pub is_false : (b : Bool) → (b ≡ true → ⊥) → false ≡ b
is_false true h = absurd (h refl)
is_false false h = refl

pub join_none : (whole front back : List ℕ) → ((rest : List ℕ) → whole ≢ front ++ rest) → false ≡ bytes_eq whole (front ++ back)
join_none whole front back none = is_false (bytes_eq whole (front ++ back)) (λ same. none back ((bytes_eq-Decides whole (front ++ back)).0 same))
