-- What is changed at each place but the last and at the last is changed at each.
use Rattle.std.proofs.Common.{◌≡◌, ℕ, List, [], ◌∷◌, ◌++◌, refl, sym, ap, subst, ◌∙◌, arith, length, get_or}
use denote.Ref.{MutBor}
use denote.Param.Members.{Shared}
use mathlib.Core.Logic.{⊎_elim}
use Rattle.std.proofs.lemmas.Bool.{cases_lt}
use Rattle.std.proofs.lemmas.List.{get_or_append_left, get_or_push, length_push}
use Rattle.std.specs.Fork.{ChangesAt, ChangesEach}

module _ {F T : Type 0} (g : Shared F (ℕ × (MutBor T × Unit {0})) ((Unit {0}) × (MutBor T × Unit {0}))) (f : F) where
  -- of the same place and the same values
  same : {i j : ℕ} {x y x' y' : T} → i ≡ j → x ≡ x' → y ≡ y' → ChangesAt g f i x y → ChangesAt g f j x' y'
  same {i} {j} {x} {y} {x'} {y'} ei ex ey h = subst (λ k. ChangesAt g f k x' y') ei (subst (λ u. ChangesAt g f i u y') ex (subst (ChangesAt g f i x) ey h))

  pub and_last : (all rest others : List T) (x y : T) → all ≡ rest ++ x ∷ [] → length others ≡ length rest → ChangesEach g f rest others → ChangesAt g f (length rest) x y → ChangesEach g f all (others ++ y ∷ [])
  and_last all rest others x y is long each last i d h = (
    refl,
    ⊎_elim
        (λ low. same refl (sym (ap (λ xs. get_or xs i d) is ∙ get_or_append_left rest (x ∷ []) d i low)) (sym (get_or_append_left others (y ∷ []) d i (omega arith))) (each i d low).1)
        (λ high. let at : i ≡ length rest = omega (arith, ap length is, length_push rest x) in
        same (sym at) (sym (ap (λ xs. get_or xs i d) is ∙ get_or_push rest x d i (sym at))) (sym (get_or_push others y d i (long ∙ sym at))) last)
        (cases_lt i (length rest)),
  )
