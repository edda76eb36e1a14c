-- Lists of matches whose values are those of the indices 0 and 1.
use Rattle.std.proofs.Common.{◌≡◌, ℕ, ◌<◌, ◌*◌, Bool, true, false, ◌||◌, eqb, List, get_or, unwrap_or, Option, Some, None, refl, arith}
use Rattle.std.specs.List.{list_all}
use Rattle.std.specs.Prelude.{IfSome}
use Rattle.std.proofs.lemmas.Bool.{eqb-true}
use Rattle.std.proofs.lemmas.List.Sums.{AllPass-from_list_all}
use Rattle.sgm_refine.specs.Filling.{AreIndices}

either : (v : ℕ) (a b : Bool) → eqb v 0 ≡ a → eqb v 16 ≡ b → (a || b) ≡ true → (d : ℕ) × (d < 2) × (v ≡ 16 * d)
either v true b x y e = (0, omega arith, eqb-true v 0 x)
either v false true x y e = (1, omega arith, eqb-true v 16 y)
either v false false x y e = absurd (cc)

index : (entry : Option ℕ) → (eqb (unwrap_or entry 0) 0 || eqb (unwrap_or entry 0) 16) ≡ true → IfSome entry (λ v. (d : ℕ) × (d < 2) × (v ≡ 16 * d))
index None e = tt
index (Some v) e = either v (eqb v 0) (eqb v 16) refl refl e

pub indices : (entries : List (Option ℕ)) → list_all (λ entry. eqb (unwrap_or entry 0) 0 || eqb (unwrap_or entry 0) 16) entries ≡ true → AreIndices 2 entries
indices entries e k d l = index (get_or entries k d) (AllPass-from_list_all (λ entry. eqb (unwrap_or entry 0) 0 || eqb (unwrap_or entry 0) 16) entries e k d l)
