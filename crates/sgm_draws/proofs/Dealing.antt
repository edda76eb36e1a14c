-- One new ticket more.
use Rattle.std.proofs.Common.{◌≡◌, ℕ, zero, suc, List, [], ◌∷◌, ◌++◌, length, sym, refl, ap, ◌∙◌, subst, inl, inr, ◌⊎◌, ⊎_elim, Some, None}
use Rattle.std.specs.List.{slice_get}
use Rattle.atomic_table.specs.Seated.{TableId}
use Rattle.sgm_draws.specs.declared.rule.Plan.{Plan}
use Rattle.sgm_draws.specs.declared.ticket.Ticket.{Ticket}
use Rattle.sgm_draws.specs.Dealt.{IsDealt, AreDealt}

none_some : {A : Type 0} (a : A) → None ≡ Some a → ⊥
none_some a e = cc

get-push : {A : Type 0} (xs : List A) (a b : A) (i : ℕ) → slice_get (xs ++ a ∷ []) i ≡ Some b → (slice_get xs i ≡ Some b) ⊎ ((i ≡ length xs) × (a ≡ b))
get-push [] a b zero e = inr (refl, cc)
get-push [] a b (suc i) e = absurd (none_some b e)
get-push (x ∷ xs) a b zero e = inl e
get-push (x ∷ xs) a b (suc i) e = ⊎_elim (λ t. inl t) (λ t. inr (ap suc t.0, t.1)) (get-push xs a b i e)

pub AreDealt-push : (table : TableId) (plan : Plan) (ts : List Ticket) (t : Ticket) (k : ℕ) → length ts ≡ k → AreDealt table plan ts → IsDealt table plan k t → AreDealt table plan (ts ++ t ∷ [])
AreDealt-push table plan ts t k long all last i u h = ⊎_elim (λ (e : slice_get ts i ≡ Some u). all i u e)
    (λ (q : (i ≡ length ts) × (t ≡ u)). let e = q.0 ∙ long in subst (λ (x : ℕ × Ticket). IsDealt table plan x.0 x.1) (λ j. (sym e j, q.1 j)) last) (get-push ts t u i h)
