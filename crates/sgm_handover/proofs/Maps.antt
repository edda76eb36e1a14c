-- A map that is changed at one place, and options of workers.
use Rattle.std.proofs.Common.{◌≡◌, ◌≢◌, ℕ, ◌⊎◌, Bool, true, false, cond, sym, refl, ap, ◌∙◌, inl, inr, eq-eqb, ne_eqb, Option, Some, None}
use mathlib.Core.Logic.{dite}
use native.Mathlib.Decide.{ℕ_discrete}
use Rattle.sgm_handover.specs.Handover.{changed, is_worker}

module _ {K A : Type 0} (number : K → ℕ) where
  pub changed_there : (f : K → A) (k : K) (x : A) (j : K) → number j ≡ number k → changed number f k x j ≡ x
  changed_there f k x j e = ap (λ (b : Bool). cond b x (f j)) (eq-eqb (number j) (number k) e)

  pub changed_here : (f : K → A) (k : K) (x : A) → changed number f k x k ≡ x
  changed_here f k x = changed_there f k x k refl

  pub changed_else : (f : K → A) (k : K) (x : A) (j : K) → number j ≢ number k → changed number f k x j ≡ f j
  changed_else f k x j ne = ap (λ (b : Bool). cond b x (f j)) (ne_eqb (number j) (number k) ne)

  pub changed_cases : (f : K → A) (k : K) (x : A) (j : K) (y : A) → changed number f k x j ≡ y → ((number j ≡ number k) × (x ≡ y)) ⊎ ((number j ≢ number k) × (f j ≡ y))
  changed_cases f k x j y h =
      dite (ℕ_discrete (number j) (number k)) (λ e. inl (e, sym (changed_there f k x j e) ∙ h)) (λ ne. inr (ne, sym (changed_else f k x j ne) ∙ h))

pub some_none : (v : ℕ) → Some v ≡ None → ⊥
some_none v e = cc

pub none_if : (o : Option ℕ) → ((v : ℕ) → o ≡ Some v → ⊥) → o ≡ None
none_if None h = refl
none_if (Some v) h = absurd (h v refl)

pub is_worker_not : (w : ℕ) (o : Option ℕ) → o ≢ Some w → is_worker w o ≡ false
is_worker_not w None ne = refl
is_worker_not w (Some v) ne = ne_eqb v w (λ e. ne (ap Some e))

pub is_worker_here : (w : ℕ) (o : Option ℕ) → o ≡ Some w → is_worker w o ≡ true
is_worker_here w o e = ap (is_worker w) e ∙ eq-eqb w w refl

-- the holder of a strip once the worker w has let go
abbrev pub released : ℕ → Option ℕ → Option ℕ
released w o = cond (is_worker w o) None o

pub released_at : (w : ℕ) (o : Option ℕ) (v : ℕ) → released w o ≡ Some v → (o ≡ Some v) × (v ≢ w)
released_at w None v h = absurd (some_none v (sym h))
released_at w (Some u) v h = dite (ℕ_discrete u w)
    (λ e. absurd (some_none v (sym h ∙ ap (λ (b : Bool). let o : Option ℕ = cond b None (Some u) in o) (eq-eqb u w e))))
    (λ ne. let e : Some u ≡ Some v = sym (ap (λ (b : Bool). let o : Option ℕ = cond b None (Some u) in o) (ne_eqb u w ne)) ∙ h in (e, λ (vw : v ≡ w). ne (let uv : u ≡ v = cc in uv ∙ vw)))

pub released_else : (w : ℕ) (o : Option ℕ) (u : ℕ) → o ≡ Some u → u ≢ w → released w o ≡ Some u
released_else w o u e ne = ap (released w) e ∙ ap (λ (b : Bool). let o : Option ℕ = cond b None (Some u) in o) (ne_eqb u w ne)
