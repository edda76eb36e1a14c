-- Lists of events, from the first one on and with one more at the end.
use Rattle.std.proofs.Common.{◌≡◌, ℕ, ◌+◌, ◌<◌, ◌≤◌, inl, inr, suc, List, [], ◌∷◌, length, take, get_or, Option, sym, ap, ◌∙◌, subst, arith}
use Rattle.std.specs.Prelude.{IfSome}
use Rattle.std.proofs.lemmas.Bool.{cases_lt}
use Rattle.std.proofs.lemmas.Option.{slice_get-get_or}
use Rattle.std.proofs.lemmas.List.Sums.{fold_more}
use Rattle.sgm_handover.specs.Handover.{Handover, Sound}
use Rattle.sgm_handover.specs.Events.{Legal, after, run, LegalAt, AllLegal, FirstIllegal}
use Rattle.sgm_handover.specs.declared.event.Event.{Event}
use Rattle.sgm_handover.proofs.Soundness.{after-sound}

pub first_legal : (m : Handover) (e : Event) (es : List Event) → AllLegal m (e ∷ es) → Legal m e
first_legal m e es l = l 0 (omega arith)

pub rest_legal : (m : Handover) (e : Event) (es : List Event) → AllLegal m (e ∷ es) → AllLegal (after m e) es
rest_legal m e es l k h = l (suc k) (omega arith)

pub run-sound : (m : Handover) (es : List Event) → AllLegal m es → Sound m → Sound (run m es)
run-sound m [] l r = r
run-sound m (e ∷ es) l r = run-sound (after m e) es (rest_legal m e es l) (after-sound m e (first_legal m e es l) r)

pub one_refusal : (m : Handover) (es : List Event) (a b : ℕ) → FirstIllegal m es a → FirstIllegal m es b → a ≡ b
one_refusal m es a b fa fb = elim (cases_lt a b) [
  | inl l ↦ absurd (fa.illegal (fb.earlier a l))
  | inr l ↦ elim (cases_lt b a) [ inl l' ↦ absurd (fb.illegal (fa.earlier b l')) | inr l' ↦ omega arith ]
]

pub legal_here : (m s : Handover) (es : List Event) (k : ℕ) (d : Event) → k < length es → s ≡ run m (take k es) → Legal s (get_or es k d) → LegalAt m es k
legal_here m s es k d h e l =
    subst (λ (o : Option Event). IfSome o (Legal (run m (take k es)))) (sym (slice_get-get_or es k d h)) (subst (λ (t : Handover). Legal t (get_or es k d)) e l)

pub first_illegal : (m s : Handover) (es : List Event) (k : ℕ) (d : Event) → k < length es → s ≡ run m (take k es) → ¬ Legal s (get_or es k d) → ((j : ℕ) → j < k → LegalAt m es j) → FirstIllegal m es k
first_illegal m s es k d h e not earlier = record {
  inside = h;
  illegal = λ l. not (subst (λ (t : Handover). Legal t (get_or es k d)) (sym e) (subst (λ (o : Option Event). IfSome o (Legal (run m (take k es)))) (slice_get-get_or es k d h) l));
  earlier = earlier;
}

pub run_more : (m s t : Handover) (es : List Event) (k : ℕ) (d : Event) → k < length es → s ≡ run m (take k es) → t ≡ after s (get_or es k d) → t ≡ run m (take (k + 1) es)
run_more m s t es k d h e l = l ∙ ap (λ (r : Handover). after r (get_or es k d)) e ∙ sym (fold_more after m es k d h)

pub all_legal : (m : Handover) (es : List Event) (n : ℕ) → length es ≤ n → ((k : ℕ) → k < n → LegalAt m es k) → AllLegal m es
all_legal m es n h l k hk = l k (omega arith)
