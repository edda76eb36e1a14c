-- The words of the strips, over each kind of step.
use Rattle.std.proofs.Common.{◌≡◌, ◌≢◌, ℕ, ◌<◌, Bool, cond, List, [], ◌∷◌, ◌++◌, length, get_or, set, sym, refl, ap, ◌∙◌, subst, ⊎_elim, arith, get_or-set_same, get_or-set_other, Option, Some, None}
use mathlib.Core.Logic.{dite}
use mathlib.Core.Option.{some}
use native.Mathlib.Decide.{ℕ_discrete}
use lib.ListN.{get_elem?}
use Rattle.atomic_table.proofs.Lists.{at_set, at_snoc}
use Rattle.sgm_handover.specs.Handover.{Handover}
use Rattle.sgm_handover.specs.Events.{Legal, after}
use Rattle.sgm_handover.specs.declared.event.Event.TheVariants.{Claim, Return}
use Rattle.sgm_handover.proofs.Maps.{changed_there, changed_else, changed_cases, some_none, released, released_at, released_else, is_worker_here}
use Rattle.sgm_board.specs.declared.view.View.{View}
use Rattle.sgm_board.specs.Tallies.{has}
use Rattle.sgm_board.specs.Words.{strip_word}
use Rattle.sgm_board.specs.Views.{IsLive}
use Rattle.sgm_board.specs.Shows.{Numbers, one_if_any, StripsShown}
use Rattle.sgm_board.proofs.Lists.{pull, somewhere_set, somewhere_here, somewhere_push}
use Rattle.sgm_board.proofs.Numbered.{SamePass, live', one_pass}

pub none_if_zero : (o : Option ℕ) → one_if_any o ≡ 0 → o ≡ None
none_if_zero None e = refl
none_if_zero (Some v) e = absurd (omega arith)

pub one_if_not_zero : (o : Option ℕ) → one_if_any o ≢ 0 → one_if_any o ≡ 1
one_if_not_zero None ne = absurd (ne refl)
one_if_not_zero (Some v) ne = refl

-- the same number and the same strip, and live if it was
pub record SameStrip (v w : View) : Type 0 where
  pub number : w.number ≡ v.number
  pub strip : w.strip ≡ v.strip
  pub alive : IsLive v → IsLive w

pub same_strip : (v : View) → SameStrip v v
same_strip v = record { number = refl; strip = refl; alive = λ h. h }

-- this pass shows this strip
abbrev Shown : ℕ → ℕ → View → Type 0
Shown strip worker v = (v.strip ≡ Some strip) × (v.number ≡ worker)

module _ (m : Handover) (words : List ℕ) (vs : List View) (id : ℕ) (v w : View) where
  -- a step that leaves what the passes hold
  pub strips_stay : (words' : List ℕ) → ((s : ℕ) → get_or words' (strip_word s) 0 ≡ get_or words (strip_word s) 0) → get_elem? vs id ≡ some v → SameStrip v w → StripsShown m words vs → StripsShown m words' (set vs id w)
  strips_stay words' same at r sh = record {
    word = λ s l. same s ∙ sh.word s l;
    held = λ s k l h. somewhere_set (Shown s k) (Shown s k) vs id v w at (λ t. (r.strip ∙ t.0, r.number ∙ t.1)) (λ u t. t) (sh.held s k l h);
    holds = λ j s d h e. let u = pull SameStrip same_strip vs id v w at r j d h in let t = sh.holds j s u.0 u.1 (sym u.2.strip ∙ e) in ((t.0.0, t.0.1 ∙ ap Some (sym u.2.number)), u.2.alive t.1);
  }

  -- a pass that holds nothing becomes another such
  pub strips_idle : get_elem? vs id ≡ some v → v.strip ≡ None → w.strip ≡ None → StripsShown m words vs → StripsShown m words (set vs id w)
  strips_idle at idle idle' sh = record {
    word = sh.word;
    held = λ s k l h. somewhere_set (Shown s k) (Shown s k) vs id v w at (λ t. absurd (some_none s (sym t.0 ∙ idle))) (λ u t. t) (sh.held s k l h);
    holds = λ j s d h e. ⊎_elim (λ (x : (j ≡ id) × (w ≡ d)). absurd (some_none s (sym e ∙ (ap (λ (u : View). u.strip) (sym x.1) ∙ idle')))) (λ (x : (j ≢ id) × (get_elem? vs j ≡ some d)). sh.holds j s d x.1 e) (at_set vs id j w d h);
  }

  pub strips_push : w.strip ≡ None → StripsShown m words vs → StripsShown m words (vs ++ w ∷ [])
  strips_push idle sh = record {
    word = sh.word;
    held = λ s k l h. somewhere_push (Shown s k) vs w (sh.held s k l h);
    holds = λ j s d h e. ⊎_elim (λ (x : get_elem? vs j ≡ some d). sh.holds j s d x e) (λ (x : w ≡ d). absurd (some_none s (sym e ∙ (ap (λ (u : View). u.strip) (sym x) ∙ idle)))) (at_snoc vs w d j h);
  }

  pub claim-legal : (made : ℕ) → Numbers made vs → (s : ℕ) → s < m.strips → get_elem? vs id ≡ some v → IsLive v → v.strip ≡ None → get_or words (strip_word s) 0 ≡ 0 → StripsShown m words vs → Legal m (Claim v.number s)
  claim-legal made ns s l at lv free zero sh = (
    l,
    none_if_zero (m.holder s) (sym (sh.word s l) ∙ zero),
    λ t lt e. let x = sh.held t v.number lt e in
        let y = sh.holds x.0 t x.1 x.2 x.3.0 in
        let same : x.1 ≡ v = one_pass made vs ns x.0 id x.1 v x.2 at y.1 lv x.3.1 in
        some_none t (sym x.3.0 ∙ (ap (λ (u : View). u.strip) same ∙ free)),
  )

  pub claim-shown : (s : ℕ) → strip_word s < length words → s < m.strips → get_elem? vs id ≡ some v → IsLive v → v.strip ≡ None → m.holder s ≡ None → SamePass v w → w.strip ≡ Some s → StripsShown m words vs
      → StripsShown (after m (Claim v.number s)) (set words (strip_word s) 1) (set vs id w)
  claim-shown s long l at lv free none r mine sh = let number : ℕ → ℕ = λ n. n in record {
    word = λ t lt. dite (ℕ_discrete t s)
        (λ e. ap (λ (k : ℕ). get_or (set words (strip_word s) 1) (strip_word k) 0) e ∙ (get_or-set_same words (strip_word s) 1 0 long ∙ ap one_if_any (sym (changed_there number m.holder s (Some v.number) t e))))
        (λ ne. get_or-set_other words (strip_word s) (strip_word t) 1 0 (λ e. ne (omega arith)) ∙ (sh.word t lt ∙ ap one_if_any (sym (changed_else number m.holder s (Some v.number) t ne))));
    held = λ t k lt h. ⊎_elim
        (λ (x : (t ≡ s) × (Some v.number ≡ Some k)). somewhere_here (Shown t k) vs id v w at (mine ∙ ap Some (sym x.0), r.number ∙ (let e = x.1 in let q : v.number ≡ k = cc in q)))
        (λ (x : (t ≢ s) × (m.holder t ≡ Some k)). somewhere_set (Shown t k) (Shown t k) vs id v w at (λ y. absurd (some_none t (sym y.0 ∙ free))) (λ u y. y) (sh.held t k lt x.1))
        (changed_cases number m.holder s (Some v.number) t (Some k) h);
    holds = λ j t d h e. ⊎_elim
        (λ (x : (j ≡ id) × (w ≡ d)). let st : Some s ≡ Some t = sym mine ∙ (ap (λ (u : View). u.strip) x.1 ∙ e) in
        let ts : t ≡ s = (let q : s ≡ t = cc in sym q) in
        ((subst (λ (k : ℕ). k < m.strips) (sym ts) l, changed_there number m.holder s (Some v.number) t ts ∙ ap Some (sym r.number ∙ ap (λ (u : View). u.number) x.1)), subst IsLive x.1 (live' v w r lv)))
        (λ (x : (j ≢ id) × (get_elem? vs j ≡ some d)). let y = sh.holds j t d x.1 e in
        ((y.0.0, changed_else number m.holder s (Some v.number) t (λ ts. some_none d.number (sym y.0.1 ∙ (ap m.holder ts ∙ none))) ∙ y.0.1), y.1))
        (at_set vs id j w d h);
  }

  -- the pass that shows a strip is the only one of its number
  pub return-shown : (made : ℕ) → Numbers made vs → (s : ℕ) → strip_word s < length words → get_elem? vs id ≡ some v → v.strip ≡ Some s → SamePass v w → w.strip ≡ None → StripsShown m words vs
      → StripsShown (after m (Return v.number)) (set words (strip_word s) 0) (set vs id w)
  return-shown made ns s long at has_it r gone sh = let y = sh.holds id s v at has_it in record {
    word = λ t lt. dite (ℕ_discrete t s)
        (λ e. ap (λ (k : ℕ). get_or (set words (strip_word s) 0) (strip_word k) 0) e ∙ (get_or-set_same words (strip_word s) 0 0 long ∙ ap one_if_any (sym (freed t e y.0.1))))
        (λ ne. get_or-set_other words (strip_word s) (strip_word t) 0 0 (λ e. ne (omega arith)) ∙ (sh.word t lt ∙ ap one_if_any (sym (others t lt ne))));
    held = λ t k lt h. let z = released_at v.number (m.holder t) k h in
        somewhere_set (Shown t k) (Shown t k) vs id v w at (λ x. absurd (z.1 (sym x.1))) (λ u x. x) (sh.held t k lt z.0);
    holds = λ j t d h e. ⊎_elim
        (λ (x : (j ≡ id) × (w ≡ d)). absurd (some_none t (sym e ∙ (ap (λ (u : View). u.strip) (sym x.1) ∙ gone))))
        (λ (x : (j ≢ id) × (get_elem? vs j ≡ some d)). let z = sh.holds j t d x.1 e in
        ((z.0.0, released_else v.number (m.holder t) d.number z.0.1 (λ same. x.0 (ns.once j id d.number d v x.1 at z.1 (ap (has v.gathered) same ∙ y.1)))), z.1))
        (at_set vs id j w d h);
  }
    where
      freed : (t : ℕ) → t ≡ s → m.holder s ≡ Some v.number → released v.number (m.holder t) ≡ None
      freed t e h = ap (released v.number) (ap m.holder e ∙ h) ∙ ap (λ (b : Bool). let o : Option ℕ = cond b None (Some v.number) in o) (is_worker_here v.number (Some v.number) refl)

      kept : (t : ℕ) → t < m.strips → t ≢ s → (o : Option ℕ) → m.holder t ≡ o → released v.number o ≡ o
      kept t lt ne None h = refl
      kept t lt ne (Some k) h = released_else v.number (Some k) k refl
          (λ e. let x = sh.held t k lt h in
          let z = sh.holds x.0 t x.1 x.2 x.3.0 in
          let y = sh.holds id s v at has_it in
          let same : x.1 ≡ v = one_pass made vs ns x.0 id x.1 v x.2 at z.1 y.1 (x.3.1 ∙ e) in
          let st : Some t ≡ Some s = sym x.3.0 ∙ (ap (λ (u : View). u.strip) same ∙ has_it) in
          ne (let q : t ≡ s = cc in q))

      others : (t : ℕ) → t < m.strips → t ≢ s → released v.number (m.holder t) ≡ m.holder t
      others t lt ne = kept t lt ne (m.holder t) refl
