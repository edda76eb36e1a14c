-- Each legal event keeps the state sound.
use Rattle.std.proofs.Common.{◌≡◌, ◌≢◌, ℕ, ◌+◌, ◌<◌, ◌≤◌, false, sym, ap, ◌∙◌, subst, ⊎_elim, arith, Some, None}
use mathlib.Core.Logic.{dite}
use native.Mathlib.Decide.{ℕ_discrete}
use Rattle.sgm_energy.specs.declared.dir.Dir.{Dir}
use Rattle.sgm_energy.specs.Dirs.{number_of, is_level, strip_at}
use Rattle.sgm_handover.specs.Handover.{Handover, fresh, next, HoldsNext, Sound}
use Rattle.sgm_handover.specs.Events.{Legal, after, GoesOn}
use Rattle.sgm_handover.specs.declared.event.Event.{Event}
use Rattle.sgm_handover.specs.declared.event.Event.TheVariants.{Claim, Take, Put, Return}
use Rattle.sgm_handover.proofs.Maps.{changed_there, changed_here, changed_else, changed_cases, some_none, none_if, released_at, released_else}
use Rattle.sgm_energy.proofs.DirLemmas.{same_number, strip_inside}

pub fresh-sound : (n : ℕ) → Sound (fresh n)
fresh-sound n = record {
  in_range = λ dir _. omega arith;
  one_strip = λ a b w ha _. absurd (some_none w (sym ha.1));
  one_front = λ a b w _ _ ha _. absurd (some_none w (sym ha));
  beside = λ dir w _ h. absurd (some_none w (sym h));
}

claim-sound : (m : Handover) (w s : ℕ) → Legal m (Claim w s) → Sound m → Sound (after m (Claim w s))
claim-sound m w s l r =
    let number : ℕ → ℕ = λ n. n in
    record {
      in_range = r.in_range;
      one_strip = λ a b v ha hb. ⊎_elim
          (λ (x : (a ≡ s) × (Some w ≡ Some v)). ⊎_elim (λ (y : (b ≡ s) × (Some w ≡ Some v)). x.0 ∙ sym y.0) (λ (y : (b ≢ s) × (m.holder b ≡ Some v)). absurd (l.2 b hb.0 (y.1 ∙ sym x.1))) (changed_cases number m.holder s (Some w) b (Some v) hb.1))
          (λ (x : (a ≢ s) × (m.holder a ≡ Some v)). ⊎_elim (λ (y : (b ≡ s) × (Some w ≡ Some v)). absurd (l.2 a ha.0 (x.1 ∙ sym y.1))) (λ (y : (b ≢ s) × (m.holder b ≡ Some v)). r.one_strip a b v (ha.0, x.1) (hb.0, y.1)) (changed_cases number m.holder s (Some w) b (Some v) hb.1))
          (changed_cases number m.holder s (Some w) a (Some v) ha.1);
      one_front = r.one_front;
      beside = λ dir v level h. let b = r.beside dir v level h in (b.0, changed_else number m.holder s (Some w) (next m dir) (λ e. some_none v (sym b.1 ∙ ap m.holder e ∙ l.1)) ∙ b.1);
    }

take-sound : (m : Handover) (w : ℕ) (d : Dir) → Legal m (Take w d) → Sound m → Sound (after m (Take w d))
take-sound m w d l r = record {
  in_range = r.in_range;
  one_strip = r.one_strip;
  one_front = λ a b v la lb ha hb. ⊎_elim
      (λ (x : (number_of a ≡ number_of d) × (Some w ≡ Some v)). ⊎_elim (λ (y : (number_of b ≡ number_of d) × (Some w ≡ Some v)). same_number a b (x.0 ∙ sym y.0)) (λ (y : (number_of b ≢ number_of d) × (m.away b ≡ Some v)). absurd (l.3 b lb (y.1 ∙ sym x.1))) (changed_cases number_of m.away d (Some w) b (Some v) hb))
      (λ (x : (number_of a ≢ number_of d) × (m.away a ≡ Some v)). ⊎_elim (λ (y : (number_of b ≡ number_of d) × (Some w ≡ Some v)). absurd (l.3 a la (x.1 ∙ sym y.1))) (λ (y : (number_of b ≢ number_of d) × (m.away b ≡ Some v)). r.one_front a b v la lb x.1 y.1) (changed_cases number_of m.away d (Some w) b (Some v) hb))
      (changed_cases number_of m.away d (Some w) a (Some v) ha);
  beside = λ dir v level h. ⊎_elim
      (λ (x : (number_of dir ≡ number_of d) × (Some w ≡ Some v)). subst (λ (e : Dir). HoldsNext m v e) (sym (same_number dir d x.0)) (l.1.0, l.1.1 ∙ x.1))
      (λ (x : (number_of dir ≢ number_of d) × (m.away dir ≡ Some v)). r.beside dir v level x.1)
      (changed_cases number_of m.away d (Some w) dir (Some v) h);
}

put-sound : (m : Handover) (w : ℕ) (d : Dir) → Legal m (Put w d) → Sound m → Sound (after m (Put w d))
put-sound m w d l r =
    let b₀ = r.beside d w l.0 l.1 in
    let p₁ = m.passed d + 1 in
    record {
      in_range = λ dir level. dite (ℕ_discrete (number_of dir) (number_of d))
          (λ e. subst (λ (p : ℕ). p ≤ m.strips) (sym (changed_there number_of m.passed d p₁ dir e)) (omega arith))
          (λ ne. subst (λ (p : ℕ). p ≤ m.strips) (sym (changed_else number_of m.passed d p₁ dir ne)) (r.in_range dir level));
      one_strip = r.one_strip;
      one_front = λ a b v la lb ha hb. ⊎_elim (λ (x : (number_of a ≡ number_of d) × (None ≡ Some v)). absurd (some_none v (sym x.1)))
          (λ (x : (number_of a ≢ number_of d) × (m.away a ≡ Some v)). ⊎_elim (λ (y : (number_of b ≡ number_of d) × (None ≡ Some v)). absurd (some_none v (sym y.1))) (λ (y : (number_of b ≢ number_of d) × (m.away b ≡ Some v)). r.one_front a b v la lb x.1 y.1) (changed_cases number_of m.away d None b (Some v) hb))
          (changed_cases number_of m.away d None a (Some v) ha);
      beside = λ dir v level h. ⊎_elim (λ (x : (number_of dir ≡ number_of d) × (None ≡ Some v)). absurd (some_none v (sym x.1)))
          (λ (x : (number_of dir ≢ number_of d) × (m.away dir ≡ Some v)). subst (λ (p : ℕ). (p < m.strips) × (m.holder (strip_at dir p m.strips) ≡ Some v)) (sym (changed_else number_of m.passed d p₁ dir x.0)) (r.beside dir v level x.1))
          (changed_cases number_of m.away d None dir (Some v) h);
    }

return-sound : (m : Handover) (w : ℕ) → Legal m (Return w) → Sound m → Sound (after m (Return w))
return-sound m w l r = record {
  in_range = r.in_range;
  one_strip = λ a b v ha hb. r.one_strip a b v (ha.0, (released_at w (m.holder a) v ha.1).0) (hb.0, (released_at w (m.holder b) v hb.1).0);
  one_front = r.one_front;
  beside = λ dir v level h. let b = r.beside dir v level h in (b.0, released_else w (m.holder (next m dir)) v b.1 (λ e. l.1 dir level (h ∙ ap Some e)));
}

pub after-sound : (m : Handover) (e : Event) → Legal m e → Sound m → Sound (after m e)
after-sound m (Claim w s) l r = claim-sound m w s l r
after-sound m (Take w d) l r = take-sound m w d l r
after-sound m (Put w d) l r = put-sound m w d l r
after-sound m (Return w) l r = return-sound m w l r

-- where no strip is held no front is away
none_away : (m : Handover) → Sound m → ((strip : ℕ) → strip < m.strips → m.holder strip ≡ None) → (dir : Dir) (v : ℕ) → is_level dir ≡ false → m.away dir ≡ Some v → ⊥
none_away m r none dir v level h = let b = r.beside dir v level h in some_none v (sym b.1 ∙ none (next m dir) (strip_inside dir (m.passed dir) m.strips b.0))

pub goes_on : (m : Handover) → Sound m → GoesOn m
goes_on m r none dir w level room =
    let s = next m dir in
    let ls = strip_inside dir (m.passed dir) m.strips room in
    let number : ℕ → ℕ = λ n. n in (
      (ls, none s ls, λ t lt e. some_none w (sym e ∙ none t lt)),
      (level, (room, changed_here number m.holder s (Some w)), none_if (m.away dir) (λ v e. none_away m r none dir v level e), λ other lo e. none_away m r none other w lo e),
    )
