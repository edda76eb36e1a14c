-- The words of the directions, over each kind of step.
use Rattle.std.proofs.Common.{◌≡◌, ◌≢◌, ℕ, ◌+◌, ◌*◌, ◌<◌, false, List, [], ◌∷◌, ◌++◌, length, get_or, set, sym, refl, ap, ◌∙◌, subst, ⊎_elim, arith, get_or-set_same, get_or-set_other, Option, Some, None}
use mathlib.Core.Logic.{dite}
use mathlib.Core.Option.{some}
use native.Mathlib.Decide.{ℕ_discrete}
use lib.ListN.{get_elem?}
use Rattle.atomic_table.proofs.Lists.{at_set, at_snoc}
use Rattle.sgm_energy.specs.declared.dir.Dir.{Dir}
use Rattle.sgm_energy.specs.Dirs.{number_of, is_level, strip_at}
use Rattle.sgm_handover.specs.Handover.{Handover, next}
use Rattle.sgm_handover.specs.Events.{after}
use Rattle.sgm_handover.specs.declared.event.Event.TheVariants.{Take, Put}
use Rattle.sgm_handover.proofs.Maps.{changed_there, changed_else, changed_cases, some_none}
use Rattle.sgm_energy.proofs.DirLemmas.{same_number}
use Rattle.sgm_board.specs.declared.view.View.{View}
use Rattle.sgm_board.specs.Tallies.{has}
use Rattle.sgm_board.specs.Words.{dir_word}
use Rattle.sgm_board.specs.Views.{IsLive}
use Rattle.sgm_board.specs.Shows.{Numbers, one_if_any, FrontsShown}
use Rattle.sgm_board.proofs.Lists.{pull, somewhere_set, somewhere_here, somewhere_push}
use Rattle.sgm_board.proofs.Numbered.{SamePass, live'}
use Rattle.sgm_board.proofs.Dirs.{other_word}

pub some_dir_none : (dir : Dir) → Some dir ≡ None → ⊥
some_dir_none dir e = cc

-- the same number and the same front, live if it was, and with the same strip where it has a front
pub record SameFront (v w : View) : Type 0 where
  pub number : w.number ≡ v.number
  pub front : w.front ≡ v.front
  pub alive : IsLive v → IsLive w
  pub strip : (dir : Dir) → v.front ≡ Some dir → w.strip ≡ v.strip

pub same_front : (v : View) → SameFront v v
same_front v = record { number = refl; front = refl; alive = λ h. h; strip = λ dir e. refl }

-- this pass shows the front of this direction
abbrev Shown : Dir → ℕ → View → Type 0
Shown dir worker v = (v.front ≡ Some dir) × (v.number ≡ worker)

module _ (m : Handover) (words : List ℕ) (vs : List View) (id : ℕ) (v w : View) where
  pub fronts_stay : (words' : List ℕ) → ((dir : Dir) → get_or words' (dir_word dir) 0 ≡ get_or words (dir_word dir) 0) → get_elem? vs id ≡ some v → SameFront v w → FrontsShown m words vs → FrontsShown m words' (set vs id w)
  fronts_stay words' same at r sh = record {
    word = λ f l. same f ∙ sh.word f l;
    out = λ f k l h. somewhere_set (Shown f k) (Shown f k) vs id v w at (λ t. (r.front ∙ t.0, r.number ∙ t.1)) (λ u t. t) (sh.out f k l h);
    has_it = λ j f d h e. let u = pull SameFront same_front vs id v w at r j d h in
        let e' = sym u.2.front ∙ e in
        let t = sh.has_it j f u.0 u.1 e' in
        (t.0, t.1 ∙ ap Some (sym u.2.number), u.2.alive t.2, u.2.strip f e' ∙ t.3, t.4);
  }

  pub fronts_idle : get_elem? vs id ≡ some v → v.front ≡ None → w.front ≡ None → FrontsShown m words vs → FrontsShown m words (set vs id w)
  fronts_idle at idle idle' sh = record {
    word = sh.word;
    out = λ f k l h. somewhere_set (Shown f k) (Shown f k) vs id v w at (λ t. absurd (some_dir_none f (sym t.0 ∙ idle))) (λ u t. t) (sh.out f k l h);
    has_it = λ j f d h e. ⊎_elim (λ (x : (j ≡ id) × (w ≡ d)). absurd (some_dir_none f (sym e ∙ (ap (λ (u : View). u.front) (sym x.1) ∙ idle')))) (λ (x : (j ≢ id) × (get_elem? vs j ≡ some d)). sh.has_it j f d x.1 e) (at_set vs id j w d h);
  }

  pub fronts_push : w.front ≡ None → FrontsShown m words vs → FrontsShown m words (vs ++ w ∷ [])
  fronts_push idle sh = record {
    word = sh.word;
    out = λ f k l h. somewhere_push (Shown f k) vs w (sh.out f k l h);
    has_it = λ j f d h e. ⊎_elim (λ (x : get_elem? vs j ≡ some d). sh.has_it j f d x e) (λ (x : w ≡ d). absurd (some_dir_none f (sym e ∙ (ap (λ (u : View). u.front) (sym x) ∙ idle)))) (at_snoc vs w d j h);
  }

  pub take-shown : (f : Dir) (x : ℕ) → is_level f ≡ false → dir_word f < length words → get_elem? vs id ≡ some v → IsLive v → v.front ≡ None → m.away f ≡ None → m.passed f < m.strips → v.strip ≡ Some (next m f) → SamePass v w → w.front ≡ Some f → w.strip ≡ v.strip
      → x ≡ 2 * m.passed f + 1 → FrontsShown m words vs → FrontsShown (after m (Take v.number f)) (set words (dir_word f) x) (set vs id w)
  take-shown f x lf long at lv free home room here r mine same is sh = record {
    word = λ g lg. dite (ℕ_discrete (number_of g) (number_of f))
        (λ e. let gf = same_number g f e in
        ap (λ (k : Dir). get_or (set words (dir_word f) x) (dir_word k) 0) gf ∙ (get_or-set_same words (dir_word f) x 0 long ∙ (is ∙ (λ i. 2 * m.passed (sym gf i) + one_if_any (sym (changed_there number_of m.away f (Some v.number) g e) i)))))
        (λ ne. get_or-set_other words (dir_word f) (dir_word g) x 0 (other_word g f lg lf ne) ∙ (sh.word g lg ∙ ap (λ (o : Option ℕ). 2 * m.passed g + one_if_any o) (sym (changed_else number_of m.away f (Some v.number) g ne))));
    out = λ g k lg h. ⊎_elim
        (λ (y : (number_of g ≡ number_of f) × (Some v.number ≡ Some k)). somewhere_here (Shown g k) vs id v w at (mine ∙ ap Some (sym (same_number g f y.0)), r.number ∙ (let e = y.1 in let q : v.number ≡ k = cc in q)))
        (λ (y : (number_of g ≢ number_of f) × (m.away g ≡ Some k)). somewhere_set (Shown g k) (Shown g k) vs id v w at (λ z. absurd (some_dir_none g (sym z.0 ∙ free))) (λ u z. z) (sh.out g k lg y.1))
        (changed_cases number_of m.away f (Some v.number) g (Some k) h);
    has_it = λ j g d h e. ⊎_elim
        (λ (y : (j ≡ id) × (w ≡ d)). let fg : Some f ≡ Some g = sym mine ∙ (ap (λ (u : View). u.front) y.1 ∙ e) in
        let gf : g ≡ f = (let q : f ≡ g = cc in sym q) in (
          ap is_level gf ∙ lf,
          changed_there number_of m.away f (Some v.number) g (ap number_of gf) ∙ ap Some (sym r.number ∙ ap (λ (u : View). u.number) y.1),
          subst IsLive y.1 (live' v w r lv),
          ap (λ (u : View). u.strip) (sym y.1) ∙ (same ∙ (here ∙ ap (λ (k : Dir). Some (next m k)) (sym gf))),
          subst (λ (k : Dir). m.passed k < m.strips) (sym gf) room,
        ))
        (λ (y : (j ≢ id) × (get_elem? vs j ≡ some d)). let z = sh.has_it j g d y.1 e in
        (z.0, changed_else number_of m.away f (Some v.number) g (λ gf. some_none d.number (sym z.1 ∙ (ap m.away (same_number g f gf) ∙ home))) ∙ z.1, z.2, z.3, z.4))
        (at_set vs id j w d h);
  }

  pub put-shown : (made : ℕ) (f : Dir) (x : ℕ) → Numbers made vs → dir_word f < length words → get_elem? vs id ≡ some v → v.front ≡ Some f → w.front ≡ None → x ≡ 2 * (m.passed f + 1) → FrontsShown m words vs
      → FrontsShown (after m (Put v.number f)) (set words (dir_word f) x) (set vs id w)
  put-shown made f x ns long at mine gone is sh =
      let own = sh.has_it id f v at mine in
      let p₁ = m.passed f + 1 in
      record {
        word = λ g lg. dite (ℕ_discrete (number_of g) (number_of f))
            (λ e. ap (λ (k : Dir). get_or (set words (dir_word f) x) (dir_word k) 0) (same_number g f e) ∙ (get_or-set_same words (dir_word f) x 0 long ∙ ((let q : x ≡ 2 * p₁ + 0 = omega arith in q)
            ∙ (λ i. 2 * sym (changed_there number_of m.passed f p₁ g e) i + one_if_any (sym (changed_there number_of m.away f None g e) i)))))
            (λ ne. get_or-set_other words (dir_word f) (dir_word g) x 0 (other_word g f lg own.0 ne) ∙ (sh.word g lg ∙ (λ i. 2 * sym (changed_else number_of m.passed f p₁ g ne) i + one_if_any (sym (changed_else number_of m.away f None g ne) i))));
        out = λ g k lg h. ⊎_elim (λ (y : (number_of g ≡ number_of f) × (None ≡ Some k)). absurd (some_none k (sym y.1)))
            (λ (y : (number_of g ≢ number_of f) × (m.away g ≡ Some k)). somewhere_set (Shown g k) (Shown g k) vs id v w at
            (λ z. let e : Some g ≡ Some f = sym z.0 ∙ mine in absurd (y.0 (ap number_of (let q : g ≡ f = cc in q)))) (λ u z. z) (sh.out g k lg y.1))
            (changed_cases number_of m.away f None g (Some k) h);
        has_it = λ j g d h e. ⊎_elim (λ (y : (j ≡ id) × (w ≡ d)). absurd (some_dir_none g (sym e ∙ (ap (λ (u : View). u.front) (sym y.1) ∙ gone))))
            (λ (y : (j ≢ id) × (get_elem? vs j ≡ some d)). let z = sh.has_it j g d y.1 e in
            let ne : number_of g ≢ number_of f = (λ gf. let dv : Some d.number ≡ Some v.number = sym z.1 ∙ (ap m.away (same_number g f gf) ∙ own.1) in
            let q : d.number ≡ v.number = cc in y.0 (ns.once j id d.number d v y.1 at z.2 (ap (has v.gathered) q ∙ own.2))) in (
              z.0,
              changed_else number_of m.away f None g ne ∙ z.1,
              z.2,
              subst (λ (p : ℕ). d.strip ≡ Some (strip_at g p m.strips)) (sym (changed_else number_of m.passed f p₁ g ne)) z.3,
              subst (λ (p : ℕ). p < m.strips) (sym (changed_else number_of m.passed f p₁ g ne)) z.4,
            ))
            (at_set vs id j w d h);
      }
