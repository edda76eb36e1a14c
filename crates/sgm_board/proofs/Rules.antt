-- Looks, and the making and joining of passes, keep the rule.
use Rattle.std.proofs.Common.{◌≡◌, ◌≢◌, ℕ, suc, ◌+◌, ◌*◌, ◌<◌, ◌≤◌, Bool, true, false, ◌&&◌, ◌==◌, List, [], ◌∷◌, get_or, set, sym, refl, ap, ◌∙◌, subst, ⊎_elim, inl, inr, arith, eqb-true, eq-eqb, Some, None}
use mathlib.Core.Option as maybe
use mathlib.Core.Option.{some}
use lib.ListN.{get_elem?}
use Rattle.atomic_table.specs.Table.{State, step, keeps, Allows, Splits, Joins}
use Rattle.atomic_table.proofs.Lists.{at_set, set_else}
use Rattle.sgm_energy.specs.declared.dir.Dir.{Dir}
use Rattle.sgm_handover.specs.Handover.{Handover}
use Rattle.sgm_handover.proofs.Maps.{some_none}
use Rattle.sgm_handover.proofs.Dirs.{dir_of}
use Rattle.sgm_board.specs.declared.view.About.{About}
use Rattle.sgm_board.specs.declared.view.View.{View}
use Rattle.sgm_board.specs.declared.slot.Slot.{Slot}
use Rattle.sgm_board.specs.Tallies.{has, count_up}
use Rattle.sgm_board.specs.Words.{dir_word}
use Rattle.sgm_board.specs.Views.{IsLive, new_view, spent, dealer, kept_view, dealt_view, joined_view, after_look, after_read, has_read}
use Rattle.sgm_board.specs.Shows.{Shows, Rule}
use Rattle.sgm_board.specs.Plays.{Known, IsWithin, look_told, read_told}
use Rattle.sgm_board.proofs.Tallies.{false_true, or_cases, or_left, or_right, has-append_left, has-count_up, get-greater}
use Rattle.sgm_board.proofs.Lists.{Origin, other, first, new, origin}
use Rattle.sgm_board.proofs.Numbered.{numbers_split, numbers_join}
use Rattle.sgm_board.proofs.Strips.{strips_stay, strips_idle, strips_push}
use Rattle.sgm_board.proofs.Fronts.{fronts_stay, fronts_idle, fronts_push}
use Rattle.sgm_board.proofs.Due.{seen_else, seen_push, due_same, due_push}
use Rattle.sgm_board.proofs.Soundness.{word_bound}
use Rattle.sgm_board.proofs.Looking.{look_law}

-- what a pass knows of every direction is said of all of them
abbrev pub all : View → Dir → Bool
all _ _ = true

module _ (about : About) (made : ℕ) where
  -- the word of a direction is at most twice the number of strips, as the pass knows them
  pub within : (s : State Slot View) (m : Handover) → Shows about made s m → (id i : ℕ) (v : View) → i < 6 → IsLive v → get_elem? s.views id ≡ some v → IsWithin v (get_or s.words i 0)
  within s m sh id i v short lv at it is =
      let both : Some about ≡ Some it = sym (sh.abouts id v at lv) ∙ is in
      let same : about ≡ it = cc in
      let strips : m.strips ≡ it.cut.strips = sh.strips ∙ ap (λ (a : About). a.cut.strips) same in
      let dir = dir_of i short in
      let bound = subst (λ (k : ℕ). get_or s.words k 0 ≤ 2 * m.strips) dir.2 (word_bound about made s m sh dir.0 dir.1) in omega arith

  pub looks : (slots id : ℕ) (me : Known) (i : ℕ) → i < 6 → IsLive me.0 → Allows (Rule about made) slots id me i (λ n. n) (look_told (step slots i 0 0 maybe.none) me)
  looks slots id me i short lv s (m, sh, kn) deep at fits =
      let v = me.0 in
      let w = after_look v i (get_or s.words i 0) in (
        w,
        keeps,
        tt,
        (m, look_law about made s m sh id v at i w record { number = refl; about = refl; gathered = refl } refl refl refl (λ t f e l. sh.due id t f v at e l), due_same all m s.views id w (λ t f e l. kn id t f v at e l) kn),
        (refl, within s m sh id i v short lv at),
      )

  pub reads : (slots id : ℕ) (me : Known) (i : ℕ) → i < 6 → IsLive me.0 → Allows (Rule about made) slots id me i (λ n. n) (read_told (step slots i 0 0 maybe.none) me)
  reads slots id me i short lv s (m, sh, kn) deep at fits =
      let v = me.0 in
      let w = after_read (after_look v i (get_or s.words i 0)) i in (
        w,
        keeps,
        tt,
        (m, look_law about made s m sh id v at i w record { number = refl; about = refl; gathered = refl } refl refl refl (λ t f e l. ap (λ (b : Bool). has_read w f && b) (kn id t f v at e l)), due_same all m s.views id w (λ t f e l. kn id t f v at e l) kn),
        (refl, within s m sh id i v short lv at),
      )

  origin_about : (vs : List View) (id : ℕ) (l r : View) (j : ℕ) (d : View) → ((i : ℕ) (u : View) → get_elem? vs i ≡ some u → IsLive u → u.about ≡ Some about) → l.about ≡ Some about → r.about ≡ Some about → Origin vs id l r j d → IsLive d → d.about ≡ Some about
  origin_about vs id l r j d h hl hr (other ne g) ld = h j d g ld
  origin_about vs id l r j d h hl hr (first e is) ld = ap (λ (u : View). u.about) (sym is) ∙ hl
  origin_about vs id l r j d h hl hr (new e is) ld = ap (λ (u : View). u.about) (sym is) ∙ hr

  only_number : (k w : ℕ) → has (k ∷ []) w ≡ true → k ≡ w
  only_number k w h = ⊎_elim (λ (e : (k == w) ≡ true). eqb-true k w e) (λ (e : false ≡ true). absurd (false_true e)) (or_cases (k == w) false h)

  -- the first of the numbers stays
  pub deals : (id k c : ℕ) → Splits (Rule about made) id (dealer about k (suc (suc c))) (kept_view (dealer about k (suc (suc c)))) (dealt_view (dealer about k (suc (suc c))))
  deals id k c s (m, sh, kn) at =
      let v = dealer about k (suc (suc c)) in
      let l = new_view (Some about) k (k ∷ []) in
      let r = dealer about (k + 1) (suc c) in
      let vs = set s.views id l in
      let alive_l : IsLive l = or_left (k == k) false (eq-eqb k k refl) in
      let alive_r : IsLive r = or_left (k + 1 == k + 1) (has (count_up (k + 1 + 1) c) (k + 1)) (eq-eqb (k + 1) (k + 1) refl) in (
        m,
        record {
          strips = sh.strips;
          words = sh.words;
          slots = sh.slots;
          numbers = numbers_split made s.views id v l r
              (λ w h. or_left (k == w) (has (count_up (k + 1) (suc c)) w) (eq-eqb k w (only_number k w h)))
              (λ w h. or_right (k == w) (has (count_up (k + 1) (suc c)) w) h)
              (λ w h g. let e = only_number k w h in let t = has-count_up (k + 1) (suc c) w g in absurd (omega arith))
              (λ w h. ⊎_elim (λ (e : (k == w) ≡ true). inl (or_left (k == w) false e)) (λ (e : has (count_up (k + 1) (suc c)) w ≡ true). inr e) (or_cases (k == w) (has (count_up (k + 1) (suc c)) w) h))
              alive_l alive_r at sh.numbers;
          abouts = λ j d h ld. origin_about s.views id l r j d sh.abouts refl refl (origin s.views id l r j d h) ld;
          strip_words = strips_push m s.words vs id v r refl (strips_stay m s.words s.views id v l s.words (λ t. refl) at record { number = refl; strip = refl; alive = λ _. alive_l } sh.strip_words);
          front_words = fronts_push m s.words vs id v r refl (fronts_stay m s.words s.views id v l s.words (λ f. refl) at record { number = refl; front = refl; alive = λ _. alive_l; strip = λ f e. refl } sh.front_words);
          seen = seen_push s.words s.words vs id v r (λ f lf. omega arith) (seen_else s.words s.words s.views id v l (λ f lf. omega arith) sh.seen);
          due = due_push has_read m vs id r refl (due_same has_read m s.views id l (λ t f e lf. absurd (some_none t (sym e))) sh.due);
          parcels = sh.parcels;
          fronts = sh.fronts;
        },
        due_push all m vs id r refl (due_same all m s.views id l (λ t f e lf. absurd (some_none t (sym e))) kn),
      )

  pub gathers : (id : ℕ) (v : View) (by : ℕ) (w : View) → IsLive v → v.strip ≡ None → v.front ≡ None → w.strip ≡ None → w.front ≡ None → Joins (Rule about made) id v by w (joined_view v w) spent
  gathers id v by w lv idle bare idle' bare' s (m, sh, kn) at ne at' =
      let both = joined_view v w in
      let was = sym (set_else s.views id by both ne) ∙ at' in
      let vs = set s.views id both in
      let alive : IsLive both = has-append_left v.gathered w.gathered v.number lv in (
        m,
        record {
          strips = sh.strips;
          words = sh.words;
          slots = sh.slots;
          numbers = numbers_join made s.views id by v w both spent ne at was refl refl alive sh.numbers;
          abouts = λ j d h ld. ⊎_elim (λ (x : (j ≡ by) × (spent ≡ d)). absurd (false_true (subst IsLive (sym x.1) ld)))
              (λ (x : (j ≢ by) × (get_elem? vs j ≡ some d)). ⊎_elim (λ (y : (j ≡ id) × (both ≡ d)). ap (λ (u : View). u.about) (sym y.1) ∙ sh.abouts id v at lv) (λ (y : (j ≢ id) × (get_elem? s.views j ≡ some d)). sh.abouts j d y.1 ld) (at_set s.views id j both d x.1))
              (at_set vs by j spent d h);
          strip_words = strips_idle m s.words vs by w spent at' idle' refl (strips_stay m s.words s.views id v both s.words (λ t. refl) at record { number = refl; strip = refl; alive = λ _. alive } sh.strip_words);
          front_words = fronts_idle m s.words vs by w spent at' bare' refl (fronts_stay m s.words s.views id v both s.words (λ f. refl) at record { number = refl; front = refl; alive = λ _. alive; strip = λ f e. refl } sh.front_words);
          seen = seen_else s.words s.words vs by w spent (λ f lf. omega arith) (seen_else s.words s.words s.views id v both
              (λ f lf. let a = get-greater v.seen w.seen (dir_word f) in let b = sh.seen id f v at lf in let c = sh.seen by f w was lf in omega arith) sh.seen);
          due = due_same has_read m vs by spent (λ t f e lf. absurd (some_none t (sym e))) (due_same has_read m s.views id both (λ t f e lf. absurd (some_none t (sym e ∙ idle))) sh.due);
          parcels = sh.parcels;
          fronts = sh.fronts;
        },
        due_same all m vs by spent (λ t f e lf. absurd (some_none t (sym e))) (due_same all m s.views id both (λ t f e lf. absurd (some_none t (sym e ∙ idle))) kn),
      )
