-- A Take is legal in the state that the board shows, and leads to the state after it.
use Rattle.std.proofs.Common.{◌≡◌, ◌≢◌, ℕ, ◌+◌, ◌*◌, ◌<◌, false, length, get_or, set, sym, refl, ap, ◌∙◌, subst, ⊎_elim, arith, length-set, get_or-set_same, get_or-set_other, Option, Some, None}
use mathlib.Core.Option as maybe
use mathlib.Core.Option.{some}
use lib.ListN.{get_elem?}
use Rattle.atomic_table.specs.Table.{State}
use Rattle.atomic_table.proofs.Lists.{set_else}
use Rattle.sgm_energy.specs.declared.dir.Dir.{Dir}
use Rattle.sgm_energy.specs.Dirs.{number_of, is_level, position_of, strip_at}
use Rattle.sgm_handover.specs.Handover.{Handover, next}
use Rattle.sgm_handover.specs.Events.{Legal, after}
use Rattle.sgm_handover.specs.declared.event.Event.TheVariants.{Take}
use Rattle.sgm_handover.proofs.Maps.{changed_cases, some_none}
use Rattle.sgm_board.specs.declared.view.About.{About}
use Rattle.sgm_board.specs.declared.view.View.{View}
use Rattle.sgm_board.specs.declared.slot.Slot.{Slot}
use Rattle.sgm_board.specs.Words.{dir_word, strip_word}
use Rattle.sgm_board.specs.Views.{after_look, after_try, after_take, has_read}
use Rattle.sgm_board.specs.Shows.{Shows, one_if_any, has_passed}
use Rattle.sgm_board.proofs.Numbered.{SamePass, live', numbers_set}
use Rattle.sgm_board.proofs.Strips.{strips_stay}
use Rattle.sgm_board.proofs.Fronts.{take-shown}
use Rattle.sgm_board.proofs.Due.{seen_set, due_same}
use Rattle.sgm_board.proofs.Homes.{parcel_stays, front_stays}
use Rattle.sgm_board.proofs.Dirs.{dir_word_lt, other_word, not_strip_word, position_lt, strip_at-position_of}
use Rattle.sgm_board.proofs.Looking.{moved, grows, abouts_set, has_none}

-- a word that is even is that of a front at home
even_case : (p q : ℕ) (o : Option ℕ) → 2 * p + one_if_any o ≡ 2 * q → (o ≡ None) × (p ≡ q)
even_case p q None e = (refl, omega arith)
even_case p q (Some k) e = absurd (omega arith)

module _ (about : About) (made : ℕ) (s : State Slot View) (m : Handover) (sh : Shows about made s m) (id : ℕ) (v : View) (at : get_elem? s.views id ≡ some v) where
  -- the word of the direction is twice the position of the strip that the pass shows
  pub take_law : (d : Dir) (t : ℕ) → is_level d ≡ false → v.strip ≡ Some t → v.front ≡ None → get_or s.words (dir_word d) 0 ≡ 2 * position_of d t m.strips
      → (Legal m (Take v.number d) × (m.passed d ≡ position_of d t m.strips))
      × Shows about made (moved about made s m sh id v at (dir_word d) (2 * position_of d t m.strips + 1) (set s.homes (dir_word d) maybe.none) (after_take (after_try (after_look v (dir_word d) (get_or s.words (dir_word d) 0)) t d) d)) (after m (Take v.number d))
  take_law d t level mine bare is =
      let f = dir_word d in
      let lf = dir_word_lt d in
      let was = get_or s.words f 0 in
      let pos = position_of d t m.strips in
      let x = 2 * pos + 1 in
      let w = after_take (after_try (after_look v f was) t d) d in
      let r : SamePass v w = record { number = refl; about = refl; gathered = refl } in
      let y = sh.strip_words.holds id t v at mine in
      let halves = even_case (m.passed d) pos (m.away d) (sym (sh.front_words.word d level) ∙ is) in
      let home : m.away d ≡ None = halves.0 in
      let there : m.passed d ≡ pos = halves.1 in
      let room : m.passed d < m.strips = subst (λ (k : ℕ). k < m.strips) (sym there) (position_lt d t m.strips y.0.0) in
      let back : next m d ≡ t = ap (λ (p : ℕ). strip_at d p m.strips) there ∙ strip_at-position_of d t m.strips y.0.0 in
      let long : f < length s.words = omega (arith, sh.words) in
      let homes = set s.homes f maybe.none in
      let strips = strips_stay m s.words s.views id v w (set s.words f x) (λ t'. get_or-set_other s.words f (strip_word t') x 0 (λ e. not_strip_word d t' (sym e))) at record { number = refl; strip = refl; alive = live' v w r } sh.strip_words in (
        ((level, (room, ap m.holder back ∙ y.0.1), home, has_none about made s m sh id v at y.1 bare), there),
        record {
          strips = sh.strips;
          words = length-set s.words f x ∙ sh.words;
          slots = length-set s.homes f maybe.none ∙ sh.slots;
          numbers = numbers_set made s.views id v w at r sh.numbers;
          abouts = abouts_set about made s m sh id v at w r;
          strip_words = record { word = strips.word; held = strips.held; holds = strips.holds };
          front_words = take-shown m s.words s.views id v w d x level long at y.1 bare home room (mine ∙ ap Some (sym back)) r refl refl (ap (λ (k : ℕ). 2 * k + 1) (sym there)) sh.front_words;
          seen = seen_set s.words (set s.words f x) s.views id v w f was refl (λ g lg. grows s.words f x (dir_word g) long (let q = is in omega arith)) (λ _. let e = get_or-set_same s.words f x 0 long in let q = is in omega arith) at sh.seen;
          due = due_same has_read m s.views id w (λ t' g e lg. sh.due id t' g v at e lg) sh.due;
          parcels = λ t' lt h. parcel_stays about s.homes homes t' (has_passed m t') (has_passed m t') (set_else s.homes f (strip_word t') maybe.none (λ e. not_strip_word d t' (sym e))) (λ g lg. refl) (sh.parcels t' lt h);
          fronts = λ g lg h. ⊎_elim (λ (x : (number_of g ≡ number_of d) × (Some v.number ≡ None)). absurd (some_none v.number x.1))
              (λ (x : (number_of g ≢ number_of d) × (m.away g ≡ None)). front_stays about s.homes homes g (m.passed g) (m.passed g) (set_else s.homes f (dir_word g) maybe.none (other_word g d lg level x.0)) refl (sh.fronts g lg x.1))
              (changed_cases number_of m.away d (Some v.number) g None h);
        },
      )
