-- A step that leaves its word shows the same state. What the steps that change a word have in common.
use Rattle.std.proofs.Common.{◌≡◌, ℕ, ◌<◌, ◌≤◌, List, length, get_or, set, sym, ap, ◌∙◌, subst, arith, length-set, get_or-set_same, get_or-set_other, Some, None}
use mathlib.Core.Logic.{dite}
use mathlib.Core.Option as maybe
use mathlib.Core.Option.{some}
use native.Mathlib.Decide.{ℕ_discrete}
use lib.ListN.{get_elem?}
use lib.Seq.{set-get_or}
use Rattle.atomic_table.specs.Table.{State}
use Rattle.sgm_energy.specs.declared.dir.Dir.{Dir}
use Rattle.sgm_handover.specs.Handover.{Handover, next, HasNoFront}
use Rattle.sgm_handover.proofs.Maps.{some_none}
use Rattle.sgm_board.specs.declared.view.About.{About}
use Rattle.sgm_board.specs.declared.view.View.{View}
use Rattle.sgm_board.specs.declared.slot.Slot.{Slot}
use Rattle.sgm_board.specs.Tallies.{put_at}
use Rattle.sgm_board.specs.Words.{dir_word, strip_word}
use Rattle.sgm_board.specs.Views.{IsLive, has_read}
use Rattle.sgm_board.specs.Shows.{Shows}
use Rattle.sgm_board.proofs.Lists.{pull}
use Rattle.sgm_board.proofs.Numbered.{SamePass, same_pass, live, live', numbers_set, one_pass}
use Rattle.sgm_board.proofs.Strips.{strips_stay}
use Rattle.sgm_board.proofs.Fronts.{fronts_stay, some_dir_none}
use Rattle.sgm_board.proofs.Due.{seen_set, Own, due_same}

-- a word that grows, and no other changed
pub grows : (words : List ℕ) (f x g : ℕ) → f < length words → get_or words f 0 ≤ x → get_or words g 0 ≤ get_or (set words f x) g 0
grows words f x g long up = dite (ℕ_discrete g f)
    (λ e. subst (λ (k : ℕ). get_or words k 0 ≤ get_or (set words f x) k 0) (sym e) (let q = get_or-set_same words f x 0 long in omega arith))
    (λ ne. let q = get_or-set_other words f g x 0 ne in omega arith)

module _ (about : About) (made : ℕ) (s : State Slot View) (m : Handover) (sh : Shows about made s m) (id : ℕ) (v : View) (at : get_elem? s.views id ≡ some v) where
  -- the word i is now x, the slots these, and the pass knows w
  abbrev pub moved : ℕ → ℕ → List (maybe.Option Slot) → View → State Slot View
  moved i x homes w = record { words = set s.words i x; homes = homes; views = set s.views id w }

  abbrev pub found_at : ℕ → ℕ
  found_at i = get_or s.words i 0

  pub abouts_set : (w : View) → SamePass v w → (j : ℕ) (d : View) → get_elem? (set s.views id w) j ≡ some d → IsLive d → d.about ≡ Some about
  abouts_set w r j d hd ld = let u = pull SamePass same_pass s.views id v w at r j d hd in u.2.about ∙ sh.abouts j u.0 u.1 (live u.0 d u.2 ld)

  same_value : (i f : ℕ) → get_or (set s.words i (found_at i)) f 0 ≡ get_or s.words f 0
  same_value i f = ap (λ (ws : List ℕ). get_or ws f 0) (set-get_or s.words i 0)

  -- a step that leaves the word i, and of which the pass learns what it saw
  pub look_law : (i : ℕ) (w : View) → SamePass v w → w.strip ≡ v.strip → w.front ≡ v.front → w.seen ≡ put_at v.seen i (found_at i) → Own has_read m s.views id w m → Shows about made (moved i (found_at i) s.homes w) m
  look_law i w r strip front seen own = record {
    strips = sh.strips;
    words = length-set s.words i (found_at i) ∙ sh.words;
    slots = sh.slots;
    numbers = numbers_set made s.views id v w at r sh.numbers;
    abouts = abouts_set w r;
    strip_words = strips_stay m s.words s.views id v w (set s.words i (found_at i)) (λ t. same_value i (strip_word t)) at record { number = r.number; strip = strip; alive = live' v w r } sh.strip_words;
    front_words = fronts_stay m s.words s.views id v w (set s.words i (found_at i)) (λ f. same_value i (dir_word f)) at record { number = r.number; front = front; alive = live' v w r; strip = λ f e. strip } sh.front_words;
    seen = seen_set s.words (set s.words i (found_at i)) s.views id v w i (found_at i) seen (λ f l. let e = same_value i (dir_word f) in omega arith) (λ l. let e = same_value i i in omega arith) at sh.seen;
    due = due_same has_read m s.views id w own sh.due;
    parcels = sh.parcels;
    fronts = sh.fronts;
  }

  -- who holds no strip has no front
  pub no_front : v.strip ≡ None → (f : Dir) → v.front ≡ Some f → ⊥
  no_front idle f e = some_none (next m f) (sym (sh.front_words.has_it id f v at e).3 ∙ idle)

  -- a pass that shows no front has none in the state
  pub has_none : IsLive v → v.front ≡ None → HasNoFront m v.number
  has_none lv bare g lg e =
      let x = sh.front_words.out g v.number lg e in
      let z = sh.front_words.has_it x.0 g x.1 x.2 x.3.0 in
      let same : x.1 ≡ v = one_pass made s.views sh.numbers x.0 id x.1 v x.2 at z.2 lv x.3.1 in
      some_dir_none g (sym x.3.0 ∙ (ap (λ (u : View). u.front) same ∙ bare))
