-- What passes have seen of the words, and what they know of the parcels held, over a step.
use Rattle.std.proofs.Common.{◌≡◌, ◌≢◌, ℕ, ◌<◌, ◌≤◌, Bool, false, ◌&&◌, List, [], ◌∷◌, ◌++◌, get_or, set, sym, refl, ap, ◌∙◌, subst, ⊎_elim, arith, Some, None}
use mathlib.Core.Logic.{dite}
use mathlib.Core.Option.{some}
use native.Mathlib.Decide.{ℕ_discrete}
use lib.ListN.{get_elem?}
use Rattle.atomic_table.proofs.Lists.{at_set, at_snoc}
use Rattle.sgm_energy.specs.declared.dir.Dir.{Dir}
use Rattle.sgm_energy.specs.Dirs.{is_level}
use Rattle.sgm_handover.specs.Handover.{Handover}
use Rattle.sgm_handover.proofs.Maps.{some_none}
use Rattle.sgm_board.specs.declared.view.View.{View}
use Rattle.sgm_board.specs.Tallies.{put_at}
use Rattle.sgm_board.specs.Words.{dir_word}
use Rattle.sgm_board.specs.Views.{is_known_done}
use Rattle.sgm_board.specs.Shows.{SeenBelow, KnowsDue, has_passed}
use Rattle.sgm_board.proofs.Tallies.{put_at_here, put_at_else}
use Rattle.sgm_board.proofs.Dirs.{dir_word_lt}

module _ (words words' : List ℕ) (vs : List View) (id : ℕ) (v w : View) where
  -- one look at the word i, which was x, at a step after which no direction's word is less
  pub seen_set : (i x : ℕ) → w.seen ≡ put_at v.seen i x → ((dir : Dir) → is_level dir ≡ false → get_or words (dir_word dir) 0 ≤ get_or words' (dir_word dir) 0) → (i < 6 → x ≤ get_or words' i 0) → get_elem? vs id ≡ some v → SeenBelow words vs → SeenBelow words' (set vs id w)
  seen_set i x is up now at sb j dir d h l = let f = dir_word dir in ⊎_elim
      (λ (y : (j ≡ id) × (w ≡ d)). subst (λ (u : View). get_or u.seen f 0 ≤ get_or words' f 0) y.1 (subst (λ (xs : List ℕ). get_or xs f 0 ≤ get_or words' f 0) (sym is)
      (dite (ℕ_discrete f i)
      (λ e. subst (λ (k : ℕ). get_or (put_at v.seen i x) k 0 ≤ get_or words' k 0) (sym e) (subst (λ (k : ℕ). k ≤ get_or words' i 0) (sym (put_at_here v.seen i x)) (now (subst (λ (k : ℕ). k < 6) e (dir_word_lt dir)))))
      (λ ne. let a = put_at_else v.seen i f x ne in let b = sb id dir v at l in let c = up dir l in subst (λ (k : ℕ). k ≤ get_or words' f 0) (sym a) (omega arith)))))
      (λ (y : (j ≢ id) × (get_elem? vs j ≡ some d)). let b = sb j dir d y.1 l in let c = up dir l in omega arith)
      (at_set vs id j w d h)

  pub seen_else : ((dir : Dir) → is_level dir ≡ false → get_or w.seen (dir_word dir) 0 ≤ get_or words (dir_word dir) 0) → SeenBelow words vs → SeenBelow words (set vs id w)
  seen_else own sb j dir d h l = ⊎_elim (λ (y : (j ≡ id) × (w ≡ d)). subst (λ (u : View). get_or u.seen (dir_word dir) 0 ≤ get_or words (dir_word dir) 0) y.1 (own dir l)) (λ (y : (j ≢ id) × (get_elem? vs j ≡ some d)). sb j dir d y.1 l) (at_set vs id j w d h)

  pub seen_push : ((dir : Dir) → is_level dir ≡ false → get_or w.seen (dir_word dir) 0 ≤ get_or words (dir_word dir) 0) → SeenBelow words vs → SeenBelow words (vs ++ w ∷ [])
  seen_push own sb j dir d h l = ⊎_elim (λ (y : get_elem? vs j ≡ some d). sb j dir d y l) (λ (y : w ≡ d). subst (λ (u : View). get_or u.seen (dir_word dir) 0 ≤ get_or words (dir_word dir) 0) y (own dir l)) (at_snoc vs w d j h)

module _ (mask : View → Dir → Bool) (m : Handover) (vs : List View) (id : ℕ) (w : View) where
  -- the pass w knows what is due by the state m'
  abbrev pub Own : Handover → Type 0
  Own m' = (s : ℕ) (dir : Dir) → w.strip ≡ Some s → is_level dir ≡ false → (mask w dir && is_known_done w dir) ≡ (mask w dir && has_passed m' s dir)

  pub due_set : (m' : Handover) → Own m' → ((j s : ℕ) (dir : Dir) (u : View) → j ≢ id → get_elem? vs j ≡ some u → u.strip ≡ Some s → is_level dir ≡ false → has_passed m' s dir ≡ has_passed m s dir)
      → KnowsDue mask m vs → KnowsDue mask m' (set vs id w)
  due_set m' own others ds j s dir d h e l = ⊎_elim
      (λ (y : (j ≡ id) × (w ≡ d)). subst (λ (u : View). (mask u dir && is_known_done u dir) ≡ (mask u dir && has_passed m' s dir)) y.1 (own s dir (ap (λ (u : View). u.strip) y.1 ∙ e) l))
      (λ (y : (j ≢ id) × (get_elem? vs j ≡ some d)). ds j s dir d y.1 e l ∙ ap (λ (b : Bool). mask d dir && b) (sym (others j s dir d y.0 y.1 e l)))
      (at_set vs id j w d h)

  pub due_same : Own m → KnowsDue mask m vs → KnowsDue mask m (set vs id w)
  due_same own ds = due_set m own (λ j s dir u ne h e l. refl) ds

  pub due_push : w.strip ≡ None → KnowsDue mask m vs → KnowsDue mask m (vs ++ w ∷ [])
  due_push idle ds j s dir d h e l = ⊎_elim (λ (y : get_elem? vs j ≡ some d). ds j s dir d y e l) (λ (y : w ≡ d). absurd (some_none s (sym e ∙ (ap (λ (u : View). u.strip) (sym y) ∙ idle)))) (at_snoc vs w d j h)
