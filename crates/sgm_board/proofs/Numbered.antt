-- The numbers gathered, over a step that leaves them as they are.
use Rattle.std.proofs.Common.{◌≡◌, ℕ, ◌<◌, true, List, set, sym, refl, ap, ◌∙◌, subst}
use mathlib.Core.Option.{some}
use lib.ListN.{get_elem?}
use Rattle.sgm_board.specs.declared.view.View.{View}
use Rattle.sgm_board.specs.Tallies.{has}
use Rattle.sgm_board.specs.Views.{IsLive}
use Rattle.sgm_board.specs.Shows.{Somewhere, Numbers}
use Rattle.std.proofs.Common.{◌≢◌, ◌⊎◌, [], ◌∷◌, ◌++◌, length, ⊎_elim, inl, inr}
use mathlib.Core.Logic.{dite}
use native.Mathlib.Decide.{ℕ_discrete}
use Rattle.atomic_table.proofs.Lists.{at_set, set_else, at_longer}
use Rattle.sgm_board.proofs.Tallies.{false_true, has-append, has-append_left, has-append_right}
use Rattle.sgm_board.proofs.Lists.{pull, at_same, set_at, somewhere_set, Origin, other, first, new, origin, at_new}

-- the same pass: its number, its board, and the numbers gathered
pub record SamePass (v w : View) : Type 0 where
  pub number : w.number ≡ v.number
  pub about : w.about ≡ v.about
  pub gathered : w.gathered ≡ v.gathered

pub same_pass : (v : View) → SamePass v v
same_pass v = record { number = refl; about = refl; gathered = refl }

pub live : (v w : View) → SamePass v w → IsLive w → IsLive v
live v w r h = (λ i. has (sym r.gathered i) (sym r.number i)) ∙ h

pub live' : (v w : View) → SamePass v w → IsLive v → IsLive w
live' v w r h = (λ i. has (r.gathered i) (r.number i)) ∙ h

pub numbers_set : (made : ℕ) (vs : List View) (id : ℕ) (v w : View) → get_elem? vs id ≡ some v → SamePass v w → Numbers made vs → Numbers made (set vs id w)
numbers_set made vs id v w at r ns = record {
  below = λ j k d h g. let u = pull SamePass same_pass vs id v w at r j d h in ns.below j k u.0 u.1 (ap (λ (xs : List ℕ). has xs k) (sym u.2.gathered) ∙ g);
  once = λ i j k d e hd he gd ge. let u = pull SamePass same_pass vs id v w at r i d hd in let t = pull SamePass same_pass vs id v w at r j e he in
      ns.once i j k u.0 t.0 u.1 t.1 (ap (λ (xs : List ℕ). has xs k) (sym u.2.gathered) ∙ gd) (ap (λ (xs : List ℕ). has xs k) (sym t.2.gathered) ∙ ge);
  all = λ k l. somewhere_set (λ u. has u.gathered k ≡ true) (λ u. has u.gathered k ≡ true) vs id v w at (λ h. ap (λ (xs : List ℕ). has xs k) r.gathered ∙ h) (λ u h. h) (ns.all k l);
  live = λ j k d h g. let u = pull SamePass same_pass vs id v w at r j d h in live' u.0 d u.2 (ns.live j k u.0 u.1 (ap (λ (xs : List ℕ). has xs k) (sym u.2.gathered) ∙ g));
}

-- two live passes of one number are one
pub one_pass : (made : ℕ) (vs : List View) → Numbers made vs → (i j : ℕ) (v u : View) → get_elem? vs i ≡ some v → get_elem? vs j ≡ some u → IsLive v → IsLive u → v.number ≡ u.number → v ≡ u
one_pass made vs ns i j v u hv hu lv lu e = at_same vs i j v u hv hu (ns.once i j v.number v u hv hu lv (ap (has u.gathered) e ∙ lu))

-- a pass whose numbers are dealt out to two
module _ (made : ℕ) (vs : List View) (id : ℕ) (v l r : View) (from_l : (w : ℕ) → has l.gathered w ≡ true → has v.gathered w ≡ true) (from_r : (w : ℕ) → has r.gathered w ≡ true → has v.gathered w ≡ true)
    (apart : (w : ℕ) → has l.gathered w ≡ true → has r.gathered w ≡ true → ⊥) (to : (w : ℕ) → has v.gathered w ≡ true → (has l.gathered w ≡ true) ⊎ (has r.gathered w ≡ true))
    (alive_l : IsLive l) (alive_r : IsLive r) where
  pub numbers_split : get_elem? vs id ≡ some v → Numbers made vs → Numbers made (set vs id l ++ r ∷ [])
  numbers_split at ns = record {
    below = λ j w d h g. below j w d (origin vs id l r j d h) g;
    once = λ i j w d e hd he gd ge. once i j w d e (origin vs id l r i d hd) (origin vs id l r j e he) gd ge;
    all = λ w lt. found w (ns.all w lt);
    live = λ j w d h g. alive j w d (origin vs id l r j d h) g;
  }
    where
      alive : (j w : ℕ) (d : View) → Origin vs id l r j d → has d.gathered w ≡ true → IsLive d
      alive j w d (other ne h) g = ns.live j w d h g
      alive j w d (first e is) g = subst IsLive is alive_l
      alive j w d (new e is) g = subst IsLive is alive_r

      at_l : (w : ℕ) (d : View) → l ≡ d → has d.gathered w ≡ true → has l.gathered w ≡ true
      at_l w d is g = ap (λ (u : View). has u.gathered w) is ∙ g

      at_r : (w : ℕ) (d : View) → r ≡ d → has d.gathered w ≡ true → has r.gathered w ≡ true
      at_r w d is g = ap (λ (u : View). has u.gathered w) is ∙ g

      below : (j w : ℕ) (d : View) → Origin vs id l r j d → has d.gathered w ≡ true → w < made
      below j w d (other ne h) g = ns.below j w d h g
      below j w d (first e is) g = ns.below id w v at (from_l w (at_l w d is g))
      below j w d (new e is) g = ns.below id w v at (from_r w (at_r w d is g))

      once : (i j w : ℕ) (d e : View) → Origin vs id l r i d → Origin vs id l r j e → has d.gathered w ≡ true → has e.gathered w ≡ true → i ≡ j
      once i j w d e (other ni hi) (other nj hj) gd ge = ns.once i j w d e hi hj gd ge
      once i j w d e (other ni hi) (first ej isj) gd ge = absurd (ni (ns.once i id w d v hi at gd (from_l w (at_l w e isj ge))))
      once i j w d e (other ni hi) (new ej isj) gd ge = absurd (ni (ns.once i id w d v hi at gd (from_r w (at_r w e isj ge))))
      once i j w d e (first ei isi) (other nj hj) gd ge = absurd (nj (ns.once j id w e v hj at ge (from_l w (at_l w d isi gd))))
      once i j w d e (first ei isi) (first ej isj) gd ge = ei ∙ sym ej
      once i j w d e (first ei isi) (new ej isj) gd ge = absurd (apart w (at_l w d isi gd) (at_r w e isj ge))
      once i j w d e (new ei isi) (other nj hj) gd ge = absurd (nj (ns.once j id w e v hj at ge (from_r w (at_r w d isi gd))))
      once i j w d e (new ei isi) (first ej isj) gd ge = absurd (apart w (at_l w e isj ge) (at_r w d isi gd))
      once i j w d e (new ei isi) (new ej isj) gd ge = ei ∙ sym ej

      found : (w : ℕ) → Somewhere vs (λ u. has u.gathered w ≡ true) → Somewhere (set vs id l ++ r ∷ []) (λ u. has u.gathered w ≡ true)
      found w (j, u, h, g) = dite (ℕ_discrete j id)
          (λ e. ⊎_elim (λ (x : has l.gathered w ≡ true). (id, l, at_longer (set vs id l) (r ∷ []) id l (set_at vs id v l at), x)) (λ (x : has r.gathered w ≡ true). (length vs, r, at_new vs id l r, x))
          (to w (ap (λ (z : View). has z.gathered w) (sym (at_same vs j id u v h at e)) ∙ g)))
          (λ ne. (j, u, at_longer (set vs id l) (r ∷ []) j u (set_else vs id j l ne ∙ h), g))

module _ (made : ℕ) (vs : List View) (id at_ : ℕ) (v w both none : View) where
  abbrev Joined : List View
  Joined = set (set vs id both) at_ none

  -- where a view stands that a join left
  old : (j : ℕ) (d : View) → ¬ (at_ ≡ id) → get_elem? Joined j ≡ some d → ((j ≡ at_) × (none ≡ d)) ⊎ (((j ≡ id) × (both ≡ d)) ⊎ ((j ≢ id) × (j ≢ at_) × (get_elem? vs j ≡ some d)))
  old j d ne h = ⊎_elim (λ (t : (j ≡ at_) × (none ≡ d)). inl t)
      (λ (t : (j ≢ at_) × (get_elem? (set vs id both) j ≡ some d)). inr (⊎_elim (λ (x : (j ≡ id) × (both ≡ d)). inl x) (λ (x : (j ≢ id) × (get_elem? vs j ≡ some d)). inr (x.0, t.0, x.1)) (at_set vs id j both d t.1)))
      (at_set (set vs id both) at_ j none d h)

  -- whose number it was
  whose : (j k : ℕ) (d : View) → ¬ (at_ ≡ id) → get_elem? vs id ≡ some v → get_elem? vs at_ ≡ some w → both.gathered ≡ v.gathered ++ w.gathered → none.gathered ≡ [] → get_elem? Joined j ≡ some d → has d.gathered k ≡ true
      → ((j ≡ id) × ((i : ℕ) × (u : View) × (get_elem? vs i ≡ some u) × (has u.gathered k ≡ true) × ((i ≡ id) ⊎ (i ≡ at_)))) ⊎ ((j ≢ id) × (j ≢ at_) × (get_elem? vs j ≡ some d))
  whose j k d ne hv hw bg ng h g = ⊎_elim
      (λ (t : (j ≡ at_) × (none ≡ d)). absurd (false_true (ap (λ (xs : List ℕ). has xs k) (sym ng) ∙ (ap (λ (u : View). has u.gathered k) t.1 ∙ g))))
      (λ (t : ((j ≡ id) × (both ≡ d)) ⊎ ((j ≢ id) × (j ≢ at_) × (get_elem? vs j ≡ some d))). ⊎_elim
      (λ (x : (j ≡ id) × (both ≡ d)). inl (
        x.0,
        ⊎_elim (λ (y : has v.gathered k ≡ true). (id, v, hv, y, inl refl)) (λ (y : has w.gathered k ≡ true). (at_, w, hw, y, inr refl))
            (has-append v.gathered w.gathered k (ap (λ (xs : List ℕ). has xs k) (sym bg) ∙ (ap (λ (u : View). has u.gathered k) x.1 ∙ g))),
      ))
      (λ (x : (j ≢ id) × (j ≢ at_) × (get_elem? vs j ≡ some d)). inr x) t)
      (old j d ne h)

  pub numbers_join : ¬ (at_ ≡ id) → get_elem? vs id ≡ some v → get_elem? vs at_ ≡ some w → both.gathered ≡ v.gathered ++ w.gathered → none.gathered ≡ [] → IsLive both → Numbers made vs → Numbers made Joined
  numbers_join ne hv hw bg ng alive ns = record {
    below = λ j k d h g. ⊎_elim (λ x. let t = x.1 in ns.below t.0 k t.1 t.2 t.3) (λ (x : (j ≢ id) × (j ≢ at_) × (get_elem? vs j ≡ some d)). ns.below j k d x.2 g) (whose j k d ne hv hw bg ng h g);
    once = λ i j k d e hd he gd ge. ⊎_elim
        (λ x. ⊎_elim (λ y. x.0 ∙ sym y.0)
        (λ (y : (j ≢ id) × (j ≢ at_) × (get_elem? vs j ≡ some e)). let t = x.1 in let same = ns.once j t.0 k e t.1 y.2 t.2 ge t.3 in absurd (⊎_elim (λ (z : t.0 ≡ id). y.0 (same ∙ z)) (λ (z : t.0 ≡ at_). y.1 (same ∙ z)) t.4))
        (whose j k e ne hv hw bg ng he ge))
        (λ (x : (i ≢ id) × (i ≢ at_) × (get_elem? vs i ≡ some d)). ⊎_elim
        (λ y. let t = y.1 in let same = ns.once i t.0 k d t.1 x.2 t.2 gd t.3 in absurd (⊎_elim (λ (z : t.0 ≡ id). x.0 (same ∙ z)) (λ (z : t.0 ≡ at_). x.1 (same ∙ z)) t.4))
        (λ (y : (j ≢ id) × (j ≢ at_) × (get_elem? vs j ≡ some e)). ns.once i j k d e x.2 y.2 gd ge) (whose j k e ne hv hw bg ng he ge))
        (whose i k d ne hv hw bg ng hd gd);
    all = λ k lt. found k (ns.all k lt);
    live = λ j k d h g. ⊎_elim (λ (t : (j ≡ at_) × (none ≡ d)). absurd (false_true (ap (λ (xs : List ℕ). has xs k) (sym ng) ∙ (ap (λ (u : View). has u.gathered k) t.1 ∙ g))))
        (λ (t : ((j ≡ id) × (both ≡ d)) ⊎ ((j ≢ id) × (j ≢ at_) × (get_elem? vs j ≡ some d))). ⊎_elim (λ (x : (j ≡ id) × (both ≡ d)). subst IsLive x.1 alive)
        (λ (x : (j ≢ id) × (j ≢ at_) × (get_elem? vs j ≡ some d)). ns.live j k d x.2 g) t)
        (old j d ne h);
  }
    where
      found : (k : ℕ) → Somewhere vs (λ u. has u.gathered k ≡ true) → Somewhere Joined (λ u. has u.gathered k ≡ true)
      found k (j, u, h, g) = dite (ℕ_discrete j id)
          (λ e. (id, both, set_else (set vs id both) at_ id none (λ x. ne (sym x)) ∙ set_at vs id v both hv, ap (λ (xs : List ℕ). has xs k) bg ∙ has-append_left v.gathered w.gathered k (ap (λ (z : View). has z.gathered k) (sym (at_same vs j id u v h hv e)) ∙ g)))
          (λ nid. dite (ℕ_discrete j at_)
          (λ e. (id, both, set_else (set vs id both) at_ id none (λ x. ne (sym x)) ∙ set_at vs id v both hv, ap (λ (xs : List ℕ). has xs k) bg ∙ has-append_right v.gathered w.gathered k (ap (λ (z : View). has z.gathered k) (sym (at_same vs j at_ u w h hw e)) ∙ g)))
          (λ nat. (j, u, set_else (set vs id both) at_ j none nat ∙ (set_else vs id j both nid ∙ h), g)))
