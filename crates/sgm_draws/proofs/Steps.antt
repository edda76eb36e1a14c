-- The steps of tickets keep the rule.
use Rattle.std.proofs.Common.{◌≡◌, ◌≢◌, ℕ, ◌+◌, ◌<◌, ◌≤◌, ◌⊎◌, Bool, true, false, cond, leb, min, [], ◌∷◌, length, set, length-set, get_or-set_same, sym, refl, ap, ◌∙◌, inl, inr, ⊎_elim, arith}
use mathlib.Core.Option.{some}
use lib.ListN.{get_elem?}
use Rattle.std.specs.List.{All, sum_by}
use Rattle.std.proofs.lemmas.List.Elements.{All-set}
use Rattle.std.proofs.lemmas.List.Sums.{sum_by-le-sum_by}
use Rattle.atomic_table.specs.Table.{State}
use Rattle.atomic_table.proofs.Lists.{at_set}
use Rattle.sgm_draws.specs.declared.view.View.{View}
use Rattle.sgm_draws.specs.Numbers.{times, once_below, IsEachOnce}
use Rattle.sgm_draws.specs.Views.{IsLive, spent, after_draw, after_end}
use Rattle.sgm_draws.specs.Rules.{Rule, gathered_at_end, word_of}
use Rattle.sgm_draws.specs.Plays.{HasAllOf}
use Rattle.sgm_draws.proofs.Sums.{at_all, all_at, all_weaker, moved, one_of, two_of, all_zero}
use Rattle.sgm_draws.proofs.Numbers.{times_append, times_short, once_inside, once_most, once_more}

abbrev pub Table : Type 0
Table = State (Unit {0}) View

part : (b : Bool) (n : ℕ) → cond b n 0 ≤ n
part true n = omega arith
part false n = omega arith

pub end_yes : (count : ℕ) (v : View) → count ≤ v.seen → gathered_at_end count v ≡ length v.gathered
end_yes count v l = grind arith

pub end_no : (count : ℕ) (v : View) → v.seen < count → gathered_at_end count v ≡ 0
end_no count v l = grind arith

module _ (count made : ℕ) where
  abbrev pub IsTicket : View → Type 0
  IsTicket v = (v ≡ spent) ⊎ IsLive count made v

  module _ (s : Table) (r : Rule count made s) where
    pub bounded : word_of s ≤ count + made
    bounded =
        let q = sum_by-le-sum_by (gathered_at_end count) (λ v. length v.gathered) s.views (λ v. part (leb count v.seen) (length v.gathered)) in
        let a = r.all in
        let p = r.past in
        omega arith

    -- a ticket that has gathered all numbers of tickets has drawn what is drawn: every other one is spent
    module _ (id : ℕ) (v : View) (at : get_elem? s.views id ≡ some v) (live : IsLive count made v) (all : HasAllOf v) where
      alone : (j : ℕ) (u : View) → j ≢ id → get_elem? s.views j ≡ some u → IsTicket u → u ≡ spent
      alone j u ne at' (inl e) = e
      alone j u ne at' (inr l) =
          let g = λ (w : View). times w.gathered u.number in
          let own = l.own in
          let total = r.gathered u.number in
          let here = one_of g s.views j u at' in
          let below : u.number < made = once_inside made u.number (omega arith) in
          let mine = all u.number (let m = live.of_made in omega arith) in
          let both = two_of g spent refl s.views id j v u ne at at' in
          let most = once_most made u.number in
          absurd (omega arith)

      nothing : (n : ℕ) (j : ℕ) (u : View) → get_elem? (set s.views id spent) j ≡ some u → times u.drawn n ≡ 0
      nothing n j u h = ⊎_elim
          (λ (t : (j ≡ id) × (spent ≡ u)). ap (λ (w : View). times w.drawn n) (sym t.1))
          (λ (t : (j ≢ id) × (get_elem? s.views j ≡ some u)). ap (λ (w : View). times w.drawn n) (alone j u t.0 t.1 (at_all IsTicket s.views j u r.tickets t.1)))
          (at_set s.views id j spent u h)

      pub drawn_all : count ≤ word_of s → IsEachOnce count v.drawn
      drawn_all past n =
          let g = λ (w : View). times w.drawn n in
          let q = moved g s.views id v spent at in
          let z = all_zero g (set s.views id spent) (all_at (λ w. g w ≡ 0) (set s.views id spent) (nothing n)) in
          let d = r.drawn n in
          let m : min (word_of s) count ≡ count = omega arith in
          let e = ap (λ (k : ℕ). once_below k n) m in
          omega arith

    module _ (id : ℕ) (v : View) (at : get_elem? s.views id ≡ some v) (live : IsLive count made v) where
      abbrev next : View → ℕ → Table
      next w x = record { words = set s.words 0 x; homes = s.homes; views = set s.views id w }

      word_next : (w : View) (x : ℕ) → word_of (next w x) ≡ x
      word_next w x = get_or-set_same s.words 0 x 0 (let o = r.one_word in omega arith)

      unmoved : (g : View → ℕ) (w : View) → g w ≡ g v → sum_by g (set s.views id w) ≡ sum_by g s.views
      unmoved g w e = let q = moved g s.views id v w at in omega arith

      seen_next : (w : View) (x : ℕ) → word_of s ≤ x → w.seen ≤ x → All (λ u. u.seen ≤ word_of (next w x)) (set s.views id w)
      seen_next w x up l =
          let e = word_next w x in
          All-set (λ u. u.seen ≤ word_of (next w x)) s.views id w (omega arith)
          (all_weaker (λ u. u.seen ≤ word_of s) (λ u. u.seen ≤ word_of (next w x)) s.views (λ u h. omega arith) r.seen)

      pub drew : v.seen < count → word_of s < count → Rule count made (next (after_draw v (word_of s)) (word_of s + 1))
      drew below l =
          let f = word_of s in
          let w = after_draw v f in
          let e = word_next w (f + 1) in record {
            one_word = length-set s.words 0 (f + 1) ∙ r.one_word;
            tickets = All-set IsTicket s.views id w (inr record { of_count = live.of_count; of_made = live.of_made; own = live.own }) r.tickets;
            drawn = λ n.
                let q = moved (λ (u : View). times u.drawn n) s.views id v w at in
                let a = times_append v.drawn (f ∷ []) n in
                let d = r.drawn n in
                let m = ap (λ (k : ℕ). once_below k n) (let i : min f count ≡ f = omega arith in i) in
                let m' = ap (λ (k : ℕ). once_below k n) (let i : min (word_of (next w (f + 1))) count ≡ f + 1 = omega arith in i) in
                let more = once_more f n in
                omega arith;
            gathered = λ n. unmoved (λ (u : View). times u.gathered n) w refl ∙ r.gathered n;
            all = unmoved (λ (u : View). length u.gathered) w refl ∙ r.all;
            seen = seen_next w (f + 1) (omega arith) (omega arith);
            past = omega arith;
          }

      pub ended : v.seen < count → count ≤ word_of s → Rule count made (next (after_end v (word_of s)) (word_of s + 1))
      ended below l =
          let f = word_of s in
          let w = after_end v f in
          let e = word_next w (f + 1) in record {
            one_word = length-set s.words 0 (f + 1) ∙ r.one_word;
            tickets = All-set IsTicket s.views id w (inr record { of_count = live.of_count; of_made = live.of_made; own = live.own }) r.tickets;
            drawn = λ n.
                let u = unmoved (λ (u : View). times u.drawn n) w refl in
                let d = r.drawn n in
                let m = ap (λ (k : ℕ). once_below k n) (let i : min f count ≡ min (word_of (next w (f + 1))) count = omega arith in i) in
                omega arith;
            gathered = λ n. unmoved (λ (u : View). times u.gathered n) w refl ∙ r.gathered n;
            all = unmoved (λ (u : View). length u.gathered) w refl ∙ r.all;
            seen = seen_next w (f + 1) (omega arith) (omega arith);
            past =
                let q = moved (gathered_at_end count) s.views id v w at in
                let no = end_no count v below in
                let yes = end_yes count w l in
                let own = live.own in
                let some_ = times_short v.gathered v.number in
                let p = r.past in
                omega arith;
          }
