-- What the calls of a table ask of a step, a split and a join.
use Rattle.std.proofs.Common.{◌≡◌, ℕ, suc, ◌+◌, ◌%◌, ◌^◌, ◌<◌, ◌≤◌, Bool, true, false, cond, leb, min, max, List, [], ◌∷◌, ◌++◌, length, get_or, set, length-append, sym, refl, ap, ◌∙◌, subst, inl, inr, ⊎_elim, arith, mod-eq_of_lt}
use mathlib.Core.Option as maybe
use mathlib.Core.Option.{some}
use lib.Seq.{set-get_or}
use Rattle.std.specs.List.{sum_by}
use Rattle.std.proofs.lemmas.List.Elements.{All-set, All-append}
use Rattle.std.proofs.lemmas.List.Sums.{sum_by-append}
use Rattle.std.proofs.lemmas.Bool.Decides.{leb_tells}
use Rattle.atomic_table.specs.Table.{step, keeps, Allows, Splits, Joins, opening}
use Rattle.atomic_table.proofs.Lists.{set_else}
use Rattle.sgm_draws.specs.declared.view.View.{View}
use Rattle.sgm_draws.specs.Numbers.{times, once_below, IsEachOnce}
use Rattle.sgm_draws.specs.Views.{IsLive, spent, new_view, dealer, kept_view, dealt_view, after_draw, after_end, joined_view, count_up}
use Rattle.sgm_draws.specs.Rules.{Rule, gathered_at_end, word_of}
use Rattle.sgm_draws.specs.Plays.{Known, draw_told, check_told}
use Rattle.sgm_draws.proofs.Sums.{set_same, at_all, all_one, moved}
use Rattle.sgm_draws.proofs.Numbers.{times_append, times_cons, times_own, once_yes, times_all, length_count_up}
use Rattle.sgm_draws.proofs.Steps.{IsTicket, bounded, drawn_all, drew, ended}

module _ (count made : ℕ) where
  pub draws : (slots id : ℕ) (me : Known) → count < 2 ^ 32 → made < 2 ^ 32 → IsLive count made me.0 → me.0.seen < count
      → Allows (Rule count made) slots id me 0 (λ n. (n + 1) % 2 ^ 64) (draw_told (step slots 0 1 0 maybe.none) me)
  draws slots id me small small' live below s r deep at fits =
      let v = me.0 in
      let f = word_of s in
      let b = bounded count made s r in
      let n : (f + 1) % 2 ^ 64 ≡ f + 1 = mod-eq_of_lt (omega arith) in
      let c = live.of_count in
      ⊎_elim
      (λ (h : (leb count f ≡ true) × (count ≤ f)). let l = h.1 in (
        after_end v f,
        keeps,
        tt,
        subst (λ (x : ℕ). Rule count made record { words = set s.words 0 x; homes = s.homes; views = set s.views id (after_end v f) }) (sym n) (ended count made s r id v at live below l),
        ((λ g. absurd (omega arith)), (λ _. (refl, λ all. subst (λ (k : ℕ). IsEachOnce k v.drawn) (sym c) (drawn_all count made s r id v at live all l)))),
      ))
      (λ (h : (leb count f ≡ false) × (f < count)). let l = h.1 in (
        after_draw v f,
        keeps,
        tt,
        subst (λ (x : ℕ). Rule count made record { words = set s.words 0 x; homes = s.homes; views = set s.views id (after_draw v f) }) (sym n) (drew count made s r id v at live below l),
        ((λ _. refl), (λ g. absurd (omega arith))),
      ))
      (leb_tells count f)

  pub checks : (slots id : ℕ) (me : Known) → IsLive count made me.0
      → Allows (Rule count made) slots id me 0 (λ n. n) (check_told (step slots 0 0 0 maybe.none) me)
  checks slots id me live s r deep at fits =
      let v = me.0 in
      let same = set_same s.views id v at in
      let words = set-get_or s.words 0 0 in
      let c = live.of_count in
      let low = at_all (λ (u : View). u.seen ≤ word_of s) s.views id v r.seen at in (
        v,
        keeps,
        tt,
        subst (λ (vs : List View). Rule count made record { words = set s.words 0 (get_or s.words 0 0); homes = s.homes; views = vs }) (sym same)
            (subst (λ (ws : List ℕ). Rule count made record { words = ws; homes = s.homes; views = s.views }) (sym words) r),
        (refl, λ all past. subst (λ (k : ℕ). IsEachOnce k v.drawn) (sym c) (drawn_all count made s r id v at live all (omega arith))),
      )

  -- the ends that two saw count in the ticket that has what both have
  end_both : (v u : View) → gathered_at_end count v + gathered_at_end count u ≤ gathered_at_end count (joined_view v u)
  end_both v u =
      let len = length-append v.gathered u.gathered in
      grind (arith, leb_tells count v.seen, leb_tells count u.seen, leb_tells count (max v.seen u.seen))

  pub joined_live : (v u : View) → IsLive count made v → IsLive count made (joined_view v u)
  joined_live v u live = record { of_count = live.of_count; of_made = live.of_made; own = let a = times_append v.gathered u.gathered v.number in let o = live.own in omega arith }

  pub gathers : (id : ℕ) (v : View) (by : ℕ) (u : View) → IsLive count made v → IsLive count made u
      → Joins (Rule count made) id v by u (joined_view v u) spent
  gathers id v by u live live' s r at ne at' =
      let both = joined_view v u in
      let vs = set s.views id both in
      let was = sym (set_else s.views id by both ne) ∙ at' in
      let low = at_all (λ (x : View). x.seen ≤ word_of s) s.views id v r.seen at in
      let low' = at_all (λ (x : View). x.seen ≤ word_of s) s.views by u r.seen was in
      let alive = joined_live v u live in record {
        one_word = r.one_word;
        tickets = All-set (IsTicket count made) vs by spent (inl refl) (All-set (IsTicket count made) s.views id both (inr alive) r.tickets);
        drawn = λ n.
            let g = λ (x : View). times x.drawn n in
            let a = moved g s.views id v both at in
            let b = moved g vs by u spent at' in
            let c = times_append v.drawn u.drawn n in
            let d = r.drawn n in
            omega arith;
        gathered = λ n.
            let g = λ (x : View). times x.gathered n in
            let a = moved g s.views id v both at in
            let b = moved g vs by u spent at' in
            let c = times_append v.gathered u.gathered n in
            let d = r.gathered n in
            omega arith;
        all =
            let g = λ (x : View). length x.gathered in
            let a = moved g s.views id v both at in
            let b = moved g vs by u spent at' in
            let c = length-append v.gathered u.gathered in
            let d = r.all in
            omega arith;
        seen = All-set (λ x. x.seen ≤ word_of s) vs by spent (omega arith) (All-set (λ x. x.seen ≤ word_of s) s.views id both (omega arith) r.seen);
        past =
            let g = gathered_at_end count in
            let a = moved g s.views id v both at in
            let b = moved g vs by u spent at' in
            let c = end_both v u in
            let p = r.past in
            let z : g spent ≤ 0 = grind arith in
            omega arith;
      }

  both_or_none : (b : Bool) (x y z : ℕ) → x ≡ y + z → cond b x 0 ≡ cond b y 0 + cond b z 0
  both_or_none true x y z e = e
  both_or_none false x y z e = refl

  pub deals : (id k c : ℕ) → Splits (Rule count made) id (dealer count made k (suc (suc c))) (kept_view (dealer count made k (suc (suc c)))) (dealt_view (dealer count made k (suc (suc c))))
  deals id k c s r at =
      let v = dealer count made k (suc (suc c)) in
      let l = new_view count made k (k ∷ []) in
      let w = dealer count made (k + 1) (suc c) in
      let vs = set s.views id l in
      let sums : (g : View → ℕ) → g v ≡ g l + g w → sum_by g (vs ++ w ∷ []) ≡ sum_by g s.views
      = λ g e. (let a = moved g s.views id v l at in let b = sum_by-append g vs (w ∷ []) in omega arith) in
      let alive : IsLive count made l = record { of_count = refl; of_made = refl; own = times_own k [] } in
      let alive' : IsLive count made w = record { of_count = refl; of_made = refl; own = times_own (k + 1) (count_up (k + 1 + 1) c) } in
      let same = sums (gathered_at_end count) (both_or_none (leb count 0) (length v.gathered) (length l.gathered) (length w.gathered) (omega arith)) in
      let p = r.past in record {
        one_word = r.one_word;
        tickets = All-append (IsTicket count made) vs (w ∷ []) (All-set (IsTicket count made) s.views id l (inr alive) r.tickets) (all_one (IsTicket count made) w (inr alive'));
        drawn = λ n. sums (λ x. times x.drawn n) refl ∙ r.drawn n;
        gathered = λ n.
            let a = times_cons k (count_up (k + 1) (suc c)) n in
            let b = times_cons k [] n in
            let z : times [] n ≡ 0 = refl in
            sums (λ x. times x.gathered n) (omega arith) ∙ r.gathered n;
        all = sums (λ x. length x.gathered) (omega arith) ∙ r.all;
        seen = All-append (λ x. x.seen ≤ word_of s) vs (w ∷ []) (All-set (λ x. x.seen ≤ word_of s) s.views id l (omega arith) r.seen) (all_one (λ x. x.seen ≤ word_of s) w (omega arith));
        past = omega arith;
      }

  pub opens : 1 ≤ made → Rule count made (opening (0 ∷ []) [] (dealer count made 0 made))
  opens more = let first = dealer count made 0 made in let len = length_count_up 0 made in let own = times_all made 0 in record {
    one_word = refl;
    tickets = all_one (IsTicket count made) first (inr record { of_count = refl; of_made = refl; own = let y = once_yes made 0 more in omega arith });
    drawn = λ n. let z : once_below 0 n ≡ 0 = grind arith in let m : min 0 count ≡ 0 = omega arith in sym (ap (λ (k : ℕ). once_below k n) m ∙ z);
    gathered = λ n. let t = times_all made n in omega arith;
    all = omega arith;
    seen = all_one (λ x. x.seen ≤ 0) first (omega arith);
    past = omega arith;
  }
