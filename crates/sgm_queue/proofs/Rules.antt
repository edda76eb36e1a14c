-- Each kind of step keeps the rule.
use Rattle.std.proofs.Common.{◌≡◌, ◌≢◌, ℕ, zero, suc, ◌+◌, ◌≤◌, Bool, List, [], ◌∷◌, ◌++◌, set, sym, refl, ap, ◌∙◌, subst, ⊎_elim, arith}
use mathlib.Core.Logic.{dite}
use mathlib.Core.Option.{some, some-injective, some-ne-none}
use native.Mathlib.Decide.{ℕ_discrete}
use lib.ListN.{get_elem?}
use Rattle.std.specs.Prelude.{count_by, Contains, cond}
use Rattle.std.proofs.lemmas.List.Elements.{Contains-append_left, Contains-append_right, Contains-push, Contains-push_cases}
use Rattle.std.proofs.lemmas.List.Sums.{sum_by-append}
use Rattle.atomic_table.proofs.Lists.{at_set, set_else, at_longer}
use Rattle.crossbeam_queue.specs.Fifo.{Pushes, Pops, Forks, Merges, Learns}
use Rattle.sgm_queue.specs.declared.log.Log.{Log}
use Rattle.sgm_queue.specs.Logs.{after_pop, after_push, first, given, joined, kept, spent}
use Rattle.sgm_queue.specs.Rules.{Known, PopTold, Rule}
use Rattle.sgm_queue.proofs.Sums.{alone, at_push, moved, pushed_sum, set_at, two_of}

module _ {T : Type 0} where
  count_push : (test : T → Bool) (xs : List T) (x : T) → count_by test (xs ++ x ∷ []) ≡ count_by test xs + count_by test (x ∷ [])
  count_push test xs x = sum_by-append (λ y. cond (test y) 1 0) xs (x ∷ [])

  count_cons : (test : T → Bool) (x : T) (xs : List T) → count_by test (x ∷ xs) ≡ count_by test (x ∷ []) + count_by test xs
  count_cons test x xs = sum_by-append (λ y. cond (test y) 1 0) (x ∷ []) xs

  count_join : (test : T → Bool) (xs ys : List T) → count_by test (xs ++ ys) ≡ count_by test xs + count_by test ys
  count_join test xs ys = sum_by-append (λ y. cond (test y) 1 0) xs ys

  none_in : (x : T) → Contains [] x → ⊥
  none_in x h = let inside = h.1 in omega arith

  abbrev shares_of : Log T → ℕ
  shares_of v = v.shares

  abbrev pushes_of : (T → Bool) → Log T → ℕ
  pushes_of test v = count_by test v.pushed

  abbrev pops_of : (T → Bool) → Log T → ℕ
  pops_of test v = count_by test v.popped

  only : (at : ℕ) (v : Log T) → get_elem? (first {T = T} ∷ []) at ≡ some v → first ≡ v
  only zero v h = some-injective first v h
  only (suc at) v h = absurd (some-ne-none v (sym h))

  -- the first pass alone
  pub begins : Rule {T = T} [] (first ∷ [])
  begins = record {
    shares = refl;
    idle = λ at v h none. absurd (let e = ap shares_of (only at v h) in omega arith);
    count = λ test. refl;
    from_passes = λ x h. absurd (none_in x h);
  }

  module _ (items : List T) (views : List (Log T)) (rule : Rule items views) (id : ℕ) (v : Log T) (here : get_elem? views id ≡ some v) where
    -- a pass with a share steps
    idle_set : (w : Log T) → 1 ≤ w.shares → (at : ℕ) (u : Log T) → get_elem? (set views id w) at ≡ some u → u.shares ≡ 0 → (u.pushed ≡ []) × (u.popped ≡ [])
    idle_set w live at u h none = ⊎_elim
        (λ (t : (at ≡ id) × (w ≡ u)). let e = ap shares_of t.1 in absurd (omega arith))
        (λ (t : (at ≢ id) × (get_elem? views at ≡ some u)). rule.idle at u t.1 none)
        (at_set views id at w u h)

    -- what was pushed stays pushed where the pass forgets nothing
    from_set : (w : Log T) → ((x : T) → Contains v.pushed x → Contains w.pushed x) → (x : T) → (at : ℕ) (u : Log T) → get_elem? views at ≡ some u → Contains u.pushed x
        → (to : ℕ) × (u' : Log T) × (get_elem? (set views id w) to ≡ some u') × Contains u'.pushed x
    from_set w keeps x at u h c = dite (ℕ_discrete at id)
        (λ e. let same : v ≡ u = some-injective v u (sym here ∙ (ap (get_elem? views) (sym e) ∙ h)) in
        (id, w, set_at views id v w here, keeps x (subst (λ (l : Log T). Contains l.pushed x) (sym same) c)))
        (λ ne. (at, u, set_else views id at w ne ∙ h, c))

    pub push : (x : T) → 1 ≤ v.shares → Rule (items ++ x ∷ []) (set views id (after_push v x))
    push x live = let w = after_push v x in record {
      shares = let m = moved shares_of views id v w here in let s = rule.shares in omega arith;
      idle = idle_set w live;
      count = λ test.
          let a = moved (pushes_of test) views id v w here in
          let b = moved (pops_of test) views id v w here in
          let p = count_push test v.pushed x in
          let i = count_push test items x in
          let r = rule.count test in
          omega arith;
      from_passes = λ y c. ⊎_elim
          (λ (d : Contains items y). let f = rule.from_passes y d in from_set w (λ z e. Contains-append_left v.pushed (x ∷ []) z e) y f.0 f.1 f.2 f.3)
          (λ (e : x ≡ y). (id, w, set_at views id v w here, subst (Contains (v.pushed ++ x ∷ [])) e (Contains-push v.pushed x)))
          (Contains-push_cases items x y c);
    }

  module _ (x : T) (items : List T) (views : List (Log T)) (rule : Rule (x ∷ items) views) (id : ℕ) (v : Log T) (here : get_elem? views id ≡ some v) where
    pub pop : 1 ≤ v.shares → Rule items (set views id (after_pop v x))
    pop live = let w = after_pop v x in record {
      shares = let m = moved shares_of views id v w here in let s = rule.shares in omega arith;
      idle = idle_set (x ∷ items) views rule id v here w live;
      count = λ test.
          let a = moved (pushes_of test) views id v w here in
          let b = moved (pops_of test) views id v w here in
          let p = count_push test v.popped x in
          let i = count_cons test x items in
          let r = rule.count test in
          omega arith;
      from_passes = λ y c. let f = rule.from_passes y (Contains-append_right (x ∷ []) items y c) in from_set (x ∷ items) views rule id v here w (λ z e. e) y f.0 f.1 f.2 f.3;
    }

  -- beside a pass with both shares the others know nothing
  others_idle : (items : List T) (views : List (Log T)) → Rule items views → (id : ℕ) (v : Log T) → get_elem? views id ≡ some v → 2 ≤ v.shares
      → (at : ℕ) (u : Log T) → at ≢ id → get_elem? views at ≡ some u → (u.pushed ≡ []) × (u.popped ≡ [])
  others_idle items views rule id v here both at u ne h =
      rule.idle at u h (let t = two_of shares_of spent refl views id at v u ne here h in let s = rule.shares in omega arith)

  pub first_is_own : (x : T) (items : List T) (views : List (Log T)) → Rule (x ∷ items) views → (id : ℕ) (v : Log T) → get_elem? views id ≡ some v → 2 ≤ v.shares → Contains v.pushed x
  first_is_own x items views rule id v here both =
      let f = rule.from_passes x (Contains-append_left (x ∷ []) items x (Contains-push [] x)) in
      dite (ℕ_discrete f.0 id)
      (λ e. let same : v ≡ f.1 = some-injective v f.1 (sym here ∙ (ap (get_elem? views) (sym e) ∙ f.2)) in subst (λ (l : Log T). Contains l.pushed x) (sym same) f.3)
      (λ ne. let none = others_idle (x ∷ items) views rule id v here both f.0 f.1 ne f.2 in absurd (none_in x (subst (λ (l : List T). Contains l x) none.0 f.3)))

  pub knows : (id : ℕ) (v : Log T) → Learns Rule id v (Known v)
  knows id v items views rule here both test =
      let pushes = alone (pushes_of test) spent refl views id v here (λ at u ne h. ap (count_by test) (others_idle items views rule id v here both at u ne h).0) in
      let pops = alone (pops_of test) spent refl views id v here (λ at u ne h. ap (count_by test) (others_idle items views rule id v here both at u ne h).1) in
      let r = rule.count test in
      omega arith

  pub pushes : (n id : ℕ) (v : Log T) (x : T) → 1 ≤ v.shares → Pushes Rule n id v x (λ w. w ≡ after_push v x)
  pushes n id v x live items views room rule here = (after_push v x, push items views rule id v here x live, refl)

  pub pops : (id : ℕ) (v : Log T) → 1 ≤ v.shares → Pops Rule id v (PopTold v)
  pops id v live x items views rule here =
      (after_pop v x, pop x items views rule id v here live, (refl, λ both. first_is_own x items views rule id v here both))

  -- the one pass is cut in two
  pub forks : (id : ℕ) → Forks Rule id (first {T = T}) (kept first) (given first)
  forks id items views rule here =
      let l : Log T = kept first in
      let r : Log T = given first in
      let vs = set views id l in
      record {
        shares = let m = moved shares_of views id first l here in let p = pushed_sum shares_of vs r in let s = rule.shares in omega arith;
        idle = λ at u h none. ⊎_elim
            (λ (t : get_elem? vs at ≡ some u). idle_set items views rule id first here l (omega arith) at u t none)
            (λ (t : r ≡ u). let e = ap shares_of t in absurd (omega arith))
            (at_push vs r u at h);
        count = λ test.
            let a = moved (pushes_of test) views id first l here in
            let b = moved (pops_of test) views id first l here in
            let c = pushed_sum (pushes_of test) vs r in
            let d = pushed_sum (pops_of test) vs r in
            let e = rule.count test in
            omega arith;
        from_passes = λ x c.
            let f = rule.from_passes x c in
            let g = from_set items views rule id first here l (λ z e. e) x f.0 f.1 f.2 f.3 in
            (g.0, g.1, at_longer vs (r ∷ []) g.0 g.1 g.2, g.3);
      }

  pub merges : (id : ℕ) (v : Log T) (other : ℕ) (u : Log T) → 1 ≤ v.shares → Merges Rule id v other u (joined v u) spent
  merges id v other u live items views rule here ne there =
      let both = joined v u in
      let vs = set views id both in
      let was : get_elem? views other ≡ some u = sym (set_else views id other both ne) ∙ there in
      let stays : get_elem? (set vs other spent) id ≡ some both = set_else vs other id spent (λ e. ne (sym e)) ∙ set_at views id v both here in
      record {
        shares = let a = moved shares_of views id v both here in let b = moved shares_of vs other u spent there in let s = rule.shares in omega arith;
        idle = λ at w h none. ⊎_elim
            (λ (t : (at ≡ other) × (spent ≡ w)). (ap (λ (l : Log T). l.pushed) (sym t.1), ap (λ (l : Log T). l.popped) (sym t.1)))
            (λ (t : (at ≢ other) × (get_elem? vs at ≡ some w)). idle_set items views rule id v here both (omega arith) at w t.1 none)
            (at_set vs other at spent w h);
        count = λ test.
            let a = moved (pushes_of test) views id v both here in
            let b = moved (pops_of test) views id v both here in
            let c = moved (pushes_of test) vs other u spent there in
            let d = moved (pops_of test) vs other u spent there in
            let e = count_join test v.pushed u.pushed in
            let f = count_join test v.popped u.popped in
            let r = rule.count test in
            omega arith;
        from_passes = λ x c.
            let f = rule.from_passes x c in
            dite (ℕ_discrete f.0 id)
            (λ e. let same : v ≡ f.1 = some-injective v f.1 (sym here ∙ (ap (get_elem? views) (sym e) ∙ f.2)) in
            (id, both, stays, Contains-append_left v.pushed u.pushed x (subst (λ (l : Log T). Contains l.pushed x) (sym same) f.3)))
            (λ apart. dite (ℕ_discrete f.0 other)
            (λ e. let same : u ≡ f.1 = some-injective u f.1 (sym was ∙ (ap (get_elem? views) (sym e) ∙ f.2)) in
            (id, both, stays, Contains-append_right v.pushed u.pushed x (subst (λ (l : Log T). Contains l.pushed x) (sym same) f.3)))
            (λ far. (f.0, f.1, set_else vs other f.0 spent far ∙ (set_else views id f.0 both apart ∙ f.2), f.3)));
      }
