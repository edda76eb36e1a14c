-- The first of the sequences of least energy, with one more index at the end.
use Rattle.std.proofs.Common.{◌≡◌, ℕ, ◌+◌, ◌<◌, ◌≤◌, suc, Bool, true, false, ◌&&◌, cond, eqb, List, [], ◌∷◌, ◌++◌, length, Some, refl, sym, ap, ◌∙◌, subst, inl, inr, arith}
use Rattle.std.specs.Prelude.{reverse, unwrap_or}
use Rattle.std.specs.List.{Contains, filter, find, list_all}
use Rattle.std.specs.declared.cmp.Ordering.{Ordering}
use Rattle.std.specs.declared.cmp.Ordering.TheVariants.{Less, Equal, Greater}
use Rattle.std.specs.Ordering.{is_le, nat_cmp, ordering_then, ordering_reverse}
use Rattle.std.specs.Cmp.{nat_cmp_is}
use Rattle.std.specs.Cmp.Lexicographic.{slice_cmp}
use Rattle.std.specs.FinMap.{slice_cmp-IsAntisymmetric, nat_cmp-IsAntisymmetric}
use Rattle.std.proofs.lemmas.Cmp.{nat_list_cmp_total}
use Rattle.std.proofs.lemmas.Bool.{eqb-true, eq-eqb, cases_lt}
use Rattle.std.proofs.lemmas.List.{length_push, reverse-append, reverse-reverse}
use Rattle.sgm_energy.specs.Rays.{Pixel, Problem}
use Rattle.sgm_energy.specs.Energies.{sequences, ends_in, energy, jump, least_ending}
use Rattle.sgm_energy.proofs.Members.{in_head, in_tail, in_cases, not_in_nil, in_filter, from_filter}
use Rattle.sgm_energy.proofs.Sequences.{sequences_push, sequences_pop, sequences_none, sequences_length, ends_in_push, energy_push}
use Rattle.sgm_energy.proofs.LeastEnergies.{ending_le, ending_in, ending_next_le, ending_next_in}
use Rattle.sgm_trace.specs.Best.{attaining, not_after, best, step_between, first_step, steps_after, steps_of}

-- ---- the first of a list
all_from : {X : Type 0} (p : X → Bool) (xs : List X) → ((x : X) → Contains xs x → p x ≡ true) → list_all p xs ≡ true
all_from p [] h = refl
all_from p (x ∷ xs) h = ap (λ b. b && list_all p xs) (h x (in_head x xs)) ∙ all_from p xs (λ y m. h y (in_tail x xs y m))

all_to : {X : Type 0} (p : X → Bool) (xs : List X) → list_all p xs ≡ true → (x : X) → Contains xs x → p x ≡ true
all_to p [] h x m = absurd (not_in_nil x m)
all_to p (y ∷ ys) h x m = split (p y) refl h (λ k n. all_to p ys k x n)
  where
    split : (b : Bool) → p y ≡ b → (b && list_all p ys) ≡ true → (list_all p ys ≡ true → Contains ys x → p x ≡ true) → p x ≡ true
    split true e k more = elim (in_cases y ys x m) [
      | inl q ↦ ap p (sym q) ∙ e
      | inr n ↦ more k n
    ]
    split false e k more = absurd (cc)

-- what alone passes a test is found
find_is : {X : Type 0} (p : X → Bool) (xs : List X) (s : X) → Contains xs s → p s ≡ true → ((t : X) → Contains xs t → p t ≡ true → t ≡ s) → find p xs ≡ Some s
find_is p [] s m h only = absurd (not_in_nil s m)
find_is p (x ∷ xs) s m h only = split (p x) refl (λ n. find_is p xs s n h (λ t o k. only t (in_tail x xs t o) k))
  where
    split : (b : Bool) → p x ≡ b → (Contains xs s → find p xs ≡ Some s) → cond b (Some x) (find p xs) ≡ Some s
    split true e more = ap Some (only x (in_head x xs) e)
    split false e more = elim (in_cases x xs s m) [
      | inl q ↦ (let k : true ≡ false = sym h ∙ ap p (sym q) ∙ e in absurd (cc))
      | inr n ↦ more n
    ]

-- ---- the order from the ends backwards
both_le : (a b : List ℕ) → is_le (slice_cmp nat_cmp a b) ≡ true → is_le (slice_cmp nat_cmp b a) ≡ true → a ≡ b
both_le a b p q = split (slice_cmp nat_cmp b a) refl
  where
    split : (o : Ordering) → slice_cmp nat_cmp b a ≡ o → a ≡ b
    split Less e =
        let k : true ≡ false = sym p ∙ ap is_le (nat_list_cmp_total.antisymm a b) ∙ ap (λ o. is_le (ordering_reverse o)) e in absurd (cc)
    split Equal e = sym (slice_cmp-IsAntisymmetric nat_cmp-IsAntisymmetric b a e)
    split Greater e = let k : true ≡ false = sym q ∙ ap is_le e in absurd (cc)

same : (s t : List ℕ) → not_after s t ≡ true → not_after t s ≡ true → s ≡ t
same s t p q = sym (reverse-reverse s) ∙ ap reverse (both_le (reverse s) (reverse t) p q) ∙ reverse-reverse t

-- with one more index each
ends_compared : (s t : List ℕ) (a b : ℕ) → is_le (ordering_then (nat_cmp a b) (slice_cmp nat_cmp (reverse s) (reverse t))) ≡ true → not_after (s ++ a ∷ []) (t ++ b ∷ []) ≡ true
ends_compared s t a b h =
    ap (λ xs. is_le (slice_cmp nat_cmp xs (reverse (t ++ b ∷ [])))) (reverse-append s (a ∷ []))
    ∙ ap (λ ys. is_le (slice_cmp nat_cmp (a ∷ reverse s) ys)) (reverse-append t (b ∷ []))
    ∙ h

pub same_end : (s t : List ℕ) (d : ℕ) → not_after s t ≡ true → not_after (s ++ d ∷ []) (t ++ d ∷ []) ≡ true
same_end s t d h = ends_compared s t d d (ap (λ o. is_le (ordering_then o (slice_cmp nat_cmp (reverse s) (reverse t)))) (sym (nat_cmp_is d d Equal refl)) ∙ h)

pub lesser_end : (s t : List ℕ) (a b : ℕ) → a < b → not_after (s ++ a ∷ []) (t ++ b ∷ []) ≡ true
lesser_end s t a b h = ends_compared s t a b (ap (λ o. is_le (ordering_then o (slice_cmp nat_cmp (reverse s) (reverse t)))) (sym (nat_cmp_is a b Less h)))

-- ---- the best sequence
pub record IsBest (g : Problem) (ps : List Pixel) (d : ℕ) (s : List ℕ) : Type 0 where
  pub member : Contains (attaining g ps d) s
  pub first : (t : List ℕ) → Contains (attaining g ps d) t → not_after s t ≡ true

pub best_is : (g : Problem) (ps : List Pixel) (d : ℕ) (s : List ℕ) → IsBest g ps d s → best g ps d ≡ s
unfolding best
best_is g ps d s w =
    let among = attaining g ps d in
    ap (λ o. unwrap_or o []) (find_is (λ t. list_all (not_after t) among) among s w.member (all_from (not_after s) among w.first)
    (λ t m k. same t s (all_to (not_after t) among k s w.member) (w.first t m)))

-- a sequence of the least energy, with its end apart
pub record Ends (g : Problem) (ps : List Pixel) (p : Pixel) (d : ℕ) (t s : List ℕ) : Type 0 where
  pub whole : s ++ d ∷ [] ≡ t
  pub member : Contains (sequences g.count (length ps)) s
  pub least : energy g (ps ++ p ∷ []) (s ++ d ∷ []) ≡ least_ending g (ps ++ p ∷ []) d

length_suc : {X : Type 0} (xs : List X) (x : X) → length (xs ++ x ∷ []) ≡ suc (length xs)
length_suc xs x = omega (arith, length_push xs x)

pub attaining_from : (g : Problem) (ps : List Pixel) (p : Pixel) (d : ℕ) (t : List ℕ) → Contains (attaining g (ps ++ p ∷ []) d) t → (s : List ℕ) × Ends g ps p d t s
unfolding attaining
attaining_from g ps p d t c =
    let all = ps ++ p ∷ [] in
    let f = from_filter (λ s. eqb (energy g all s) (least_ending g all d)) (filter (ends_in d) (sequences g.count (length all))) t c in
    let e = from_filter (ends_in d) (sequences g.count (length all)) t f.0 in
    let v = sequences_pop g.count (length ps) t (subst (λ n. Contains (sequences g.count n) t) (length_suc ps p) e.0) in
    let last : eqb v.1 d ≡ true = sym (ends_in_push d v.0 v.1) ∙ ap (ends_in d) v.4 ∙ e.1 in
    let whole : v.0 ++ d ∷ [] ≡ t = ap (λ x. v.0 ++ x ∷ []) (sym (eqb-true v.1 d last)) ∙ v.4 in
    (v.0, record { whole = whole; member = v.2; least = ap (energy g all) whole ∙ eqb-true (energy g all t) (least_ending g all d) f.1 })

pub attaining_has : (g : Problem) (ps : List Pixel) (p : Pixel) (d : ℕ) (s : List ℕ) → d < g.count → Contains (sequences g.count (length ps)) s
    → energy g (ps ++ p ∷ []) (s ++ d ∷ []) ≡ least_ending g (ps ++ p ∷ []) d → Contains (attaining g (ps ++ p ∷ []) d) (s ++ d ∷ [])
unfolding attaining
attaining_has g ps p d s hd c e =
    let all = ps ++ p ∷ [] in
    in_filter (λ t. eqb (energy g all t) (least_ending g all d)) (filter (ends_in d) (sequences g.count (length all))) (s ++ d ∷ [])
    (in_filter (ends_in d) (sequences g.count (length all)) (s ++ d ∷ [])
    (subst (λ n. Contains (sequences g.count n) (s ++ d ∷ [])) (sym (length_suc ps p)) (sequences_push g.count (length ps) s d c hd))
    (ends_in_push d s d ∙ eq-eqb d d refl))
    (eq-eqb (energy g all (s ++ d ∷ [])) (least_ending g all d) e)

-- along one pixel
pub first_is_best : (g : Problem) (p : Pixel) (d : ℕ) → d < g.count → IsBest g (p ∷ []) d (d ∷ [])
first_is_best g p d hd =
    let w = ending_in g [] p d hd in
    let none : [] ≡ w.0 = sequences_none g.count w.0 w.1 in
    let m : Contains (sequences g.count 0) [] = subst (Contains (sequences g.count 0)) (sym none) w.1 in
    let e : energy g (p ∷ []) (d ∷ []) ≡ least_ending g (p ∷ []) d = ap (λ s. energy g (p ∷ []) (s ++ d ∷ [])) none ∙ w.2 in
    record {
      member = attaining_has g [] p d [] hd m e;
      first = λ t c. (let v = attaining_from g [] p d t c in
          let k : d ∷ [] ≡ t = ap (λ s. s ++ d ∷ []) (sequences_none g.count v.0 v.1.member) ∙ v.1.whole in
          subst (λ u. not_after (d ∷ []) u ≡ true) k (same_end [] [] d refl));
    }

-- the index a at q is the first from which d at p is reached with the least energy
pub record IsBefore (g : Problem) (qs : List Pixel) (q p : Pixel) (a d : ℕ) : Type 0 where
  pub inside : a < g.count
  pub low : (b : ℕ) → b < g.count → least_ending g (qs ++ q ∷ []) a + jump g q p a d ≤ least_ending g (qs ++ q ∷ []) b + jump g q p b d
  pub first : (b : ℕ) → b < a → least_ending g (qs ++ q ∷ []) a + jump g q p a d < least_ending g (qs ++ q ∷ []) b + jump g q p b d

before_is_least : (g : Problem) (qs : List Pixel) (q p : Pixel) (a d : ℕ) → d < g.count → IsBefore g qs q p a d
    → least_ending g (qs ++ q ∷ []) a + (g.cost p d + jump g q p a d) ≡ least_ending g ((qs ++ q ∷ []) ++ p ∷ []) d
before_is_least g qs q p a d hd w =
    let v = ending_next_in g qs q p d hd in
    omega (arith, v.2, w.low v.0 v.1, ending_next_le g qs q p a d w.inside hd)

-- one pixel further
next_first : (g : Problem) (qs : List Pixel) (q p : Pixel) (a d : ℕ) (s t u : List ℕ) → d < g.count → IsBefore g qs q p a d → IsBest g (qs ++ q ∷ []) a s
    → Ends g (qs ++ q ∷ []) p d t u → not_after (s ++ d ∷ []) (u ++ d ∷ []) ≡ true
next_first g qs q p a d s t u hd w best end =
    let v = sequences_pop g.count (length qs) u (subst (λ n. Contains (sequences g.count n) u) (length_suc qs q) end.member) in
    let r = v.0 in
    let b = v.1 in
    let long = sequences_length g.count (length qs) r v.2 in
    let grown = energy_push g qs r q p b d long in
    let least : energy g ((qs ++ q ∷ []) ++ p ∷ []) ((r ++ b ∷ []) ++ d ∷ []) ≡ least_ending g ((qs ++ q ∷ []) ++ p ∷ []) d = ap (λ x. energy g ((qs ++ q ∷ []) ++ p ∷ []) (x ++ d ∷ [])) v.4 ∙ end.least in
    let below = ending_le g qs q r b v.2 v.3 in
    let here = before_is_least g qs q p a d hd w in
    let fits : energy g (qs ++ q ∷ []) (r ++ b ∷ []) ≡ least_ending g (qs ++ q ∷ []) b = omega (arith, grown, least, below, here, w.low b v.3) in
    let even : least_ending g (qs ++ q ∷ []) b + jump g q p b d ≡ least_ending g (qs ++ q ∷ []) a + jump g q p a d = omega (arith, grown, least, fits, here) in
    let from : (s0 : List ℕ) × Ends g qs q a s s0 = attaining_from g qs q a s best.member in
    subst (λ x. not_after (s ++ d ∷ []) (x ++ d ∷ []) ≡ true) v.4
    (same_end s (r ++ b ∷ []) d (elim (cases_lt a b) [
      | inl l ↦ subst (λ x. not_after x (r ++ b ∷ []) ≡ true) from.1.whole (lesser_end from.0 r a b l)
      | inr n ↦ (elim (cases_lt b a) [
        | inl l ↦ absurd (omega (arith, w.first b l, even))
        | inr m ↦ (let same : a ≡ b = omega (arith, n, m) in
            best.first (r ++ b ∷ []) (subst (λ x. Contains (attaining g (qs ++ q ∷ []) x) (r ++ b ∷ [])) (sym same) (attaining_has g qs q b r v.3 v.2 fits)))
      ])
    ]))

pub next_is_best : (g : Problem) (qs : List Pixel) (q p : Pixel) (a d : ℕ) (s : List ℕ) → d < g.count → IsBefore g qs q p a d → IsBest g (qs ++ q ∷ []) a s
    → IsBest g ((qs ++ q ∷ []) ++ p ∷ []) d (s ++ d ∷ [])
next_is_best g qs q p a d s hd w best =
    let all = (qs ++ q ∷ []) ++ p ∷ [] in
    let from : (s0 : List ℕ) × Ends g qs q a s s0 = attaining_from g qs q a s best.member in
    let long = sequences_length g.count (length qs) from.0 from.1.member in
    let inside : Contains (sequences g.count (length (qs ++ q ∷ []))) s = subst (Contains (sequences g.count (length (qs ++ q ∷ [])))) from.1.whole
    (subst (λ n. Contains (sequences g.count n) (from.0 ++ a ∷ [])) (sym (length_suc qs q)) (sequences_push g.count (length qs) from.0 a from.1.member w.inside)) in
    let e : energy g all (s ++ d ∷ []) ≡ least_ending g all d = subst (λ x. energy g all (x ++ d ∷ []) ≡ least_ending g all d) from.1.whole
    (omega (arith, energy_push g qs from.0 q p a d long, from.1.least, before_is_least g qs q p a d hd w)) in
    record {
      member = attaining_has g (qs ++ q ∷ []) p d s hd inside e;
      first = λ t c. (let v = attaining_from g (qs ++ q ∷ []) p d t c in
          subst (λ u. not_after (s ++ d ∷ []) u ≡ true) v.1.whole (next_first g qs q p a d s t v.0 hd w best v.1));
    }

-- ---- its steps
after_push : (g : Problem) (r : Pixel) (ps : List Pixel) (c : ℕ) (s : List ℕ) (q p : Pixel) (a d : ℕ) → length s ≡ length ps
    → steps_after g r c ((ps ++ q ∷ []) ++ p ∷ []) ((s ++ a ∷ []) ++ d ∷ []) ≡ steps_after g r c (ps ++ q ∷ []) (s ++ a ∷ []) ++ step_between g q p a d ∷ []
unfolding steps_after
after_push g r [] c [] q p a d e = refl
after_push g r [] c (b ∷ s) q p a d e = absurd (omega arith)
after_push g r (x ∷ ps) c [] q p a d e = absurd (omega arith)
after_push g r (x ∷ ps) c (b ∷ s) q p a d e = ap (λ ss. step_between g r x c b ∷ ss) (after_push g x ps b s q p a d (omega arith))

pub steps_push : (g : Problem) (ps : List Pixel) (s : List ℕ) (q p : Pixel) (a d : ℕ) → length s ≡ length ps
    → steps_of g ((ps ++ q ∷ []) ++ p ∷ []) ((s ++ a ∷ []) ++ d ∷ []) ≡ steps_of g (ps ++ q ∷ []) (s ++ a ∷ []) ++ step_between g q p a d ∷ []
unfolding steps_of steps_after
steps_push g [] [] q p a d e = refl
steps_push g [] (b ∷ s) q p a d e = absurd (omega arith)
steps_push g (x ∷ ps) [] q p a d e = absurd (omega arith)
steps_push g (x ∷ ps) (b ∷ s) q p a d e = ap (λ ss. first_step g x b ∷ ss) (after_push g x ps b s q p a d (omega arith))
