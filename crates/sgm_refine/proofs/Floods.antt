-- What floods find and mark.
use Rattle.std.proofs.Common.{◌≡◌, ℕ, ◌+◌, ◌<◌, ◌≤◌, zero, suc, Bool, true, false, cond, List, [], ◌∷◌, ◌++◌, length, map, replicate, Option, None, refl, sym, ap, ◌∙◌, subst, inl, inr, ◌⊎◌, arith, zero-add, get_or, append_assoc, length-append}
use Rattle.std.proofs.Math.ListN.{set, length-set}
use Rattle.std.specs.List.{Contains, count_by, range_with_len}
use Rattle.std.proofs.lemmas.Bool.{cases_eq, cases_lt, both_ways, false≢true}
use Rattle.std.proofs.lemmas.List.{get_or-set_same, get_or-set_other, get_or_past, get_or_default, get_or_append_left, append-nil, length_push, length-replicate}
use Rattle.std.proofs.lemmas.List.Elements.{Contains-push, Contains-push_cases, Contains-append_left, Contains-get_or}
use Rattle.std.proofs.lemmas.List.Sums.{sum_by-cons, sum_by-set, length-filter, count_by-le-length}
use Rattle.sgm_energy.proofs.Members.{not_in_nil, in_head}
use Rattle.sgm_refine.specs.Segments.{places, value_of, are_neighbours, are_close, is_linked, goes, segment, kept_at}
use Rattle.sgm_refine.specs.Flooding.{IsMarked, marked, IsClosed, IsFlooding, Enters, IsFlooded, IsKeeping}
use Rattle.sgm_refine.proofs.Chains.{goes_self, goes_on, goes_cases, goes_none, goes_enough, linked_sym, linked_from, segment_same}
use Rattle.sgm_refine.proofs.Kept.{kept_large, kept_small, kept_entries}

-- ---- one mark more

pub mark_here : (marks : List Bool) (k : ℕ) → k < length marks → IsMarked (set marks k true) k
mark_here marks k l = get_or-set_same marks k true false l

pub mark_stays : (marks : List Bool) (to k : ℕ) → to < length marks → IsMarked marks k → IsMarked (set marks to true) k
mark_stays marks to k l h = elim (cases_eq k to) [
  | inl e ↦ subst (λ v. IsMarked (set marks to true) v) (sym e) (mark_here marks to l)
  | inr ne ↦ get_or-set_other marks to k true false ne ∙ h
]

marked_more : (marks : List Bool) (to : ℕ) → to < length marks → get_or marks to false ≡ false → marked (set marks to true) ≡ marked marks + 1
marked_more marks to l h =
    omega (arith, sum_by-set (λ b. cond b 1 0) marks to true false l, ap {B = ℕ} (λ b. cond b 1 0) h)

pub flooding_more : (w : ℕ) (es : List (Option ℕ)) (p : ℕ) (before old : List Bool) (found : List ℕ) (to : ℕ) → IsFlooding w es p before old found
    → to < length es → get_or old to false ≡ false → goes w es (length es) p to ≡ true → IsFlooding w es p before (set old to true) (found ++ to ∷ [])
flooding_more w es p before old found to f l h g =
    let inside : to < length old = omega (arith, f.whole) in
    record {
      whole = length-set old to true ∙ f.whole;
      stays = λ k b. mark_stays old to k inside (f.stays k b);
      fresh = λ k c b. elim (Contains-push_cases found to k c) [
        | inl d ↦ f.fresh k d b
        | inr e ↦ both_ways (get_or old k false) (subst (λ v. get_or old v false ≡ false) e h) (f.stays k b)
      ];
      entered = λ k c. elim (Contains-push_cases found to k c) [
        | inl d ↦ mark_stays old to k inside (f.entered k d)
        | inr e ↦ subst (λ v. IsMarked (set old to true) v) e (mark_here old to inside)
      ];
      only = λ k m. elim (cases_eq k to) [
        | inl e ↦ inr (subst (λ v. Contains (found ++ to ∷ []) v) (sym e) (Contains-push found to))
        | inr ne ↦ elim (f.only k (sym (get_or-set_other old to k true false ne) ∙ m)) [
          | inl b ↦ inl b
          | inr d ↦ inr (Contains-append_left found (to ∷ []) k d)
        ]
      ];
      reached = λ k c. elim (Contains-push_cases found to k c) [
        | inl d ↦ f.reached k d
        | inr e ↦ subst (λ v. goes w es (length es) p v ≡ true) e g
      ];
      counted = omega (arith, f.counted, marked_more old to inside h, length_push found to);
    }

flooding_none : (w : ℕ) (es : List (Option ℕ)) (p : ℕ) (before : List Bool) → length before ≡ length es → IsFlooding w es p before before []
flooding_none w es p before l = record {
  whole = l;
  stays = λ k b. b;
  fresh = λ k c b. not_in_nil k c;
  entered = λ k c. absurd (not_in_nil k c);
  only = λ k m. inl m;
  reached = λ k c. absurd (not_in_nil k c);
  counted = omega arith;
}

pub flooding_start : (w : ℕ) (es : List (Option ℕ)) (p : ℕ) (before : List Bool) → length before ≡ length es → p < length es → get_or before p false ≡ false
    → IsFlooding w es p before (set before p true) (p ∷ [])
flooding_start w es p before l i h =
    flooding_more w es p before before [] p (flooding_none w es p before l) i h (goes_self w es (length es) p p refl)

-- ---- visits

pub enters_none : (w : ℕ) (es : List (Option ℕ)) (at : ℕ) (old : List Bool) (found : List ℕ) → Enters w es at old old found found
enters_none w es at old found = record { stays = λ k m. m; longer = ([], sym (append-nil found)); flooding = λ p before c f. f }

pub enters_one : (w : ℕ) (es : List (Option ℕ)) (at to : ℕ) (old : List Bool) (found : List ℕ) → length old ≡ length es → to < length es → get_or old to false ≡ false
    → are_neighbours w at to ≡ true → are_close (value_of es at) (value_of es to) ≡ true → Enters w es at old (set old to true) found (found ++ to ∷ [])
enters_one w es at to old found whole l h n c = record {
  stays = λ k m. mark_stays old to k (omega arith) m;
  longer = (to ∷ [], refl);
  flooding = λ p before there f. flooding_more w es p before old found to f l h
      (goes_enough w es (suc (length es)) p to (goes_on w es (length es) p at to (f.reached at there) (linked_from w es at to n c)));
}

pub enters_then : (w : ℕ) (es : List (Option ℕ)) (at : ℕ) (a b c : List Bool) (x y z : List ℕ) → Enters w es at a b x y → Enters w es at b c y z → Enters w es at a c x z
enters_then w es at a b c x y z f g = record {
  stays = λ k m. g.stays k (f.stays k m);
  longer = (f.longer.0 ++ g.longer.0, g.longer.1 ∙ ap (λ v. v ++ g.longer.0) f.longer.1 ∙ append_assoc x f.longer.0 g.longer.0);
  flooding = λ p before there h. g.flooding p before (subst (λ v. Contains v at) (sym f.longer.1) (Contains-append_left x f.longer.0 at there)) (f.flooding p before there h);
}

-- ---- a flood from visit to visit

pub mark_inside : (marks : List Bool) (k : ℕ) → IsMarked marks k → k < length marks
mark_inside marks k h = elim (cases_lt k (length marks)) [
  | inl l ↦ l
  | inr l ↦ absurd (false≢true (sym (get_or_past marks k false l) ∙ h))
]

-- the first `next` pixels found were visited: what is linked to them is marked
pub record IsVisiting (w : ℕ) (es : List (Option ℕ)) (p : ℕ) (before marks : List Bool) (found : List ℕ) (next : ℕ) : Type 0 where
  pub flooding : IsFlooding w es p before marks found
  pub first : Contains found p
  pub within : next ≤ length found
  pub done : (i k : ℕ) → i < next → is_linked w es (get_or found i 0) k ≡ true → IsMarked marks k

pub found_most : (w : ℕ) (es : List (Option ℕ)) (p : ℕ) (before marks : List Bool) (found : List ℕ) → IsFlooding w es p before marks found → length found ≤ length es
found_most w es p before marks found f = omega (arith, f.counted, f.whole, count_by-le-length (λ mark. mark) marks)

pub found_inside : (w : ℕ) (es : List (Option ℕ)) (p : ℕ) (before marks : List Bool) (found : List ℕ) → IsFlooding w es p before marks found → (k : ℕ) → Contains found k → k < length es
found_inside w es p before marks found f k c = omega (arith, f.whole, mark_inside marks k (f.entered k c))

pub visiting_start : (w : ℕ) (es : List (Option ℕ)) (p : ℕ) (before : List Bool) → length before ≡ length es → p < length es → get_or before p false ≡ false
    → IsVisiting w es p before (set before p true) (p ∷ []) 0
visiting_start w es p before l i h = record {
  flooding = flooding_start w es p before l i h;
  first = in_head p [];
  within = omega arith;
  done = λ j k m. absurd (omega arith);
}

pub visiting_next : (w : ℕ) (es : List (Option ℕ)) (p : ℕ) (before old marks : List Bool) (found now : List ℕ) (next : ℕ) → IsVisiting w es p before old found next
    → next < length found → Enters w es (get_or found next 0) old marks found now → ((k : ℕ) → is_linked w es (get_or found next 0) k ≡ true → IsMarked marks k)
    → IsVisiting w es p before marks now (next + 1)
visiting_next w es p before old marks found now next f l e all =
    let longer : length now ≡ length found + length e.longer.0 = ap length e.longer.1 ∙ length-append found e.longer.0 in
    record {
      flooding = e.flooding p before (Contains-get_or found next 0 l) f.flooding;
      first = subst (λ v. Contains v p) (sym e.longer.1) (Contains-append_left found e.longer.0 p f.first);
      within = omega arith;
      done = λ i k m t. (let same : get_or now i 0 ≡ get_or found i 0 = ap (λ v. get_or v i 0) e.longer.1 ∙ get_or_append_left found e.longer.0 0 i (omega arith) in
          let here : is_linked w es (get_or found i 0) k ≡ true = ap (λ v. is_linked w es v k) (sym same) ∙ t in
          elim (cases_eq i next) [
            | inl s ↦ all k (ap (λ v. is_linked w es (get_or found v 0) k) (sym s) ∙ here)
            | inr ne ↦ e.stays k (f.done i k (omega arith) here)
          ]);
    }

-- ---- the end of a flood

-- from a pixel that was found a chain goes to pixels that were found
found_all : (w : ℕ) (es : List (Option ℕ)) (p : ℕ) (before marks : List Bool) (found : List ℕ) → IsFlooding w es p before marks found → IsClosed w es before
    → ((j k : ℕ) → Contains found j → is_linked w es j k ≡ true → IsMarked marks k) → (n j k : ℕ) → Contains found j → goes w es n j k ≡ true → Contains found k
found_all w es p before marks found f closed done zero j k c t = subst (λ v. Contains found v) (goes_none w es j k t) c
found_all w es p before marks found f closed done (suc n) j k c t = elim (goes_cases w es n j k t) [
  | inl e ↦ subst (λ v. Contains found v) e c
  | inr there ↦ elim (f.only there.0 (done j there.0 c there.1)) [
    | inl b ↦ absurd (f.fresh j c (closed there.0 j b (linked_sym w es j there.0 there.1)))
    | inr d ↦ found_all w es p before marks found f closed done n there.0 k d there.2
  ]
]

one_of : (m b g : Bool) → (m ≡ true → (b ≡ true) ⊎ (g ≡ true)) → (b ≡ true → m ≡ true) → (g ≡ true → m ≡ true) → (g ≡ true → b ≡ true → ⊥) → cond m 1 0 ≡ cond b 1 0 + cond g 1 0
one_of m true true some before now apart = absurd (apart refl refl)
one_of true true false some before now apart = refl
one_of true false true some before now apart = refl
one_of false false false some before now apart = refl
one_of true false false some before now apart = absurd (elim (some refl) [ inl e ↦ false≢true e | inr e ↦ false≢true e ])
one_of false true false some before now apart = absurd (false≢true (before refl))
one_of false false true some before now apart = absurd (false≢true (now refl))

-- where each mark now is a mark before or a number that passes, and not both, there are as many more as pass
marked_both : (marks before : List Bool) (test : ℕ → Bool) (base : ℕ) → length marks ≡ length before
    → ((k : ℕ) → k < length before → cond (get_or marks k false) 1 0 ≡ cond (get_or before k false) 1 0 + cond (test (base + k)) 1 0)
    → marked marks ≡ marked before + count_by test (range_with_len base (length before))
marked_both [] [] test base l h = refl
marked_both [] (b ∷ bs) test base l h = absurd (omega arith)
marked_both (m ∷ ms) [] test base l h = absurd (omega arith)
marked_both (m ∷ ms) (b ∷ bs) test base l h =
    let rest = marked_both ms bs test (base + 1) (omega arith) (λ k i. (let e : (base + 1) + k ≡ base + suc k = omega arith in rw e (h (suc k) (omega arith)))) in
    let here : cond m 1 0 ≡ cond b 1 0 + cond (test base) 1 0 = (let e : base + 0 ≡ base = omega arith in rw e at (h 0 (omega arith))) in
    omega (arith, rest, here, sum_by-cons (λ v. cond v 1 0) m ms, sum_by-cons (λ v. cond v 1 0) b bs, sum_by-cons (λ v. cond (test v) 1 0) base (range_with_len (base + 1) (length bs)))

pub flooded : (w : ℕ) (es : List (Option ℕ)) (p : ℕ) (before marks : List Bool) (found : List ℕ) → IsFlooding w es p before marks found → Contains found p → IsClosed w es before
    → ((j k : ℕ) → Contains found j → is_linked w es j k ≡ true → IsMarked marks k) → length before ≡ length es → IsFlooded w es p before marks found
unfolding segment
flooded w es p before marks found f start closed done l =
    let test : ℕ → Bool = goes w es (length es) p in
    let at : (k : ℕ) → cond (get_or marks k false) 1 0 ≡ cond (get_or before k false) 1 0 + cond (test k) 1 0 =
    λ k. one_of (get_or marks k false) (get_or before k false) (test k)
    (λ m. elim (f.only k m) [ inl b ↦ inl b | inr c ↦ inr (f.reached k c) ])
    (λ b. f.stays k b)
    (λ g. f.entered k (found_all w es p before marks found f closed done (length es) p k start g))
    (λ g b. f.fresh k (found_all w es p before marks found f closed done (length es) p k start g) b) in
    let more = marked_both marks before test 0 (f.whole ∙ sym l) (λ k i. (let e : 0 + k ≡ k = zero-add k in rw e (at k))) in
    record {
      flooding = f;
      first = start;
      closed = λ j k m t. elim (f.only j m) [ inl b ↦ f.stays k (closed j k b t) | inr c ↦ done j k c t ];
      size = (let n : count_by test (range_with_len 0 (length before)) ≡ count_by test (places es) = ap (λ v. count_by test (range_with_len 0 v)) l in
          let small : length found ≡ count_by test (places es) = omega (arith, more, f.counted, n) in
          small ∙ sym (length-filter test (places es)));
    }

pub visiting_end : (w : ℕ) (es : List (Option ℕ)) (p : ℕ) (before marks : List Bool) (found : List ℕ) (next : ℕ) → IsVisiting w es p before marks found next → length found ≤ next
    → IsClosed w es before → length before ≡ length es → IsFlooded w es p before marks found
visiting_end w es p before marks found next f l closed whole =
    flooded w es p before marks found f.flooding f.first closed
    (λ j k c t. f.done c.0 k (omega (arith, c.1)) (ap (λ v. is_linked w es v k) (get_or_default found c.0 0 j c.1 ∙ c.2) ∙ t)) whole

-- ---- what is kept

none_marked : (n k : ℕ) → get_or (replicate n false) k false ≡ false
none_marked zero k = refl
none_marked (suc n) zero = refl
none_marked (suc n) (suc k) = none_marked n k

pub keeping_start : (w : ℕ) (es : List (Option ℕ)) (least n : ℕ) → n ≡ length es → IsKeeping w es least (replicate n false) es
keeping_start w es least n e =
    let unmarked : (k : ℕ) → IsMarked (replicate n false) k → ⊥ = λ k m. false≢true (sym (none_marked n k) ∙ m) in
    record {
      whole = length-replicate n false ∙ e;
      full = refl;
      closed = λ j k m t. absurd (unmarked j m);
      done = λ k m. absurd (unmarked k m);
      rest = λ k no. refl;
    }

-- the pixels before `at` are marked
pub record IsThrough (w : ℕ) (es : List (Option ℕ)) (least : ℕ) (marks : List Bool) (kept : List (Option ℕ)) (at : ℕ) : Type 0 where
  pub keeping : IsKeeping w es least marks kept
  pub before : (k : ℕ) → k < at → IsMarked marks k

pub through_start : (w : ℕ) (es : List (Option ℕ)) (least : ℕ) (marks : List Bool) (kept : List (Option ℕ)) → marks ≡ replicate (length es) false → kept ≡ es → IsThrough w es least marks kept 0
through_start w es least marks kept unmarked whole =
    rw (unmarked, whole) (record { keeping = keeping_start w es least (length es) refl; before = λ k l. absurd (omega arith) })

pub through_next : (w : ℕ) (es : List (Option ℕ)) (least : ℕ) (old marks : List Bool) (before kept : List (Option ℕ)) (at : ℕ) → IsThrough w es least old before at
    → IsKeeping w es least marks kept → ((k : ℕ) → IsMarked old k → IsMarked marks k) → IsMarked marks at → IsThrough w es least marks kept (at + 1)
through_next w es least old marks before kept at h keeping stays here = record {
  keeping = keeping;
  before = λ k l. elim (cases_eq k at) [ inl e ↦ subst (IsMarked marks) (sym e) here | inr ne ↦ stays k (h.before k (omega arith)) ];
}

-- where all are marked, all is kept
pub keeping_end : (w : ℕ) (es : List (Option ℕ)) (least : ℕ) (marks : List Bool) (kept : List (Option ℕ)) → IsKeeping w es least marks kept → ((k : ℕ) → k < length es → IsMarked marks k)
    → kept ≡ map (kept_at w es least) (places es)
keeping_end w es least marks kept h all = kept_entries w es least kept h.full (λ k l. h.done k (all k l))

pub keeping_next : (w : ℕ) (es : List (Option ℕ)) (least p : ℕ) (before marks : List Bool) (found : List ℕ) (old now : List (Option ℕ))
    → IsKeeping w es least before old → IsFlooded w es p before marks found → length now ≡ length old
    → ((k : ℕ) → Contains found k → value_of now k ≡ kept_at w es least k) → ((k : ℕ) → (Contains found k → ⊥) → value_of now k ≡ value_of old k)
    → IsKeeping w es least marks now
keeping_next w es least p before marks found old now h f l here others = record {
  whole = f.flooding.whole;
  full = l ∙ h.full;
  closed = f.closed;
  done = λ k m. elim (f.flooding.only k m) [
    | inl b ↦ others k (λ c. f.flooding.fresh k c b) ∙ h.done k b
    | inr c ↦ here k c
  ];
  rest = λ k no. others k (λ c. no (f.flooding.entered k c)) ∙ h.rest k (λ b. no (f.flooding.stays k b));
}

pub removed_here : (w : ℕ) (es : List (Option ℕ)) (least p : ℕ) (before marks : List Bool) (found : List ℕ) → IsFlooded w es p before marks found → length found < least
    → (k : ℕ) → Contains found k → kept_at w es least k ≡ None
removed_here w es least p before marks found f l k c =
    kept_small w es least k (omega (arith, f.size, ap length (segment_same w es p k (f.flooding.reached k c))))

pub kept_here : (w : ℕ) (es : List (Option ℕ)) (least p : ℕ) (before marks : List Bool) (found : List ℕ) (old : List (Option ℕ)) → IsKeeping w es least before old
    → IsFlooded w es p before marks found → least ≤ length found → (k : ℕ) → Contains found k → value_of old k ≡ kept_at w es least k
kept_here w es least p before marks found old h f l k c =
    h.rest k (f.flooding.fresh k c) ∙ sym (kept_large w es least k (omega (arith, f.size, ap length (segment_same w es p k (f.flooding.reached k c)))))

-- the first pixels of a list are removed, `old` is what there was
pub record IsClearing (segment : List ℕ) (old now : List (Option ℕ)) (index : ℕ) : Type 0 where
  pub full : length now ≡ length old
  pub cleared : (i : ℕ) → i < index → value_of now (get_or segment i 0) ≡ None
  pub others : (k : ℕ) → (Contains segment k → ⊥) → value_of now k ≡ value_of old k

pub clearing_next : (segment : List ℕ) (old now : List (Option ℕ)) (index at : ℕ) → IsClearing segment old now index → at ≡ get_or segment index at → index < length segment → at < length now
    → IsClearing segment old (set now at None) (index + 1)
clearing_next segment old now index at h e l i =
    let here : at ≡ get_or segment index 0 = e ∙ get_or_default segment index at 0 l in
    record {
      full = length-set now at None ∙ h.full;
      cleared = λ j m. elim (cases_eq (get_or segment j 0) at) [
        | inl s ↦ ap (λ v. value_of (set now at None) v) s ∙ get_or-set_same now at None None i
        | inr ne ↦ get_or-set_other now at (get_or segment j 0) None None ne ∙ h.cleared j (elim (cases_eq j index) [ inl s ↦ absurd (ne (ap (λ v. get_or segment v 0) s ∙ sym here)) | inr nj ↦ omega arith ])
      ];
      others = λ k no. get_or-set_other now at k None None (λ s. no (index, l, ap (λ v. get_or segment index v) (s ∙ here) ∙ get_or_default segment index (get_or segment index 0) 0 l ∙ sym here ∙ sym s)) ∙ h.others k no;
    }

pub clearing_end : (segment : List ℕ) (old now : List (Option ℕ)) (index : ℕ) → IsClearing segment old now index → length segment ≤ index → (k : ℕ) → Contains segment k → value_of now k ≡ None
clearing_end segment old now index h l k c =
    ap (λ v. value_of now v) (sym c.2 ∙ get_or_default segment c.0 k 0 c.1) ∙ h.cleared c.0 (omega (arith, c.1))
