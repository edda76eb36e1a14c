-- Chains of linked pixels: what a number of links reaches, and that as many links as there are pixels reach all.
use Rattle.std.proofs.Common.{◌≡◌, ℕ, ◌+◌, ◌/◌, ◌<◌, ◌≤◌, zero, suc, Bool, true, false, cond, eqb, leb, ◌&&◌, List, [], ◌∷◌, length, Option, Some, None, refl, sym, ap, ◌∙◌, subst, inl, inr, ◌⊎◌, ◌↔◌, arith, zero-add}
use Rattle.std.specs.List.{Contains, count_by, list_any, range_with_len}
use Rattle.std.proofs.lemmas.Bool.{cases_eq, cases_lt, eq-eqb, eqb-true, or_cases, or_left, or_right, and_parts, and_from}
use Rattle.std.proofs.lemmas.List.{get_or_past}
use Rattle.std.proofs.lemmas.List.Elements.{filter_agree}
use Rattle.std.proofs.lemmas.List.Folds.{list_any_at}
use Rattle.std.proofs.lemmas.List.FromFn.{length-range_with_len, get_or-range_with_len}
use Rattle.std.proofs.lemmas.List.Sums.{count_by-le-length, sum_by-cons}
use Rattle.sgm_energy.proofs.Members.{in_cases, in_below, in_filter, from_filter}
use Rattle.sgm_refine.specs.declared.segments.TheConstants.{LINK_DISTANCE}
use Rattle.sgm_refine.specs.Segments.{places, value_of, comes_after, are_neighbours, are_close, is_linked, IsChain, goes, segment}

-- ---- links

close_sym : (a b : Option ℕ) → are_close a b ≡ true → are_close b a ≡ true
close_sym (Some a) (Some b) h =
    let parts = and_parts (leb a (b + LINK_DISTANCE)) (leb b (a + LINK_DISTANCE)) h in
    and_from (leb b (a + LINK_DISTANCE)) (leb a (b + LINK_DISTANCE)) parts.1 parts.0
close_sym None (Some b) h = absurd (cc)
close_sym (Some a) None h = absurd (cc)
close_sym None None h = absurd (cc)

after_cases : (w j k : ℕ) → comes_after w j k ≡ true → ((k ≡ j + 1) × (j / w ≡ k / w)) ⊎ (k ≡ j + w)
after_cases w j k h = elim (or_cases (eqb k (j + 1) && eqb (j / w) (k / w)) (eqb k (j + w)) h) [
  | inl a ↦ (let parts = and_parts (eqb k (j + 1)) (eqb (j / w) (k / w)) a in inl (eqb-true k (j + 1) parts.0, eqb-true (j / w) (k / w) parts.1))
  | inr a ↦ inr (eqb-true k (j + w) a)
]

pub neighbours_sym : (w j k : ℕ) → are_neighbours w j k ≡ true → are_neighbours w k j ≡ true
neighbours_sym w j k h = elim (or_cases (comes_after w j k) (comes_after w k j) h) [
  | inl a ↦ or_right (comes_after w k j) (comes_after w j k) a
  | inr a ↦ or_left (comes_after w k j) (comes_after w j k) a
]

-- where a neighbour of j stands
pub neighbour_cases : (w j k : ℕ) → are_neighbours w j k ≡ true
    → (((k ≡ j + 1) × (j / w ≡ k / w)) ⊎ (k ≡ j + w)) ⊎ (((j ≡ k + 1) × (k / w ≡ j / w)) ⊎ (j ≡ k + w))
neighbour_cases w j k h = elim (or_cases (comes_after w j k) (comes_after w k j) h) [
  | inl a ↦ inl (after_cases w j k a)
  | inr a ↦ inr (after_cases w k j a)
]

pub linked_parts : (w : ℕ) (es : List (Option ℕ)) (j k : ℕ) → is_linked w es j k ≡ true → (are_neighbours w j k ≡ true) × (are_close (value_of es j) (value_of es k) ≡ true)
unfolding is_linked
linked_parts w es j k h = and_parts (are_neighbours w j k) (are_close (value_of es j) (value_of es k)) h

pub linked_from : (w : ℕ) (es : List (Option ℕ)) (j k : ℕ) → are_neighbours w j k ≡ true → are_close (value_of es j) (value_of es k) ≡ true → is_linked w es j k ≡ true
unfolding is_linked
linked_from w es j k n c = and_from (are_neighbours w j k) (are_close (value_of es j) (value_of es k)) n c

pub linked_sym : (w : ℕ) (es : List (Option ℕ)) (j k : ℕ) → is_linked w es j k ≡ true → is_linked w es k j ≡ true
linked_sym w es j k h =
    let parts = linked_parts w es j k h in
    linked_from w es k j (neighbours_sym w j k parts.0) (close_sym (value_of es j) (value_of es k) parts.1)

close_to_none : (a : Option ℕ) → are_close a None ≡ true → ⊥
close_to_none (Some a) h = cc
close_to_none None h = cc

pub linked_inside : (w : ℕ) (es : List (Option ℕ)) (j k : ℕ) → is_linked w es j k ≡ true → k < length es
linked_inside w es j k h = elim (cases_lt k (length es)) [
  | inl l ↦ l
  | inr l ↦ absurd (close_to_none (value_of es j) (subst (λ v. are_close (value_of es j) v ≡ true) (get_or_past es k None l) (linked_parts w es j k h).1))
]

-- ---- what n links reach

any_from : (p : ℕ → Bool) (xs : List ℕ) → list_any p xs ≡ true → (x : ℕ) × (p x ≡ true)
any_from p [] h = absurd (cc)
any_from p (x ∷ xs) h = elim (or_cases _ _ h) [ inl e ↦ (x, e) | inr e ↦ any_from p xs e ]

any_at : (p : ℕ → Bool) (n i : ℕ) → i < n → p i ≡ true → list_any p (range_with_len 0 n) ≡ true
any_at p n i l h =
    list_any_at p (range_with_len 0 n) i 0 (omega (arith, length-range_with_len 0 n)) (ap p (get_or-range_with_len 0 n i 0 l ∙ zero-add i) ∙ h)

pub goes_self : (w : ℕ) (es : List (Option ℕ)) (n j k : ℕ) → j ≡ k → goes w es n j k ≡ true
unfolding goes
goes_self w es zero j k e = eq-eqb j k e
goes_self w es (suc n) j k e = or_left _ _ (eq-eqb j k e)

pub goes_step : (w : ℕ) (es : List (Option ℕ)) (n j i k : ℕ) → is_linked w es j i ≡ true → goes w es n i k ≡ true → goes w es (suc n) j k ≡ true
unfolding goes
goes_step w es n j i k l h =
    or_right _ _ (any_at (λ m. is_linked w es j m && goes w es n m k) (length es) i (linked_inside w es j i l) (and_from _ _ l h))

pub goes_none : (w : ℕ) (es : List (Option ℕ)) (j k : ℕ) → goes w es zero j k ≡ true → j ≡ k
unfolding goes
goes_none w es j k h = eqb-true j k h

pub goes_cases : (w : ℕ) (es : List (Option ℕ)) (n j k : ℕ) → goes w es (suc n) j k ≡ true → (j ≡ k) ⊎ ((i : ℕ) × (is_linked w es j i ≡ true) × (goes w es n i k ≡ true))
unfolding goes
goes_cases w es n j k h = elim (or_cases _ _ h) [
  | inl e ↦ inl (eqb-true j k e)
  | inr e ↦ (let there = any_from (λ m. is_linked w es j m && goes w es n m k) (places es) e in
      let parts = and_parts _ _ there.1 in
      inr (there.0, parts.0, parts.1))
]

goes_more : (w : ℕ) (es : List (Option ℕ)) (n j k : ℕ) → goes w es n j k ≡ true → goes w es (suc n) j k ≡ true
goes_more w es zero j k h = goes_self w es (suc zero) j k (goes_none w es j k h)
goes_more w es (suc n) j k h = elim (goes_cases w es n j k h) [
  | inl e ↦ goes_self w es (suc (suc n)) j k e
  | inr there ↦ goes_step w es (suc n) j there.0 k there.1 (goes_more w es n there.0 k there.2)
]

pub goes_on : (w : ℕ) (es : List (Option ℕ)) (n j i k : ℕ) → goes w es n j i ≡ true → is_linked w es i k ≡ true → goes w es (suc n) j k ≡ true
goes_on w es zero j i k h l =
    let e : j ≡ i = goes_none w es j i h in
    goes_step w es zero j k k (subst (λ m. is_linked w es m k ≡ true) (sym e) l) (goes_self w es zero k k refl)
goes_on w es (suc n) j i k h l = elim (goes_cases w es n j i h) [
  | inl e ↦ goes_step w es (suc n) j k k (subst (λ m. is_linked w es m k ≡ true) (sym e) l) (goes_self w es (suc n) k k refl)
  | inr there ↦ goes_step w es (suc n) j there.0 k there.1 (goes_on w es n there.0 i k there.2 l)
]

goes_back : (w : ℕ) (es : List (Option ℕ)) (n j k : ℕ) → goes w es n j k ≡ true → goes w es n k j ≡ true
goes_back w es zero j k h = goes_self w es zero k j (sym (goes_none w es j k h))
goes_back w es (suc n) j k h = elim (goes_cases w es n j k h) [
  | inl e ↦ goes_self w es (suc n) k j (sym e)
  | inr there ↦ goes_on w es n k there.0 j (goes_back w es n there.0 k there.2) (linked_sym w es j there.0 there.1)
]

-- some number of links reaches
goes_through : (w : ℕ) (es : List (Option ℕ)) (n m j i k : ℕ) → goes w es n j i ≡ true → goes w es m i k ≡ true → (r : ℕ) × (goes w es r j k ≡ true)
goes_through w es zero m j i k h t = (m, subst (λ v. goes w es m v k ≡ true) (sym (goes_none w es j i h)) t)
goes_through w es (suc n) m j i k h t = elim (goes_cases w es n j i h) [
  | inl e ↦ (m, subst (λ v. goes w es m v k ≡ true) (sym e) t)
  | inr there ↦ (let rest = goes_through w es n m there.0 i k there.2 t in (suc rest.0, goes_step w es rest.0 j there.0 k there.1 rest.1))
]

-- ---- as many links as there are pixels reach all

counted : (p : ℕ → Bool) (x : ℕ) (xs : List ℕ) → count_by p (x ∷ xs) ≡ cond (p x) 1 0 + count_by p xs
counted p x xs = sum_by-cons (λ y. cond (p y) 1 0) x xs

one_least : (a b : Bool) → (a ≡ true → b ≡ true) → cond a 1 0 ≤ cond b 1 0
one_least false false h = omega arith
one_least false true h = omega arith
one_least true true h = omega arith
one_least true false h = absurd (let e : false ≡ true = h refl in cc)

count_least : (f g : ℕ → Bool) (xs : List ℕ) → ((x : ℕ) → f x ≡ true → g x ≡ true) → count_by f xs ≤ count_by g xs
count_least f g [] h = omega arith
count_least f g (x ∷ xs) h = omega (arith, counted f x xs, counted g x xs, one_least (f x) (g x) (h x), count_least f g xs h)

one_more : (a b : Bool) → (a ≡ true → b ≡ true) → (b ≡ true → a ≡ true) ⊎ (cond a 1 0 < cond b 1 0)
one_more false false h = inl (λ e. e)
one_more false true h = inr (omega arith)
one_more true b h = inl (λ _. refl)

-- where g passes all that f passes, it passes no other number of a list, or it passes more of them
count_more : (f g : ℕ → Bool) (xs : List ℕ) → ((x : ℕ) → f x ≡ true → g x ≡ true) → ((x : ℕ) → Contains xs x → g x ≡ true → f x ≡ true) ⊎ (count_by f xs < count_by g xs)
count_more f g [] h = inl (λ x c _. absurd (omega (arith, c.1)))
count_more f g (x ∷ xs) h = elim (count_more f g xs h) [
  | inr l ↦ inr (omega (arith, counted f x xs, counted g x xs, one_least (f x) (g x) (h x), l))
  | inl same ↦ elim (one_more (f x) (g x) (h x)) [
    | inr l ↦ inr (omega (arith, counted f x xs, counted g x xs, l, count_least f g xs h))
    | inl here ↦ inl (λ y c. elim (in_cases x xs y c) [
      | inl e ↦ subst (λ v. g v ≡ true → f v ≡ true) e here
      | inr d ↦ same y d
    ])
  ]
]

-- one link more reaches nothing more
abbrev Stable : ℕ → List (Option ℕ) → ℕ → ℕ → Type 0
Stable w es k n = (j : ℕ) → goes w es (suc n) j k ≡ true → goes w es n j k ≡ true

stable_next : (w : ℕ) (es : List (Option ℕ)) (k n : ℕ) → Stable w es k n → Stable w es k (suc n)
stable_next w es k n h j t = elim (goes_cases w es (suc n) j k t) [
  | inl e ↦ goes_self w es (suc n) j k e
  | inr there ↦ goes_step w es n j there.0 k there.1 (h there.0 there.2)
]

-- how many pixels reach k by n links
reaching : ℕ → List (Option ℕ) → ℕ → ℕ → ℕ
reaching w es k n = count_by (λ j. goes w es n j k) (places es)

stable_or_more : (w : ℕ) (es : List (Option ℕ)) (k n : ℕ) → Stable w es k n ⊎ (reaching w es k n < reaching w es k (suc n))
unfolding reaching
stable_or_more w es k n = elim (count_more (λ j. goes w es n j k) (λ j. goes w es (suc n) j k) (places es) (λ j. goes_more w es n j k)) [
  | inr l ↦ inr l
  | inl same ↦ inl (λ j t. elim (goes_cases w es n j k t) [
    | inl e ↦ goes_self w es n j k e
    | inr there ↦ same j (in_below (length es) j (linked_inside w es there.0 j (linked_sym w es j there.0 there.1))) t
  ])
]

stable_or_many : (w : ℕ) (es : List (Option ℕ)) (k n : ℕ) → Stable w es k n ⊎ (n ≤ reaching w es k n)
stable_or_many w es k zero = inr (omega arith)
stable_or_many w es k (suc n) = elim (stable_or_many w es k n) [
  | inl h ↦ inl (stable_next w es k n h)
  | inr m ↦ elim (stable_or_more w es k n) [ inl h ↦ inl (stable_next w es k n h) | inr l ↦ inr (omega arith) ]
]

reaching_most : (w : ℕ) (es : List (Option ℕ)) (k n : ℕ) → reaching w es k n ≤ length es
unfolding reaching
reaching_most w es k n = omega (arith, count_by-le-length (λ j. goes w es n j k) (places es), length-range_with_len 0 (length es))

stable_at : (w : ℕ) (es : List (Option ℕ)) (k : ℕ) → Stable w es k (length es)
stable_at w es k = elim (stable_or_many w es k (length es)) [
  | inl h ↦ h
  | inr m ↦ elim (stable_or_more w es k (length es)) [ inl h ↦ h | inr l ↦ absurd (omega (arith, reaching_most w es k (suc (length es)))) ]
]

stable_above : (w : ℕ) (es : List (Option ℕ)) (k n : ℕ) → length es ≤ n → Stable w es k n
stable_above w es k zero h = subst (Stable w es k) (omega arith) (stable_at w es k)
stable_above w es k (suc n) h = elim (cases_eq (length es) (suc n)) [
  | inl e ↦ subst (Stable w es k) e (stable_at w es k)
  | inr ne ↦ stable_next w es k n (stable_above w es k n (omega arith))
]

goes_longer : (w : ℕ) (es : List (Option ℕ)) (n m j k : ℕ) → n ≤ m → goes w es n j k ≡ true → goes w es m j k ≡ true
goes_longer w es n zero j k h t = subst (λ v. goes w es v j k ≡ true) (omega arith) t
goes_longer w es n (suc m) j k h t = elim (cases_eq n (suc m)) [
  | inl e ↦ subst (λ v. goes w es v j k ≡ true) e t
  | inr ne ↦ goes_more w es m j k (goes_longer w es n m j k (omega arith) t)
]

pub goes_enough : (w : ℕ) (es : List (Option ℕ)) (n j k : ℕ) → goes w es n j k ≡ true → goes w es (length es) j k ≡ true
goes_enough w es zero j k t = goes_longer w es zero (length es) j k (omega arith) t
goes_enough w es (suc n) j k t = elim (cases_lt n (length es)) [
  | inl l ↦ goes_longer w es (suc n) (length es) j k (omega arith) t
  | inr l ↦ goes_enough w es n j k (stable_above w es k n l j t)
]

-- ---- segments

same_tests : (a b : Bool) → (a ≡ true → b ≡ true) → (b ≡ true → a ≡ true) → a ≡ b
same_tests true b f g = sym (f refl)
same_tests false true f g = g refl
same_tests false false f g = refl

-- a pixel that a chain reaches has the same segment
pub segment_same : (w : ℕ) (es : List (Option ℕ)) (p k : ℕ) → goes w es (length es) p k ≡ true → segment w es k ≡ segment w es p
unfolding segment
segment_same w es p k h = filter_agree (goes w es (length es) k) (goes w es (length es) p) (λ j. same_tests _ _
    (λ t. let w' = goes_through w es (length es) (length es) p k j h t in goes_enough w es w'.0 p j w'.1)
    (λ t. let w' = goes_through w es (length es) (length es) k p j (goes_back w es (length es) p k h) t in goes_enough w es w'.0 k j w'.1)) (places es)

-- ---- chains as lists

chain_of : (w : ℕ) (es : List (Option ℕ)) (n j k : ℕ) → goes w es n j k ≡ true → (rest : List ℕ) × IsChain w es j rest k
chain_of w es zero j k h = ([], goes_none w es j k h)
chain_of w es (suc n) j k h = elim (goes_cases w es n j k h) [
  | inl e ↦ ([], e)
  | inr there ↦ (let more = chain_of w es n there.0 k there.2 in (there.0 ∷ more.0, (there.1, more.1)))
]

goes_of : (w : ℕ) (es : List (Option ℕ)) (j : ℕ) (rest : List ℕ) (k : ℕ) → IsChain w es j rest k → goes w es (length rest) j k ≡ true
goes_of w es j [] k h = goes_self w es zero j k h
goes_of w es j (i ∷ rest) k h = goes_step w es (length rest) j i k h.0 (goes_of w es i rest k h.1)

pub chains : (w : ℕ) (es : List (Option ℕ)) (p k : ℕ) → k < length es → Contains (segment w es p) k ↔ ((rest : List ℕ) × IsChain w es p rest k)
unfolding segment
chains w es p k l = (
  (λ c. chain_of w es (length es) p k (from_filter (goes w es (length es) p) (places es) k c).1),
  (λ r. in_filter (goes w es (length es) p) (places es) k (in_below (length es) k l) (goes_enough w es (length r.0) p k (goes_of w es p r.0 k r.1))),
)
