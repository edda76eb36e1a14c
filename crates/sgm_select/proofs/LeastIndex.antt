-- Which index is the least one.
use Rattle.std.proofs.Common.{◌≡◌, ℕ, ◌+◌, ◌*◌, ◌<◌, ◌≤◌, zero, suc, Bool, true, false, eqb, List, [], ◌∷◌, map, Some, None, refl, sym, ap, ◌∙◌, subst, inl, inr, arith, slice_index, unwrap_or, take, drop, Contains, cond}
use Rattle.std.proofs.lemmas.Bool.{cases_eq, cases_lt, cases_Bool, eq-eqb, ne_eqb}
use Rattle.std.proofs.lemmas.List.{get_or-take, get_or-drop}
use Rattle.std.specs.List.{filter, find, range_with_len}
use Rattle.sgm_energy.specs.Energies.{least, below}
use Rattle.sgm_energy.proofs.Members.{in_head, in_tail, in_map, from_map, in_filter, from_filter, in_below, from_below}
use Rattle.sgm_energy.proofs.Leasts.{least_is}
use Rattle.sgm_select.specs.Selection.{least_index, least_of}
use Rattle.sgm_select.specs.Rows.{base_in}

-- the first number that counts and passes, from a on
find_first : (p counts : ℕ → Bool) (a n b : ℕ) → a ≤ b → b < a + n → counts b ≡ true → p b ≡ true → ((d : ℕ) → a ≤ d → d < b → counts d ≡ true → p d ≡ false)
    → find p (filter counts (range_with_len a n)) ≡ Some b
find_first p counts a zero b l h c t earlier = absurd (omega arith)
find_first p counts a (suc n) b l h c t earlier = elim (cases_eq a b) [
  | inl e ↦ (let ec : counts a ≡ true = ap counts e ∙ c in
      let ep : p a ≡ true = ap p e ∙ t in
      rw (ec, ep) (ap (λ m. Some m) e))
  | inr ne ↦ (let rest = find_first p counts (a + 1) n b (omega arith) (omega arith) c t (λ d l' h'. earlier d (omega arith) h') in
      elim (cases_Bool (counts a)) [
        | inl ec ↦ (let ep : p a ≡ false = earlier a (omega arith) (omega arith) ec in rw (ec, ep) rest)
        | inr ec ↦ rw ec rest
      ])
]

find_none : (p counts : ℕ → Bool) (a n : ℕ) → ((d : ℕ) → a ≤ d → d < a + n → counts d ≡ false) → find p (filter counts (range_with_len a n)) ≡ None
find_none p counts a zero h = refl
find_none p counts a (suc n) h =
    let ec : counts a ≡ false = h a (omega arith) (omega arith) in
    rw ec (find_none p counts (a + 1) n (λ d l m. h d (omega arith) (omega arith)))

-- b counts, no index that counts has less, and none below b that counts has as little
pub least_index_is : (counts : ℕ → Bool) (f : ℕ → ℕ) (n b : ℕ) → b < n → counts b ≡ true → ((d : ℕ) → d < n → counts d ≡ true → f b ≤ f d) → ((d : ℕ) → d < b → counts d ≡ true → f b < f d)
    → least_index counts f n ≡ Some b
unfolding least_index
least_index_is counts f n b h c low first =
    let is : least (map f (filter counts (below n))) ≡ f b = least_is (map f (filter counts (below n))) (f b)
    (in_map f (filter counts (below n)) b (in_filter counts (below n) b (in_below n b h) c))
    (λ x cx. let w = from_map f (filter counts (below n)) x cx in
    let v = from_filter counts (below n) w.0 w.1 in
    omega (arith, w.2, low w.0 (from_below n w.0 v.0) v.1)) in
    find_first (λ d. eqb (f d) (least (map f (filter counts (below n))))) counts 0 n b (omega arith) (omega arith) c (eq-eqb (f b) _ (sym is))
    (λ d _ l cd. ne_eqb (f d) _ (λ e. omega (arith, first d l cd, e, is)))

pub least_index_none : (counts : ℕ → Bool) (f : ℕ → ℕ) (n : ℕ) → ((d : ℕ) → d < n → counts d ≡ false) → least_index counts f n ≡ None
unfolding least_index
least_index_none counts f n h = find_none (λ d. eqb (f d) (least (map f (filter counts (below n))))) counts 0 n (λ d _ l. h d (omega arith))

pub least_of_is : (f : ℕ → ℕ) (n b : ℕ) → b < n → ((d : ℕ) → d < n → f b ≤ f d) → ((d : ℕ) → d < b → f b < f d) → least_of f n ≡ b
least_of_is f n b h low first =
    ap (λ o. unwrap_or o 0) (least_index_is (λ _. true) f n b h refl (λ d l _. low d l) (λ d l _. first d l))

-- b is the least number below n at which f is least
pub record IsLeastAt (f : ℕ → ℕ) (n b : ℕ) : Type 0 where
  pub inside : b < n
  pub low : (d : ℕ) → d < n → f b ≤ f d
  pub first : (d : ℕ) → d < b → f b < f d

-- there is such a number
some_least : (f : ℕ → ℕ) (n : ℕ) → (b : ℕ) × IsLeastAt f (suc n) b
some_least f zero = (0, record { inside = omega arith; low = λ d l. (let e : d ≡ 0 = omega arith in rw e (omega arith)); first = λ d l. absurd (omega arith) })
some_least f (suc n) =
    let rest = some_least f n in
    let b = rest.0 in
    elim (cases_lt (f (suc n)) (f b)) [
      | inl l ↦ (suc n, record { inside = omega arith; low = λ d k. elim (cases_eq d (suc n)) [ inl e ↦ rw e (omega arith) | inr ne ↦ omega (arith, rest.1.low d (omega arith)) ]; first = λ d k. omega (arith, rest.1.low d (omega arith)) })
      | inr l ↦ (b, record { inside = omega (arith, rest.1.inside); low = λ d k. elim (cases_eq d (suc n)) [ inl e ↦ rw e l | inr ne ↦ rest.1.low d (omega arith) ]; first = rest.1.first })
    ]

-- the choice is one
pub least_of_least : (f : ℕ → ℕ) (n : ℕ) → 0 < n → IsLeastAt f n (least_of f n)
least_of_least f (suc n) h =
    let there = some_least f n in
    subst (IsLeastAt f (suc n)) (sym (least_of_is f (suc n) there.0 there.1.inside there.1.low there.1.first)) there.1
least_of_least f zero h = absurd (omega arith)

-- ---- the choice is below n
find_low : (p : ℕ → Bool) (xs : List ℕ) (n b : ℕ) → ((x : ℕ) → Contains xs x → x < n) → find p xs ≡ Some b → b < n
find_low p [] n b h e = absurd (cc)
find_low p (x ∷ xs) n b h e = elim (cases_Bool (p x)) [
  | inl t ↦ (let here : Some x ≡ Some b = sym (ap (λ z. cond z (Some x) (find p xs)) t) ∙ e in let same : x ≡ b = cc in omega (arith, h x (in_head x xs)))
  | inr t ↦ find_low p xs n b (λ y c. h y (in_tail x xs y c)) (sym (ap (λ z. cond z (Some x) (find p xs)) t) ∙ e)
]

pub least_index_low : (counts : ℕ → Bool) (f : ℕ → ℕ) (n b : ℕ) → least_index counts f n ≡ Some b → b < n
unfolding least_index
least_index_low counts f n b e =
    find_low (λ d. eqb (f d) (least (map f (filter counts (below n))))) (filter counts (below n)) n b
    (λ d c. from_below n d (from_filter counts (below n) d c).0) e

-- ---- two functions with the same values below n

map-agree : (f g : ℕ → ℕ) (xs : List ℕ) → ((x : ℕ) → Contains xs x → f x ≡ g x) → map f xs ≡ map g xs
map-agree f g [] h = refl
map-agree f g (x ∷ xs) h =
    ap (λ y. y ∷ map f xs) (h x (in_head x xs)) ∙ ap (λ ys. g x ∷ ys) (map-agree f g xs (λ y c. h y (in_tail x xs y c)))

find-agree : (p q : ℕ → Bool) (xs : List ℕ) → ((x : ℕ) → Contains xs x → p x ≡ q x) → find p xs ≡ find q xs
find-agree p q [] h = refl
find-agree p q (x ∷ xs) h =
    ap (λ b. cond b (Some x) (find p xs)) (h x (in_head x xs)) ∙ ap (λ o. cond (q x) (Some x) o) (find-agree p q xs (λ y c. h y (in_tail x xs y c)))

pub least_index-agree : (counts : ℕ → Bool) (f g : ℕ → ℕ) (n : ℕ) → ((d : ℕ) → d < n → f d ≡ g d) → least_index counts f n ≡ least_index counts g n
unfolding least_index
least_index-agree counts f g n h =
    let among = filter counts (below n) in
    let same : (d : ℕ) → Contains among d → f d ≡ g d = λ d c. h d (from_below n d (from_filter counts (below n) d c).0) in
    ap (λ low. find (λ d. eqb (f d) low) among) (ap least (map-agree f g among same))
    ∙ find-agree (λ d. eqb (f d) (least (map g among))) (λ d. eqb (g d) (least (map g among))) among (λ d c. ap (λ v. eqb v (least (map g among))) (same d c))

-- ---- the entries of one pixel

pub part_at : (xs : List ℕ) (i n k : ℕ) → k < n → slice_index (take n (drop i xs)) k ≡ slice_index xs (i + k)
part_at xs i n k h = get_or-take n (drop i xs) k 0 h ∙ get_or-drop i xs k 0

-- the choice among the entries of one pixel is that of the pixel in the row
pub base_from : (sums : List ℕ) (count x n r : ℕ) → n ≡ count → r < count → ((d : ℕ) → d < n → slice_index (take n (drop (x * count) sums)) r ≤ slice_index (take n (drop (x * count) sums)) d)
    → ((d : ℕ) → d < r → slice_index (take n (drop (x * count) sums)) r < slice_index (take n (drop (x * count) sums)) d) → base_in sums count x ≡ r
unfolding base_in
base_from sums count x n r e h low first =
    let here : slice_index (take n (drop (x * count) sums)) r ≡ slice_index sums (x * count + r) = part_at sums (x * count) n r (omega arith) in
    least_of_is (λ d. slice_index sums (x * count + d)) count r h
    (λ d l. omega (arith, here, low d (omega arith), part_at sums (x * count) n d (omega arith)))
    (λ d l. omega (arith, here, first d l, part_at sums (x * count) n d (omega arith)))
