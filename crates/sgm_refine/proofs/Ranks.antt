-- The number of some numbers that has a rank is the entry of their list in order.
use Rattle.std.proofs.Common.{◌≡◌, ℕ, ◌+◌, ◌*◌, ◌<◌, ◌≤◌, ◌∙◌, zero, suc, Bool, true, false, cond, not, leb, ltb, List, [], ◌∷◌, length, take, drop, get_or, slice_get, Some, None, refl, sym, ap, subst, inl, inr, arith}
use Rattle.std.specs.List.{Contains, count_by, find, insert, position_or_len}
use Rattle.std.specs.List.Sorted.{IsNonDecreasing, IsPermutation}
use Rattle.std.proofs.lemmas.Bool.{and_from, and_parts, and_right, cases_lt, cond_both, leb-true, ltb-true, leb-false, le-leb, lt-ltb, le-ltb}
use Rattle.std.proofs.lemmas.List.{get_or-drop, get_or_default, length-drop, length-take-le}
use Rattle.std.proofs.lemmas.List.Sorted.{Contains-permutation, IsNonDecreasingBy-insert, IsNonDecreasingBy-short, IsPermutation-cons, IsPermutation-insert, IsPermutation-refl, IsPermutation-sym, IsPermutation-trans, sum_by-IsPermutation}
use Rattle.std.proofs.lemmas.List.Sums.{count_by-le-length, count_by_more_yes, fails_before_first, passes_at_first, prefix_len-le-length, sum_by-le, sum_by-le-sum_by, sum_by-take-drop, sum_by-take-le}
use Rattle.std.proofs.lemmas.Option.{slice_get-get_or, slice_get_past}
use Rattle.sgm_refine.specs.Filling.{is_ranked, ranked}

-- ---- how many numbers pass a test

one_more : (a b : Bool) → (a ≡ true → b ≡ true) → cond a 1 0 ≤ cond b 1 0
one_more false b h = omega arith
one_more true b h = subst (λ c. 1 ≤ cond c 1 0) (sym (h refl)) (omega arith)

-- no more pass it than pass one that each of them passes
count_more : (p q : ℕ → Bool) (xs : List ℕ) → ((x : ℕ) → p x ≡ true → q x ≡ true) → count_by p xs ≤ count_by q xs
count_more p q xs h = sum_by-le-sum_by (λ x. cond (p x) 1 0) (λ x. cond (q x) 1 0) xs (λ x. one_more (p x) (q x) (h x))

-- each of the first i
count_all : (p : ℕ → Bool) (xs : List ℕ) (i : ℕ) → i ≤ length xs → ((k : ℕ) → k < i → p (get_or xs k 0) ≡ true) → count_by p (take i xs) ≡ i
count_all p xs zero h all = refl
count_all p xs (suc i) h all =
    ap (λ n. count_by p (take n xs)) (let e : suc i ≡ i + 1 = omega arith in e)
    ∙ count_by_more_yes p xs i 0 (omega arith) (all i (omega arith)) ∙ ap (λ n. n + 1) (count_all p xs i (omega arith) (λ k l. all k (omega arith))) ∙ omega arith

-- none from the i-th on
count_before : (p : ℕ → Bool) (xs : List ℕ) (i : ℕ) → i ≤ length xs → ((k : ℕ) (d : ℕ) → i ≤ k → k < length xs → p (get_or xs k d) ≡ false) → count_by p xs ≤ i
count_before p xs i h none =
    let rest : count_by p (drop i xs) ≤ length (drop i xs) * 0 =
    sum_by-le (λ x. cond (p x) 1 0) 0 (drop i xs) (λ k d l. subst (λ b. cond b 1 0 ≤ 0) (sym (ap p (get_or-drop i xs k d) ∙ none (i + k) d (omega arith) (omega (arith, length-drop i xs)))) (omega arith)) in
    omega (arith, rest, count_by-le-length p (take i xs), length-take-le i xs h, sum_by-take-drop (λ x. cond (p x) 1 0) xs i)

-- ---- the first number that passes a test

find_none : (p : ℕ → Bool) (xs : List ℕ) → ((x : ℕ) → p x ≡ false) → find p xs ≡ None
find_none p [] h = refl
find_none p (x ∷ xs) h = ap (λ b. cond b (Some x) (find p xs)) (h x) ∙ find_none p xs h

-- the only one that does
find_only : (p : ℕ → Bool) (xs : List ℕ) (v i d : ℕ) → i < length xs → p (get_or xs i d) ≡ true → ((x : ℕ) → p x ≡ true → x ≡ v) → find p xs ≡ Some v
find_only p [] v i d h t only = absurd (omega arith)
find_only p (x ∷ xs) v zero d h t only = ap (λ b. cond b (Some x) (find p xs)) t ∙ ap Some (only x t)
find_only p (x ∷ xs) v (suc i) d h t only =
    cond_both (p x) (Some x) (find p xs) (λ found. found ≡ Some v) (λ e. ap Some (only x e)) (λ e. find_only p xs v i d (omega arith) t only)

-- ---- numbers that ascend

-- how many are below the entry i, and how many are at most that
below_few : (ys : List ℕ) (i : ℕ) → IsNonDecreasing ys → i < length ys → count_by (λ x. ltb x (get_or ys i 0)) ys ≤ i
below_few ys i up h =
    count_before (λ x. ltb x (get_or ys i 0)) ys i (omega arith)
    (λ k d l m. le-ltb (get_or ys k d) (get_or ys i 0) (subst (λ v. v ≤ get_or ys k d) (get_or_default ys i d 0 h) (up i k d l m)))

up_to_many : (ys : List ℕ) (i : ℕ) → IsNonDecreasing ys → i < length ys → i < count_by (λ x. leb x (get_or ys i 0)) ys
up_to_many ys i up h =
    let p : ℕ → Bool = λ x. leb x (get_or ys i 0) in
    omega (
      arith,
      sum_by-take-le (λ x. cond (p x) 1 0) ys (i + 1),
      count_all p ys (i + 1) (omega arith) (λ k l. le-leb (get_or ys k 0) (get_or ys i 0) (up k i 0 (omega arith) h)),
    )

-- no two numbers have the number i
ranked_once : (ys : List ℕ) (i v w : ℕ) → count_by (λ x. ltb x v) ys ≤ i → i < count_by (λ x. leb x v) ys
    → count_by (λ x. ltb x w) ys ≤ i → i < count_by (λ x. leb x w) ys → ¬ (w < v)
ranked_once ys i v w fv mv fw mw l =
    omega (arith, fv, mw, count_more (λ x. leb x w) (λ x. ltb x v) ys (λ x e. lt-ltb x v (omega (arith, l, leb-true x w e))))

-- the entries of a list in order are those that have their ranks
pub in_order : (xs ys : List ℕ) (n : ℕ) → IsPermutation xs ys → IsNonDecreasing ys → ranked xs n ≡ slice_get ys n
unfolding ranked
in_order xs ys n moved up =
    let same : (p : ℕ → Bool) → count_by p ys ≡ count_by p xs = λ p. sum_by-IsPermutation (λ x. cond (p x) 1 0) xs ys moved in
    elim (cases_lt n (length ys)) [
      | inl h ↦
          let v : ℕ = get_or ys n 0 in
          let few = below_few ys n up h in
          let many = up_to_many ys n up h in
          let here : Contains xs v = Contains-permutation ys xs v (IsPermutation-sym xs ys moved) (n, h, get_or_default ys n v 0 h) in
          let is : is_ranked xs n v ≡ true =
          and_from _ _ (le-leb (count_by (λ x. ltb x v) xs) n (omega (arith, few, same (λ x. ltb x v))))
          (lt-ltb n (count_by (λ x. leb x v) xs) (omega (arith, many, same (λ x. leb x v)))) in
          let only : (w : ℕ) → is_ranked xs n w ≡ true → w ≡ v = λ w e.
          (let parts : (leb (count_by (λ x. ltb x w) xs) n ≡ true) × (ltb n (count_by (λ x. leb x w) xs) ≡ true) = and_parts _ _ e in
          let fw : count_by (λ x. ltb x w) ys ≤ n = omega (arith, same (λ x. ltb x w), leb-true (count_by (λ x. ltb x w) xs) n parts.0) in
          let mw : n < count_by (λ x. leb x w) ys = omega (arith, same (λ x. leb x w), ltb-true n (count_by (λ x. leb x w) xs) parts.1) in
          omega (arith, ranked_once ys n v w few many fw mw, ranked_once ys n w v fw mw few many)) in
          find_only (is_ranked xs n) xs v here.0 v here.1 (ap (is_ranked xs n) here.2 ∙ is) only ∙ sym (slice_get-get_or ys n 0 h)
      | inr h ↦
          find_none (is_ranked xs n) xs
          (λ v. and_right _ _ (le-ltb n (count_by (λ x. leb x v) xs) (omega (arith, h, same (λ x. leb x v), count_by-le-length (λ x. leb x v) ys))))
          ∙ sym (slice_get_past ys n h)
    ]

-- there is a list in order
pub ordered : (xs : List ℕ) → (ys : List ℕ) × IsPermutation xs ys × IsNonDecreasing ys
ordered [] = ([], IsPermutation-refl [], IsNonDecreasingBy-short (λ x. x) [] (omega arith))
ordered (x ∷ xs) =
    let rest = ordered xs in
    let ys : List ℕ = rest.0 in
    let moved : IsPermutation xs ys = rest.1 in
    let p : ℕ → Bool = λ y. leb x y in
    let i : ℕ = position_or_len p ys in
    let within : i ≤ length ys = prefix_len-le-length (λ y. not (p y)) ys in
    let up : IsNonDecreasing ys = rest.2 in (
      insert ys i x,
      IsPermutation-trans (x ∷ xs) (x ∷ ys) (insert ys i x) (IsPermutation-cons x xs ys moved) (IsPermutation-insert ys i x),
      IsNonDecreasingBy-insert (λ y. y) ys i x up within
          (λ k d l. omega (arith, leb-false x (get_or ys k d) (fails_before_first p ys k d l)))
          (λ k d l m. omega (arith, leb-true x (get_or ys i d) (passes_at_first p ys d (omega (arith, l, m))), up i k d l m)),
    )

pub all_ordered : (xs : List ℕ) → (ys : List ℕ) × IsPermutation xs ys × IsNonDecreasing ys × ((n : ℕ) → ranked xs n ≡ slice_get ys n)
all_ordered xs = let o = ordered xs in (o.0, o.1, o.2, λ n. in_order xs o.0 n o.1 o.2)
