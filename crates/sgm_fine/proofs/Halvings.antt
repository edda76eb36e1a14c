-- The least and the greatest of some numbers, and how often their distance has to be halved.
use Rattle.std.proofs.Common.{◌≡◌, ℕ, ◌+◌, ◌-◌, ◌*◌, ◌/◌, ◌^◌, ◌<◌, ◌≤◌, zero, suc, refl, List, [], ◌∷◌, ◌++◌, Bool, true, false, length, Some, Contains, slice_index, ℤ, pos, arith, ap, ap₂, subst, sym, ◌∙◌, ⊎_elim}
use Rattle.std.specs.List.{All, find, fold, list_all, range_with_len}
use Rattle.std.specs.Prelude.{min, max, nat_lt, slice_index_or, unwrap_or}
use Rattle.std.proofs.lemmas.Bool.{cases_lt, cond-false, cond-true, lt-ltb, le-ltb}
use Rattle.std.proofs.lemmas.Int.{ints}
use Rattle.std.proofs.lemmas.Bool.Decides.{Decides-by_and}
use Rattle.std.proofs.lemmas.List.Elements.{All-append, All-contains, All-weaker, Contains-append_left, Contains-append_right, Contains-get_or}
use Rattle.std.proofs.lemmas.List.Folds.{list_all_at}
use Rattle.std.proofs.lemmas.Nat.{le-div, leading_length, pow-add, pow_pos, shr-shr, shr_below, shr_le}
use Rattle.std.proofs.Math.Pow.{pow_mono}
use lib.Count.{count_leading_zeros}
use Rattle.std.proofs.Math.Nat.{div-mul-le_self}
use Rattle.sgm_fine.specs.Small.{IsGreatest, IsLeast, halved, halvings, least, small}
use Rattle.sgm_base.specs.Ranges.{IsFromTo}

-- a quotient grows with its number
pub quotient_up : (a b k : ℕ) → 0 < k → a ≤ b → a / k ≤ b / k
quotient_up a b k some le = le-div (a / k) b k some (omega (arith, le, div-mul-le_self a k))

-- a sample halved is at most the greatest one halved
pub halved_up : (low n v w : ℕ) → v ≤ w → halved low n v ≤ halved low n w
halved_up low n v w le = quotient_up (v - low) (w - low) (2 ^ n) (pow_pos n) (omega (arith, le))

-- more halvings make no greater number
pub halved_more : (a j k : ℕ) → j ≤ k → a / 2 ^ k ≤ a / 2 ^ j
halved_more a j k le =
    let more : j + (k - j) ≡ k = omega (arith, le) in
    subst (λ n. a / 2 ^ n ≤ a / 2 ^ j) more (subst (λ z. z ≤ a / 2 ^ j) (shr-shr a j (k - j)) (shr_le (a / 2 ^ j) (k - j)))

least_low : (a : ℕ) (xs : List ℕ) → fold min a xs ≤ a
least_low a [] = omega arith
least_low a (x ∷ xs) = let low = least_low (min a x) xs in omega (arith, low)

least_above : (m a : ℕ) (xs : List ℕ) → m ≤ a → All (λ v. m ≤ v) xs → m ≤ fold min a xs
least_above m a [] le all = le
least_above m a (x ∷ xs) le all = least_above m (min a x) xs (omega (arith, le, all 0 0 (omega arith))) (λ k d lt. all (suc k) d (omega (arith, lt)))

least_at : (a : ℕ) (xs : List ℕ) (k d : ℕ) → k < length xs → fold min a xs ≤ slice_index_or xs k d
least_at a [] k d lt = absurd (omega (arith, lt))
least_at a (x ∷ xs) zero d lt = let low = least_low (min a x) xs in omega (arith, low)
least_at a (x ∷ xs) (suc k) d lt = least_at (min a x) xs k d (omega (arith, lt))

pub least_each : (a : ℕ) (xs : List ℕ) (k d : ℕ) → k < length (a ∷ xs) → fold min a xs ≤ slice_index_or (a ∷ xs) k d
least_each a xs zero d lt = least_low a xs
least_each a xs (suc k) d lt = least_at a xs k d (omega (arith, lt))

-- what is among the numbers and not above them is the least
pub least_is : (m : ℕ) (xs : List ℕ) → IsLeast m xs → m ≡ least xs
least_is m [] h = let no : 1 ≤ 0 = All-contains (λ v. 1 ≤ 0) [] m (λ k d lt. absurd (omega (arith, lt))) h.contained in absurd (omega (arith, no))
least_is m (x ∷ xs) h =
    let up : m ≤ fold min x xs = least_above m x xs (h.bound 0 0 (omega arith)) (λ k d lt. h.bound (suc k) d (omega (arith, lt))) in
    let down : fold min x xs ≤ m = All-contains (λ v. fold min x xs ≤ v) (x ∷ xs) m (least_each x xs) h.contained in
    omega (arith, up, down)

pub Contains-min : (xs : List ℕ) (a b : ℕ) → Contains xs a → Contains xs b → Contains xs (min a b)
Contains-min xs a b ca cb =
    ⊎_elim (λ (x : a < b). let e : a ≡ min a b = omega arith in subst (Contains xs) e ca)
    (λ (x : b ≤ a). let e : b ≡ min a b = omega arith in subst (Contains xs) e cb)
    (cases_lt a b)

pub Contains-max : (xs : List ℕ) (a b : ℕ) → Contains xs a → Contains xs b → Contains xs (max a b)
Contains-max xs a b ca cb =
    ⊎_elim (λ (x : a < b). let e : b ≡ max a b = omega arith in subst (Contains xs) e cb)
    (λ (x : b ≤ a). let e : a ≡ max a b = omega arith in subst (Contains xs) e ca)
    (cases_lt a b)

pub IsLeast-append : (m n : ℕ) (xs ys : List ℕ) → IsLeast m xs → IsLeast n ys → IsLeast (min m n) (xs ++ ys)
IsLeast-append m n xs ys p q = record {
  contained = Contains-min (xs ++ ys) m n (Contains-append_left xs ys m p.contained) (Contains-append_right xs ys n q.contained);
  bound = All-append (λ v. min m n ≤ v) xs ys (All-weaker (λ v. m ≤ v) (λ v. min m n ≤ v) (λ v h. omega (arith, h)) xs p.bound)
      (All-weaker (λ v. n ≤ v) (λ v. min m n ≤ v) (λ v h. omega (arith, h)) ys q.bound);
}

pub IsGreatest-append : (m n : ℕ) (xs ys : List ℕ) → IsGreatest m xs → IsGreatest n ys → IsGreatest (max m n) (xs ++ ys)
IsGreatest-append m n xs ys p q = record {
  contained = Contains-max (xs ++ ys) m n (Contains-append_left xs ys m p.contained) (Contains-append_right xs ys n q.contained);
  bound = All-append (λ v. v ≤ max m n) xs ys (All-weaker (λ v. v ≤ m) (λ v. v ≤ max m n) (λ v h. omega (arith, h)) xs p.bound)
      (All-weaker (λ v. v ≤ n) (λ v. v ≤ max m n) (λ v h. omega (arith, h)) ys q.bound);
}

find_first : (p : ℕ → Bool) (low n a : ℕ) → low ≤ a → a < low + n → p a ≡ true → ((j : ℕ) → low ≤ j → j < a → p j ≡ false) → find p (range_with_len low n) ≡ Some a
find_first p low zero a from to is not_yet = absurd (omega (arith, from, to))
find_first p low (suc n) a from to is not_yet =
    ⊎_elim (λ (lt : low < a). cond-false (p low) (Some low) (find p (range_with_len (low + 1) n)) (not_yet low (omega arith) lt)
    ∙ find_first p (low + 1) n a (omega (arith, lt)) (omega (arith, to)) is (λ j h. not_yet j (omega (arith, h))))
    (λ (ge : a ≤ low). let e : low ≡ a = omega (arith, ge, from) in cond-true (p low) (Some low) (find p (range_with_len (low + 1) n)) (ap p e ∙ is) ∙ ap Some e)
    (cases_lt low a)

-- whether all samples less a number are below a limit, halved so often
passes : ℕ → List ℕ → ℕ → ℕ → Bool
passes limit xs low j = list_all (λ v. nat_lt (halved low j v) limit) xs

passes_all : (limit low high j : ℕ) (xs : List ℕ) → All (λ v. v ≤ high) xs → halved low j high < limit → passes limit xs low j ≡ true
unfolding passes
passes_all limit low high j xs all lt =
    let q = λ (v : ℕ). nat_lt (halved low j v) limit in
    (Decides-by_and q (λ v. q v ≡ true) (list_all q) (λ v. (λ e. e, λ e. e)) refl (λ _ _. refl) xs).1
    (All-weaker (λ v. v ≤ high) (λ v. q v ≡ true) (λ v h. lt-ltb (halved low j v) limit (omega (arith, lt, halved_up low j v high h))) xs all)

passes_none : (limit low high j : ℕ) (xs : List ℕ) → Contains xs high → limit ≤ halved low j high → passes limit xs low j ≡ false
unfolding passes
passes_none limit low high j xs has le =
    let q = λ (v : ℕ). nat_lt (halved low j v) limit in
    list_all_at q xs has.0 high has.1 (ap q has.2 ∙ le-ltb (halved low j high) limit le)

-- what the code finds is how often the samples are halved
pub halvings_is : (limit low high a : ℕ) (xs : List ℕ) → IsLeast low xs → IsGreatest high xs → a ≤ 20 → halved low a high < limit → ((j : ℕ) → j < a → limit ≤ halved low j high) → halvings limit xs ≡ a
unfolding passes
halvings_is limit low high a xs p q few enough before =
    let found : find (passes limit xs low) (range_with_len 0 21) ≡ Some a = find_first (passes limit xs low) 0 21 a (omega arith) (omega (arith, few))
    (passes_all limit low high a xs q.bound enough) (λ j _ lt. passes_none limit low high j xs q.contained (before j lt)) in
    ap (λ l. unwrap_or (find (passes limit xs l) (range_with_len 0 21)) 0) (sym (least_is low xs p)) ∙ ap (λ o. unwrap_or o 0) found

-- how often the distance of the least and the greatest of some samples is halved until it is below a limit
pub record IsHalved (limit low high a : ℕ) (all : List ℕ) : Type 0 where
  pub low_is : IsLeast low all
  pub high_is : IsGreatest high all
  pub few : a ≤ 20
  pub enough : halved low a high < limit
  pub before : (j : ℕ) → j < a → limit ≤ halved low j high

pub halves : {limit low high a : ℕ} {all : List ℕ} → IsLeast low all → IsGreatest high all → a ≤ 20 → (high - low) / 2 ^ a < limit → ((j : ℕ) → j < a → limit ≤ (high - low) / 2 ^ j) → IsHalved limit low high a all
halves p q few enough before = record { low_is = p; high_is = q; few = few; enough = enough; before = before }

pub halved_is : (limit low high a v : ℕ) (all : List ℕ) → IsHalved limit low high a all → halved low a v ≡ halved (least all) (halvings limit all) v
halved_is limit low high a v all h = ap₂ (λ l n. halved l n v) (least_is low all h.low_is) (sym (halvings_is limit low high a all h.low_is h.high_is h.few h.enough h.before))

pub halved_below : (limit low high a v : ℕ) (all : List ℕ) → IsHalved limit low high a all → Contains all v → halved low a v < limit
halved_below limit low high a v all h has =
    let le : v ≤ high = All-contains (λ w. w ≤ high) all v h.high_is.bound has in
    omega (arith, h.enough, halved_up low a v high le)

pub least_below : (low v : ℕ) (all : List ℕ) → IsLeast low all → Contains all v → low ≤ v
least_below low v all h has = All-contains (λ w. low ≤ w) all v h.bound has

-- what the code makes of a sample
pub small_is : (limit low high a : ℕ) (all samples : List ℕ) (k : ℕ) (z : ℤ) → IsHalved limit low high a all → z ≡ pos (halved low a (slice_index samples k)) → z ≡ small limit all samples k
small_is limit low high a all samples k z h e = e ∙ ap pos (halved_is limit low high a (slice_index samples k) all h)

pub small_within : (limit low high a v : ℕ) (all : List ℕ) (z : ℤ) → IsHalved (limit + 1) low high a all → Contains all v → z ≡ pos (halved low a v) → IsFromTo (pos 0) (pos limit) z
small_within limit low high a v all z h has e =
    let lt = halved_below (limit + 1) low high a v all h has in
    (omega (arith, ints, e, lt), omega (arith, ints, e, lt))

-- the samples at three offsets
pub in_first : (xs ys zs : List ℕ) (k : ℕ) → k < length xs → Contains (xs ++ ys ++ zs) (slice_index xs k)
in_first xs ys zs k lt = Contains-append_left (xs ++ ys) zs _ (Contains-append_left xs ys _ (Contains-get_or xs k 0 lt))

pub in_second : (xs ys zs : List ℕ) (k : ℕ) → k < length ys → Contains (xs ++ ys ++ zs) (slice_index ys k)
in_second xs ys zs k lt = Contains-append_left (xs ++ ys) zs _ (Contains-append_right xs ys _ (Contains-get_or ys k 0 lt))

pub in_third : (xs ys zs : List ℕ) (k : ℕ) → k < length zs → Contains (xs ++ ys ++ zs) (slice_index zs k)
in_third xs ys zs k lt = Contains-append_right (xs ++ ys) zs _ (Contains-get_or zs k 0 lt)

-- the greatest of them has 20 bits as all have
pub greatest_small : (m n : ℕ) (xs ys zs : List ℕ) → IsGreatest n (xs ++ ys ++ zs) → All (λ v. v < m) xs → All (λ v. v < m) ys → All (λ v. v < m) zs → n < m
greatest_small m n xs ys zs h a b c = All-contains (λ v. v < m) (xs ++ ys ++ zs) n (All-append (λ v. v < m) (xs ++ ys) zs (All-append (λ v. v < m) xs ys a b) c) h.contained

-- how often a number of 32 bits has to be halved until it has no more than b bits
halvings_few : (m n : ℕ) → n < 2 ^ 20 → 2 ^ m ≤ 2 * n + 1 → m ≤ 20
halvings_few m n small low =
    ⊎_elim (λ (x : 20 < m). let p : 2 ^ 21 ≤ 2 ^ m = pow_mono x in absurd (omega (arith, small, low, p)))
    (λ (x : m ≤ 20). x)
    (cases_lt 20 m)

pub length_few : (b n r : ℕ) → n < 2 ^ 20 → r ≡ (32 - count_leading_zeros 32 n) - b → r ≤ 20
length_few b n r small is =
    let found = leading_length 32 n (omega (arith, small)) in
    let few = halvings_few found.0 n small found.3 in
    omega (arith, few, found.1, is)

pub length_enough : (b n r : ℕ) → n < 2 ^ 20 → r ≡ (32 - count_leading_zeros 32 n) - b → n / 2 ^ r < 2 ^ b
length_enough b n r small is =
    let found = leading_length 32 n (omega (arith, small)) in
    let up : 2 ^ found.0 ≤ 2 ^ (b + r) = pow_mono (omega (arith, found.1, is)) in
    shr_below n b r (omega (arith, up, found.2))

pub length_least : (b n r : ℕ) → n < 2 ^ 20 → r ≡ (32 - count_leading_zeros 32 n) - b → (j : ℕ) → j < r → 2 ^ b ≤ n / 2 ^ j
length_least b n r small is j lt =
    let found = leading_length 32 n (omega (arith, small)) in
    let up : 2 ^ (b + j + 1) ≤ 2 ^ found.0 = pow_mono (omega (arith, found.1, is, lt)) in
    let twice : 2 ^ (b + j + 1) ≡ 2 ^ (b + j) * 2 = pow-add 2 (b + j) 1 in
    le-div (2 ^ b) n (2 ^ j) (pow_pos j) (omega (arith, up, twice, found.3, pow-add 2 b j))
