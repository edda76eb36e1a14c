-- A network of the lesser and the greater of two gives the third of five values.
use Rattle.std.proofs.Common.{◌≡◌, ℕ, ◌<◌, ◌≤◌, Bool, true, false, ◌&&◌, ◌||◌, cond, ltb, leb, min, max, List, [], ◌∷◌, zero, suc, length, unwrap_or, slice_index_or, ◌≢◌, Option, Some, refl, sym, ap, ◌∙◌, arith, ⊎_elim, subst}
use Rattle.std.specs.List.{count_by, find, Contains}
use Rattle.std.proofs.lemmas.Bool.Decides.{nat_tests}
use Rattle.std.proofs.lemmas.Bool.{cases_lt}
use Rattle.sgm_lanes.proofs.Lanes.{Contains-min}
use Rattle.sgm_lanes.specs.Middles.{is_third, middle_of}

-- ---- the network, of numbers and of tests

abbrev pub network : ℕ → ℕ → ℕ → ℕ → ℕ → ℕ
network a b c d e =
    let low : ℕ = max (min b c) (min d e) in
    let high : ℕ = min (max b c) (max d e) in
    max (min low high) (min a (max low high))

abbrev vote : Bool → Bool → Bool → Bool → Bool → Bool
vote a b c d e =
    let low : Bool = (b || c) && (d || e) in
    let high : Bool = (b && c) || (d && e) in
    (low || high) && (a || (low && high))

-- three or more of the five are true
voted : (a b c d e : Bool) → vote a b c d e ≡ leb 3 (count_by (λ x. x) (a ∷ b ∷ c ∷ d ∷ e ∷ []))
voted true true true true true = refl
voted true true true true false = refl
voted true true true false true = refl
voted true true true false false = refl
voted true true false true true = refl
voted true true false true false = refl
voted true true false false true = refl
voted true true false false false = refl
voted true false true true true = refl
voted true false true true false = refl
voted true false true false true = refl
voted true false true false false = refl
voted true false false true true = refl
voted true false false true false = refl
voted true false false false true = refl
voted true false false false false = refl
voted false true true true true = refl
voted false true true true false = refl
voted false true true false true = refl
voted false true true false false = refl
voted false true false true true = refl
voted false true false true false = refl
voted false true false false true = refl
voted false true false false false = refl
voted false false true true true = refl
voted false false true true false = refl
voted false false true false true = refl
voted false false true false false = refl
voted false false false true true = refl
voted false false false true false = refl
voted false false false false true = refl
voted false false false false false = refl

min_le : (a b t : ℕ) → leb (min a b) t ≡ (leb a t || leb b t)
min_le a b t = grind (arith, nat_tests)

max_le : (a b t : ℕ) → leb (max a b) t ≡ (leb a t && leb b t)
max_le a b t = grind (arith, nat_tests)

min_lt : (a b t : ℕ) → ltb (min a b) t ≡ (ltb a t || ltb b t)
min_lt a b t = grind (arith, nat_tests)

max_lt : (a b t : ℕ) → ltb (max a b) t ≡ (ltb a t && ltb b t)
max_lt a b t = grind (arith, nat_tests)

network_le : (a b c d e t : ℕ) → leb (network a b c d e) t ≡ leb 3 (count_by (λ w. leb w t) (a ∷ b ∷ c ∷ d ∷ e ∷ []))
network_le a b c d e t = simp (max_le, min_le) (voted (leb a t) (leb b t) (leb c t) (leb d t) (leb e t))

network_lt : (a b c d e t : ℕ) → ltb (network a b c d e) t ≡ leb 3 (count_by (λ w. ltb w t) (a ∷ b ∷ c ∷ d ∷ e ∷ []))
network_lt a b c d e t = simp (max_lt, min_lt) (voted (ltb a t) (ltb b t) (ltb c t) (ltb d t) (ltb e t))

-- ---- the third is found, and no other

third_only : (m v less most : ℕ) → leb m v ≡ leb 3 most → ltb m v ≡ leb 3 less → (ltb less 3 && leb 3 most) ≡ true → v ≡ m
third_only m v less most at below both = grind (arith, nat_tests)

third_itself : (m less most : ℕ) → leb m m ≡ leb 3 most → ltb m m ≡ leb 3 less → (ltb less 3 && leb 3 most) ≡ true
third_itself m less most at below = grind (arith, nat_tests)

-- an element of a list that isn't its first is one of the rest
later : (x m : ℕ) (xs : List ℕ) (k : ℕ) → k < suc (length xs) → slice_index_or (x ∷ xs) k m ≡ m → x ≢ m → Contains xs m
later x m xs zero lt is apart = absurd (apart is)
later x m xs (suc k) lt is apart = (k, omega arith, is)

find_step : (p : ℕ → Bool) (m x : ℕ) (rest : Option ℕ) (passes : Bool) → p x ≡ passes → (p x ≡ true → x ≡ m) → p m ≡ true → (x ≢ m → rest ≡ Some m) → cond (p x) (Some x) rest ≡ Some m
find_step p m x rest true is only here after = ap (λ b. cond b (Some x) rest) is ∙ ap (λ v. Some v) (only is)
find_step p m x rest false is only here after =
    ap (λ b. cond b (Some x) rest) is ∙ after (λ same. let no : p m ≡ false = sym (ap p same) ∙ is in cc)

find_only : (p : ℕ → Bool) (m : ℕ) (xs : List ℕ) → ((v : ℕ) → p v ≡ true → v ≡ m) → p m ≡ true → Contains xs m → find p xs ≡ Some m
find_only p m [] only here (k, lt, is) = absurd (omega arith)
find_only p m (x ∷ xs) only here (k, lt, is) =
    find_step p m x (find p xs) (p x) refl (only x) here (λ apart. find_only p m xs only here (later x m xs k lt is apart))

-- ---- the network's value is one of the five

Contains-max : (xs : List ℕ) (a b : ℕ) → Contains xs a → Contains xs b → Contains xs (max a b)
Contains-max xs a b ca cb =
    ⊎_elim (λ (x : a < b). let e : b ≡ max a b = omega arith in subst (Contains xs) e cb)
    (λ (x : b ≤ a). let e : a ≡ max a b = omega arith in subst (Contains xs) e ca)
    (cases_lt a b)

network_contained : (a b c d e : ℕ) → Contains (a ∷ b ∷ c ∷ d ∷ e ∷ []) (network a b c d e)
network_contained a b c d e =
    let xs : List ℕ = a ∷ b ∷ c ∷ d ∷ e ∷ [] in
    let own : Contains xs a = (0, omega arith, refl) in
    let right : Contains xs b = (1, omega arith, refl) in
    let left : Contains xs c = (2, omega arith, refl) in
    let below : Contains xs d = (3, omega arith, refl) in
    let above : Contains xs e = (4, omega arith, refl) in
    let low = Contains-max xs (min b c) (min d e) (Contains-min xs b c right left) (Contains-min xs d e below above) in
    let high = Contains-min xs (max b c) (max d e) (Contains-max xs b c right left) (Contains-max xs d e below above) in
    let l : ℕ = max (min b c) (min d e) in
    let h : ℕ = min (max b c) (max d e) in
    Contains-max xs (min l h) (min a (max l h)) (Contains-min xs l h low high) (Contains-min xs a (max l h) own (Contains-max xs l h low high))

pub middle_of-network : (a b c d e : ℕ) → middle_of a b c d e ≡ network a b c d e
unfolding middle_of
middle_of-network a b c d e =
    let xs : List ℕ = a ∷ b ∷ c ∷ d ∷ e ∷ [] in
    let m : ℕ = network a b c d e in
    let at : ℕ → ℕ = λ t. count_by (λ w. leb w t) xs in
    let below : ℕ → ℕ = λ t. count_by (λ w. ltb w t) xs in
    ap (λ (o : Option ℕ). unwrap_or o 0)
    (find_only (is_third xs) m xs
    (λ v is. third_only m v (below v) (at v) (network_le a b c d e v) (network_lt a b c d e v) is)
    (third_itself m (below m) (at m) (network_le a b c d e m) (network_lt a b c d e m))
    (network_contained a b c d e))
