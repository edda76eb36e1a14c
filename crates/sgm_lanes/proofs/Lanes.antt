-- Facts of each lane.
use Rattle.std.proofs.Common.{◌≡◌, ℕ, suc, ◌+◌, ◌<◌, ◌≤◌, ◌-◌, ◌⊎◌, List, [], ◌∷◌, ◌++◌, length, get_or, arith, cond, ltb, min, ◌∙◌, sym, ap, subst, inl, inr, ⊎_elim, length-append, map, count_ones, bit_xor, Fits, w8, ◌^◌, ◌*◌, Bool, true, false}
use Rattle.std.proofs.Math.Facts.{Fits-of_lt}
use Rattle.std.proofs.lemmas.List.{get_or-map, length-map}
use Rattle.std.proofs.lemmas.Nat.{ones-le, xor_lt}
use Rattle.std.proofs.lemmas.Bool.{cases_lt}
use Rattle.std.proofs.lemmas.Simd.{pick_l-range_with_len, get_or-chunk, get_or-zip2, length-zip2, Each1-from_get_or}
use Rattle.std.specs.List.{range_with_len, Contains}
use Rattle.sgm_lanes.specs.Steps.{nth_of}
use Rattle.std.specs.Simd.Lanes.{Each1, Each2, pick_l, zip2}

-- what holds of each two lanes holds of the two vectors
pub Each2-from_get_or : (R : ℕ → ℕ → Type 0) (xs ys : List ℕ) → ((i : ℕ) → i < length xs → R (get_or xs i 0) (get_or ys i 0)) → Each2 R xs ys
Each2-from_get_or R [] ys h = tt
Each2-from_get_or R (x ∷ xs) [] h = tt
Each2-from_get_or R (x ∷ xs) (y ∷ ys) h = (h 0 (omega arith), Each2-from_get_or R xs ys (λ i lt. h (suc i) (omega arith)))

pub lesser_is_min : (m n : ℕ) → cond (ltb m n) m n ≡ min m n
lesser_is_min m n = grind arith

-- sixteen neighbouring lanes of two vectors
pub picked : (xs ys : List ℕ) (from i : ℕ) → length xs ≡ 16 → length ys ≡ 16 → from ≤ 16 → i < 16 → get_or (pick_l 0 (xs ++ ys) (range_with_len from 16)) i 0 ≡ get_or (xs ++ ys) (from + i) 0
picked xs ys from i a b le lt =
    let long : from + 16 ≤ length (xs ++ ys) = omega (arith, length-append xs ys) in
    let P : List ℕ → Type 0 = λ zs. get_or zs i 0 ≡ get_or (xs ++ ys) (from + i) 0 in
    subst P (sym (pick_l-range_with_len 0 (xs ++ ys) from 16 long)) (get_or-chunk from 16 (xs ++ ys) i 0 lt)

-- what holds below the places at which a chunk is written, and of the chunk, holds up to its end
pub chunk_more : (P : ℕ → ℕ → Type 0) (old new lanes : List ℕ) (at next : ℕ) → next ≡ at + 16 → ((k : ℕ) → k < at → P k (get_or old k 0)) → ((i : ℕ) → i < 16 → P (at + i) (get_or lanes i 0))
    → ((i : ℕ) → i < 16 → get_or new (at + i) 0 ≡ get_or lanes i 0) → ((k : ℕ) → (k < at) ⊎ (at + 16 ≤ k) → get_or new k 0 ≡ get_or old k 0)
    → (k : ℕ) → k < next → P k (get_or new k 0)
chunk_more P old new lanes at next is below made inside outside k lt =
    ⊎_elim (λ (x : k < at). subst (P k) (sym (outside k (inl x))) (below k x))
    (λ (x : at ≤ k). let i = k - at in let same : at + i ≡ k = omega arith in let few : i < 16 = omega arith in
    subst (λ n. P n (get_or new n 0)) same (subst (P (at + i)) (sym (inside i few)) (made i few)))
    (cases_lt k at)

-- ---- how many bits differ, lane by lane
abbrev pub counts : List ℕ → List ℕ → List ℕ
counts xs ys = map (λ x. x) (map count_ones (zip2 bit_xor xs ys))

pub length_counts : (xs ys : List ℕ) → length xs ≡ 16 → length ys ≡ 16 → length (counts xs ys) ≡ 16
length_counts xs ys a b =
    length-map (map count_ones (zip2 bit_xor xs ys)) (λ (x : ℕ). x) ∙ (length-map (zip2 bit_xor xs ys) count_ones ∙ (length-zip2 bit_xor xs ys (omega arith) ∙ a))

pub counted : (xs ys : List ℕ) (i : ℕ) → length xs ≡ 16 → length ys ≡ 16 → i < 16 → get_or (counts xs ys) i 0 ≡ count_ones (bit_xor (get_or xs i 0) (get_or ys i 0))
counted xs ys i a b lt =
    let long : length (zip2 bit_xor xs ys) ≡ 16 = length-zip2 bit_xor xs ys (omega arith) ∙ a in
    let long' : length (map count_ones (zip2 bit_xor xs ys)) ≡ 16 = length-map (zip2 bit_xor xs ys) count_ones ∙ long in
    get_or-map (λ x. x) (map count_ones (zip2 bit_xor xs ys)) i 0 0 (omega arith)
    ∙ (get_or-map count_ones (zip2 bit_xor xs ys) i 0 0 (omega arith) ∙ ap count_ones (get_or-zip2 bit_xor xs ys i 0 0 0 (omega arith) (omega arith)))

pub counts_fit : (xs ys : List ℕ) → length xs ≡ 16 → length ys ≡ 16 → ((i : ℕ) → i < 16 → get_or xs i 0 < 2 ^ 64) → ((i : ℕ) → i < 16 → get_or ys i 0 < 2 ^ 64) → Each1 (Fits w8) (counts xs ys)
counts_fit xs ys a b fx fy =
    let long = length_counts xs ys a b in
    Each1-from_get_or (Fits w8) (counts xs ys) 0
    (λ i lt. let few : i < 16 = omega arith in
    Fits-of_lt (omega (arith, counted xs ys i a b few, ones-le 64 _ (xor_lt 64 (get_or xs i 0) (get_or ys i 0) (fx i few) (fy i few)))))

-- ---- the least, lane by lane
pub Contains-min : (xs : List ℕ) (a b : ℕ) → Contains xs a → Contains xs b → Contains xs (min a b)
Contains-min xs a b ca cb =
    ⊎_elim (λ (x : a < b). let e : a ≡ min a b = omega arith in subst (Contains xs) e ca)
    (λ (x : b ≤ a). let e : b ≡ min a b = omega arith in subst (Contains xs) e cb)
    (cases_lt a b)

-- ---- sums, to which a chunk of values is added
pub chunk_added : (first old new values new_values lanes : List ℕ) (at next : ℕ) → next ≡ at + 16 → ((k : ℕ) → k < at → get_or old k 0 ≡ get_or first k 0 + get_or values k 0)
    → ((k : ℕ) → at ≤ k → get_or old k 0 ≡ get_or first k 0)
    → ((i : ℕ) → i < 16 → get_or new_values (at + i) 0 ≡ get_or lanes i 0) → ((k : ℕ) → (k < at) ⊎ (at + 16 ≤ k) → get_or new_values k 0 ≡ get_or values k 0)
    → ((i : ℕ) → i < 16 → get_or new (at + i) 0 ≡ get_or old (at + i) 0 + get_or lanes i 0) → ((k : ℕ) → (k < at) ⊎ (at + 16 ≤ k) → get_or new k 0 ≡ get_or old k 0)
    → (k : ℕ) → k < next → get_or new k 0 ≡ get_or first k 0 + get_or new_values k 0
chunk_added first old new values new_values lanes at next is added left value_inside value_outside inside outside k lt =
    ⊎_elim (λ (x : k < at). omega (arith, added k x, value_outside k (inl x), outside k (inl x)))
    (λ (x : at ≤ k). let i = k - at in let same : at + i ≡ k = omega arith in let few : i < 16 = omega arith in
    subst (λ n. get_or new n 0 ≡ get_or first n 0 + get_or new_values n 0) same
    (omega (arith, inside i few, left (at + i) (omega arith), value_inside i few)))
    (cases_lt k at)

-- ---- chunks that come in either order
-- what holds beside a chunk, and of the chunk that is written, holds at each place
pub chunk_or : (P : ℕ → ℕ → Type 0) (old new lanes : List ℕ) (at k : ℕ) → ((k < at) ⊎ (at + 16 ≤ k) → P k (get_or old k 0)) → ((i : ℕ) → i < 16 → P (at + i) (get_or lanes i 0))
    → ((i : ℕ) → i < 16 → get_or new (at + i) 0 ≡ get_or lanes i 0) → ((k : ℕ) → (k < at) ⊎ (at + 16 ≤ k) → get_or new k 0 ≡ get_or old k 0)
    → P k (get_or new k 0)
chunk_or P old new lanes at k beside made inside outside =
    ⊎_elim (λ (x : k < at). subst (P k) (sym (outside k (inl x))) (beside (inl x)))
    (λ (x : at ≤ k). ⊎_elim
    (λ (y : k < at + 16). let i = k - at in let same : at + i ≡ k = omega arith in let few : i < 16 = omega arith in
    subst (λ n. P n (get_or new n 0)) same (subst (P (at + i)) (sym (inside i few)) (made i few)))
    (λ (y : at + 16 ≤ k). subst (P k) (sym (outside k (inr y))) (beside (inr y)))
    (cases_lt k (at + 16)))
    (cases_lt k at)

-- the same of sums, to which the chunk is added
pub chunk_added_or : (first old new values new_values lanes : List ℕ) (at k : ℕ) → ((k < at) ⊎ (at + 16 ≤ k) → get_or old k 0 ≡ get_or first k 0 + get_or values k 0)
    → ((i : ℕ) → i < 16 → get_or old (at + i) 0 ≡ get_or first (at + i) 0)
    → ((i : ℕ) → i < 16 → get_or new_values (at + i) 0 ≡ get_or lanes i 0) → ((k : ℕ) → (k < at) ⊎ (at + 16 ≤ k) → get_or new_values k 0 ≡ get_or values k 0)
    → ((i : ℕ) → i < 16 → get_or new (at + i) 0 ≡ get_or old (at + i) 0 + get_or lanes i 0) → ((k : ℕ) → (k < at) ⊎ (at + 16 ≤ k) → get_or new k 0 ≡ get_or old k 0)
    → get_or new k 0 ≡ get_or first k 0 + get_or new_values k 0
chunk_added_or first old new values new_values lanes at k beside left value_inside value_outside inside outside =
    ⊎_elim (λ (x : k < at). omega (arith, beside (inl x), value_outside k (inl x), outside k (inl x)))
    (λ (x : at ≤ k). ⊎_elim
    (λ (y : k < at + 16). let i = k - at in let same : at + i ≡ k = omega arith in let few : i < 16 = omega arith in
    subst (λ n. get_or new n 0 ≡ get_or first n 0 + get_or new_values n 0) same
    (omega (arith, inside i few, left i few, value_inside i few)))
    (λ (y : at + 16 ≤ k). omega (arith, beside (inr y), value_outside k (inr y), outside k (inr y)))
    (cases_lt k (at + 16)))
    (cases_lt k at)

-- the places of the chunks that have come are those from low on, below high
abbrev pub low : Bool → ℕ → ℕ → ℕ
low true chunks n = 16 * (chunks - n)
low false chunks n = 0

abbrev pub high : Bool → ℕ → ℕ → ℕ
high true chunks n = 16 * chunks
high false chunks n = 16 * n

-- the next chunk is none of them
pub yet_to_come : (b : Bool) (chunks n m k : ℕ) → n < chunks → m ≡ nth_of b chunks n → 16 * m ≤ k → k < 16 * m + 16 → (k < low b chunks n) ⊎ (high b chunks n ≤ k)
yet_to_come true chunks n m k lt is le few = inl (omega (arith, lt, is, few))
yet_to_come false chunks n m k lt is le few = inr (omega (arith, is, le))

-- and a place that has come with it and lies beside it had come before
pub came_before : (b : Bool) (chunks n m k : ℕ) → n < chunks → m ≡ nth_of b chunks n → low b chunks (n + 1) ≤ k → k < high b chunks (n + 1) → (k < 16 * m) ⊎ (16 * m + 16 ≤ k)
    → (low b chunks n ≤ k) × (k < high b chunks n)
came_before true chunks n m k lt is le few beside =
    ⊎_elim (λ (x : k < 16 * m). absurd (omega (arith, lt, is, le, x))) (λ (x : 16 * m + 16 ≤ k). (omega (arith, lt, is, x), few)) beside
came_before false chunks n m k lt is le few beside =
    ⊎_elim (λ (x : k < 16 * m). (omega arith, omega (arith, is, x))) (λ (x : 16 * m + 16 ≤ k). absurd (omega (arith, is, few, x))) beside

-- what hasn't come with it hadn't come before, and lies beside it
pub hadnt_come : (b : Bool) (chunks n m k : ℕ) → n < chunks → m ≡ nth_of b chunks n → (k < low b chunks (n + 1)) ⊎ (high b chunks (n + 1) ≤ k)
    → ((k < 16 * m) ⊎ (16 * m + 16 ≤ k)) × ((k < low b chunks n) ⊎ (high b chunks n ≤ k))
hadnt_come true chunks n m k lt is out =
    ⊎_elim (λ (x : k < 16 * (chunks - (n + 1))). (inl (omega (arith, lt, is, x)), inl (omega (arith, lt, x))))
    (λ (x : 16 * chunks ≤ k). (inr (omega (arith, lt, is, x)), inr x)) out
hadnt_come false chunks n m k lt is out =
    ⊎_elim (λ (x : k < 0). absurd (omega (arith, x))) (λ (x : 16 * (n + 1) ≤ k). (inr (omega (arith, is, x)), inr (omega (arith, x)))) out

-- once all have come
pub all_came : (b : Bool) (chunks k : ℕ) → k < 16 * chunks → (low b chunks chunks ≤ k) × (k < high b chunks chunks)
all_came true chunks k lt = (omega arith, lt)
all_came false chunks k lt = (omega arith, lt)

pub none_above : (b : Bool) (chunks k : ℕ) → 16 * chunks ≤ k → high b chunks chunks ≤ k
none_above true chunks k le = le
none_above false chunks k le = le

-- before the first none has come
pub none_yet : (b : Bool) (chunks k : ℕ) → low b chunks 0 ≤ k → k < high b chunks 0 → k < k
none_yet true chunks k le lt = omega (arith, le, lt)
none_yet false chunks k le lt = omega (arith, lt)
