-- Words and their bits.
use Rattle.std.proofs.Common.{◌≡◌, ℕ, ◌+◌, ◌*◌, ◌/◌, ◌%◌, ◌^◌, ◌<◌, ◌≤◌, zero, suc, Bool, true, false, eqb, List, [], ◌∷◌, ◌++◌, length, refl, sym, ap, ◌∙◌, subst, arith, append_assoc, append-nil, length-append, bit_xor, count_ones, ◌⊎◌, inl, inr, drop}
use Rattle.std.specs.List.{remove}
use Rattle.std.proofs.lemmas.Bool.{cases_lt}
use Rattle.std.proofs.lemmas.List.{take_at, drop_at}
use Rattle.std.proofs.lemmas.Nat.{xor_block, ones_cat, xor_lt, mod_below, pow_pos, shr_split, shr_below, mod-pow-add, pow-add}
use Rattle.std.proofs.Math.Nat.{pow-suc, mul-le-mul_right}
use Rattle.sgm_census.specs.Costs.{differs, differing}
use Rattle.std.specs.Int.{from_bool}
use Rattle.sgm_census.specs.Packed.{bits_of, pushed}

pub length-bits_of : (n w : ℕ) → length (bits_of n w) ≡ n
unfolding bits_of
length-bits_of zero w = refl
length-bits_of (suc n) w = omega (arith, length-append (bits_of n (w / 2)) (eqb (w % 2) 1 ∷ []), length-bits_of n (w / 2))

pub bits_of-none : (w : ℕ) → bits_of 0 w ≡ []
unfolding bits_of
bits_of-none w = refl

-- one bit more at the end
bits_of-suc : (n w : ℕ) (b : Bool) → bits_of (suc n) (2 * w + from_bool b) ≡ bits_of n w ++ b ∷ []
unfolding bits_of
bits_of-suc n w true =
    let half : (2 * w + 1) / 2 ≡ w = omega arith in
    let low : (2 * w + 1) % 2 ≡ 1 = omega arith in
    rw (half, low) refl
bits_of-suc n w false =
    let half : (2 * w + 0) / 2 ≡ w = omega arith in
    let low : (2 * w + 0) % 2 ≡ 0 = omega arith in
    rw (half, low) refl

pub bits_of-pushed : (n w m : ℕ) (bs : List Bool) → m ≡ n + length bs → bits_of m (pushed w bs) ≡ bits_of n w ++ bs
bits_of-pushed n w m [] e =
    let same : m ≡ n = omega arith in
    ap (λ k. bits_of k w) same ∙ sym (append-nil (bits_of n w))
bits_of-pushed n w m (b ∷ bs) e =
    bits_of-pushed (suc n) (2 * w + from_bool b) m bs (omega arith) ∙ ap (λ xs. xs ++ bs) (bits_of-suc n w b) ∙ append_assoc (bits_of n w) (b ∷ []) bs

pushed_one : (w : ℕ) (b : Bool) → 2 * w + from_bool b + 1 ≤ 2 * (w + 1)
pushed_one w true = omega arith
pushed_one w false = omega arith

pub pushed_below : (w : ℕ) (bs : List Bool) → pushed w bs + 1 ≤ (w + 1) * 2 ^ length bs
pushed_below w [] = omega arith
pushed_below w (b ∷ bs) =
    let p = 2 ^ length bs in
    let more : (2 * w + from_bool b + 1) * p ≤ (2 * (w + 1)) * p = mul-le-mul_right p (pushed_one w b) in
    let rest : pushed w (b ∷ bs) + 1 ≤ (2 * w + from_bool b + 1) * p = pushed_below (2 * w + from_bool b) bs in
    let power : 2 ^ length (b ∷ bs) ≡ p * 2 = pow-suc 2 (length bs) in
    let whole : (w + 1) * 2 ^ length (b ∷ bs) ≡ (w + 1) * (p * 2) = ap (λ z. (w + 1) * z) power in
    omega (arith, rest, more, whole)

pub bits_of-cat : (a b m high low : ℕ) → m ≡ a + b → low < 2 ^ b → bits_of m (high * 2 ^ b + low) ≡ bits_of a high ++ bits_of b low
unfolding bits_of
bits_of-cat a zero m high low e h =
    let same : m ≡ a = omega arith in
    let word : high * 2 ^ 0 + low ≡ high = omega arith in
    rw (same, word) (sym (append-nil (bits_of a high)))
bits_of-cat a (suc b) m high low e h =
    let more : m ≡ suc (a + b) = omega arith in
    let power : high * 2 ^ suc b ≡ high * (2 ^ b * 2) = ap (λ z. high * z) (pow-suc 2 b) in
    let word : high * 2 ^ suc b + low ≡ 2 * (high * 2 ^ b) + low = omega arith in
    let half : (2 * (high * 2 ^ b) + low) / 2 ≡ high * 2 ^ b + low / 2 = omega arith in
    let last : (2 * (high * 2 ^ b) + low) % 2 ≡ low % 2 = omega arith in
    rw (more, word, half, last) (ap (λ xs. xs ++ eqb (low % 2) 1 ∷ []) (bits_of-cat a b (a + b) high (low / 2) refl (omega (arith, pow-suc 2 b))) ∙ append_assoc (bits_of a high) (bits_of b (low / 2)) (eqb (low % 2) 1 ∷ []))

-- one truth value more at the end of each
differing-push : (xs ys : List Bool) (a b : Bool) → length xs ≡ length ys → differing (xs ++ a ∷ []) (ys ++ b ∷ []) ≡ differing xs ys + differs a b
differing-push [] [] a b e = omega arith
differing-push [] (y ∷ ys) a b e = absurd (omega arith)
differing-push (x ∷ xs) [] a b e = absurd (omega arith)
differing-push (x ∷ xs) (y ∷ ys) a b e = omega (arith, differing-push xs ys a b (omega arith))

bit_cases : (n : ℕ) → (n % 2 ≡ 0) ⊎ (n % 2 ≡ 1)
bit_cases n = elim (cases_lt (n % 2) 1) [ inl h ↦ inl (omega arith) | inr h ↦ inr (omega arith) ]

one_bit : (a b : ℕ) → differs (eqb (a % 2) 1) (eqb (b % 2) 1) ≡ count_ones (bit_xor (a % 2) (b % 2))
unfolding lib.Count.ones
one_bit a b = elim (bit_cases a) [
  | inl ea ↦ elim (bit_cases b) [ inl eb ↦ rw (ea, eb) refl | inr eb ↦ rw (ea, eb) refl ]
  | inr ea ↦ elim (bit_cases b) [ inl eb ↦ rw (ea, eb) refl | inr eb ↦ rw (ea, eb) refl ]
]

pub differing-bits_of : (n a b : ℕ) → a < 2 ^ n → b < 2 ^ n → differing (bits_of n a) (bits_of n b) ≡ count_ones (bit_xor a b)
unfolding bits_of lib.Count.ones
differing-bits_of zero a b h k =
    let ea : a ≡ 0 = omega arith in
    let eb : b ≡ 0 = omega arith in
    rw (ea, eb) refl
differing-bits_of (suc n) a b h k =
    let ea : a ≡ a / 2 * 2 ^ 1 + a % 2 = omega arith in
    let eb : b ≡ b / 2 * 2 ^ 1 + b % 2 = omega arith in
    let la : a % 2 < 2 ^ 1 = omega arith in
    let lb : b % 2 < 2 ^ 1 = omega arith in
    let blocks : bit_xor a b ≡ bit_xor (a / 2) (b / 2) * 2 ^ 1 + bit_xor (a % 2) (b % 2) =
    ap (λ z. bit_xor z b) ea ∙ ap (λ z. bit_xor (a / 2 * 2 ^ 1 + a % 2) z) eb ∙ xor_block 1 (a / 2) (b / 2) (a % 2) (b % 2) la lb in
    let counted : count_ones (bit_xor a b) ≡ count_ones (bit_xor (a / 2) (b / 2)) + count_ones (bit_xor (a % 2) (b % 2)) =
    ap count_ones blocks ∙ ones_cat 1 (bit_xor (a / 2) (b / 2)) (bit_xor (a % 2) (b % 2)) (xor_lt 1 (a % 2) (b % 2) la lb) in
    let rest = differing-bits_of n (a / 2) (b / 2) (omega (arith, pow-suc 2 n)) (omega (arith, pow-suc 2 n)) in
    differing-push (bits_of n (a / 2)) (bits_of n (b / 2)) (eqb (a % 2) 1) (eqb (b % 2) 1) (length-bits_of n (a / 2) ∙ sym (length-bits_of n (b / 2)))
    ∙ omega (arith, counted, rest, one_bit a b)

remove_middle : {X : Type 0} (xs ys zs : List X) (m : ℕ) → length xs ≡ m → length ys ≡ 1 → remove (xs ++ (ys ++ zs)) m ≡ xs ++ zs
remove_middle xs [] zs m e f = absurd (omega arith)
remove_middle xs (y ∷ []) zs m e f =
    ap (λ us. us ++ drop (suc m) (xs ++ (y ∷ zs))) (take_at xs (y ∷ zs) m e)
    ∙ ap (λ us. xs ++ us) (ap (λ us. drop (suc m) us) (sym (append_assoc xs (y ∷ []) zs)) ∙ drop_at (xs ++ y ∷ []) zs (suc m) (omega (arith, length-append xs (y ∷ []), e)))
remove_middle xs (y ∷ z ∷ ys) zs m e f = absurd (omega arith)

-- a word without its middle bit
pub bits_of-without : (m n k word : ℕ) → n ≡ m + m → k ≡ n + 1 → bits_of n (word / 2 ^ (m + 1) * 2 ^ m + word % 2 ^ m) ≡ remove (bits_of k word) m
bits_of-without m n k word en ek =
    let high = word / 2 ^ (m + 1) in
    let middle = word / 2 ^ m % 2 ^ 1 in
    let low = word % 2 ^ m in
    let small : low < 2 ^ m = mod_below word (2 ^ m) (pow_pos m) in
    let parts : word ≡ high * 2 ^ (m + 1) + word % 2 ^ (m + 1) = sym (shr_split word (m + 1)) in
    let order : m + 1 ≡ 1 + m = omega arith in
    let rest : word % 2 ^ (m + 1) ≡ middle * 2 ^ m + low = ap (λ z. word % 2 ^ z) order ∙ mod-pow-add word 1 m in
    let whole : bits_of k word ≡ bits_of m high ++ (bits_of 1 middle ++ bits_of m low) =
    ap (λ z. bits_of k z) parts
    ∙ bits_of-cat m (m + 1) k high (word % 2 ^ (m + 1)) (omega arith) (mod_below word (2 ^ (m + 1)) (pow_pos (m + 1)))
    ∙ ap (λ us. bits_of m high ++ us) (ap (λ z. bits_of (m + 1) z) rest ∙ bits_of-cat 1 m (m + 1) middle low order small) in
    bits_of-cat m m n high low en small
    ∙ sym (ap (λ us. remove us m) whole ∙ remove_middle (bits_of m high) (bits_of 1 middle) (bits_of m low) m (length-bits_of m high) (length-bits_of 1 middle))

pub without_small : (m n word : ℕ) → n ≡ m + m → word < 2 ^ (n + 1) → word / 2 ^ (m + 1) * 2 ^ m + word % 2 ^ m < 2 ^ n
without_small m n word en h =
    let high = word / 2 ^ (m + 1) in
    let split : n + 1 ≡ m + (m + 1) = omega arith in
    let small : word < 2 ^ (m + (m + 1)) = subst (λ z. word < 2 ^ z) split h in
    let below : high < 2 ^ m = shr_below word m (m + 1) small in
    let low : word % 2 ^ m < 2 ^ m = mod_below word (2 ^ m) (pow_pos m) in
    let more : (high + 1) * 2 ^ m ≤ 2 ^ m * 2 ^ m = mul-le-mul_right (2 ^ m) (omega arith) in
    let square : 2 ^ n ≡ 2 ^ m * 2 ^ m = ap (λ z. 2 ^ z) en ∙ pow-add 2 m m in
    omega (arith, more, square, low)
