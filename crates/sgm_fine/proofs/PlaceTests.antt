-- Which places are tried, and the best one of those that are tried so far.
use Rattle.std.proofs.Common.{◌≡◌, ℕ, zero, suc, ◌+◌, ◌-◌, ◌*◌, ◌/◌, ◌<◌, ◌≤◌, ◌≤ℤ◌, Bool, true, false, ◌&&◌, nat_lt, List, [], ◌∷◌, ◌++◌, filter, get_or, length, if◌then◌else◌, ℤ, pos, negsuc, ◌+ℤ◌, int_le, unsigned_abs, refl, arith, ap, ap₂, subst, sym, ◌∙◌}
use Rattle.std.specs.List.{best_of}
use Rattle.std.proofs.lemmas.Bool.{cond_both}
use Rattle.std.proofs.lemmas.Int.{ints}
use Rattle.std.proofs.lemmas.List.{take_more}
use Rattle.std.proofs.lemmas.List.Elements.{filter-append}
use Rattle.std.proofs.lemmas.List.Sums.{fold-append}
use lib.ListN.{take}
use Rattle.sgm_base.specs.Ranges.{Within}
use Rattle.sgm_fine.specs.Finer.{best, explains, fits, order, place_score}
use Rattle.sgm_fine.specs.Samples.{Centre}

-- the best place of those among the first k that pass a test
pub best_below : (ℤ → Bool) → (ℤ → ℕ) → List ℤ → ℕ → ℤ
best_below q f xs k = best_of (λ a b. nat_lt (f b) (f a)) (pos 0) (filter q (take k xs))

one_more : (q : ℤ → Bool) (f : ℤ → ℕ) (b : ℤ) (c : ℤ) (t : Bool) → q c ≡ t
    → best_of (λ a b. nat_lt (f b) (f a)) b (filter q (c ∷ [])) ≡ (if t && nat_lt (f b) (f c) then c else b)
one_more q f b c true e = ap (λ t. best_of (λ a b. nat_lt (f b) (f a)) b (if t then c ∷ [] else [])) e
one_more q f b c false e = ap (λ t. best_of (λ a b. nat_lt (f b) (f a)) b (if t then c ∷ [] else [])) e

best_more : (q : ℤ → Bool) (f : ℤ → ℕ) (xs : List ℤ) (k : ℕ) (c : ℤ) → k < length xs → c ≡ get_or xs k (pos 0)
    → best_below q f xs (k + 1) ≡ (if q c && nat_lt (f (best_below q f xs k)) (f c) then c else best_below q f xs k)
unfolding best_below
best_more q f xs k c lt e =
    ap (λ ys. best_of (λ a b. nat_lt (f b) (f a)) (pos 0) (filter q ys)) (take_more xs k (pos 0) lt ∙ ap (λ z. take k xs ++ z ∷ []) (sym e))
    ∙ ap (best_of (λ a b. nat_lt (f b) (f a)) (pos 0)) (filter-append q (take k xs) (c ∷ []))
    ∙ fold-append (λ b x. if nat_lt (f b) (f x) then x else b) (pos 0) (filter q (take k xs)) (filter q (c ∷ []))
    ∙ one_more q f (best_below q f xs k) c (q c) refl

-- the test of a third, without signs
pub explained : (t l r : ℤ) (a b : ℕ) → pos 0 ≤ℤ l → pos 0 ≤ℤ r → a ≡ (unsigned_abs l * unsigned_abs r + 2) / 3 → b ≡ unsigned_abs t * unsigned_abs t
    → int_le (pos a) (pos b) ≡ explains t l r
explained t l r a b hl hr ea eb = grind (arith, ints, hl, hr, ea, eb)

-- a place is the best one of those before the kth, and its score is known
pub IsBest : (ℤ → Bool) → (ℤ → ℕ) → ℕ → ℤ → ℕ → Type 0
IsBest q f k place score = (place ≡ best_below q f order k) × (score ≡ f place)

pub best_first : (q : ℤ → Bool) (f : ℤ → ℕ) (score : ℕ) → score ≡ f (pos 0) → IsBest q f 1 (pos 0) score
unfolding IsBest best_below
best_first q f score e =
    (sym (one_more q f (pos 0) (pos 0) (q (pos 0)) refl ∙ same (q (pos 0) && nat_lt (f (pos 0)) (f (pos 0)))), e)
  where
    same : (b : Bool) → (if b then pos 0 else pos 0) ≡ pos 0
    same true = refl
    same false = refl

pub best_all : (most m count : ℕ) (p : Centre) (c : ℤ) (score : ℕ) → p.value ≡ m → most ≡ 16 * (count - 1) → IsBest (fits most m) (place_score p) 17 c score → c ≡ best count p
unfolding IsBest best_below
best_all most m count p c score e f is =
    is.0 ∙ ap₂ (λ (y z : ℕ). best_of (λ a b. nat_lt (place_score p b) (place_score p a)) (pos 0) (filter (fits y z) order)) f (sym e)

pub best_score : (q : ℤ → Bool) (f : ℤ → ℕ) (k : ℕ) (c : ℤ) (score : ℕ) → IsBest q f k c score → score ≡ f c
unfolding IsBest
best_score q f k c score is = is.1

score_taken : (f : ℤ → ℕ) (t : Bool) (c b r : ℤ) (score offered s : ℕ) → r ≡ (if t then c else b) → s ≡ (if t then offered else score) → score ≡ f b → offered ≡ f c → s ≡ f r
score_taken f true c b r score offered s er es eb ec = es ∙ ec ∙ ap f (sym er)
score_taken f false c b r score offered s er es eb ec = es ∙ eb ∙ ap f (sym er)

-- the kth place is taken where it passes the test, and its score is greater
pub best_goes_on : (q : ℤ → Bool) (f : ℤ → ℕ) (k : ℕ) (c b r : ℤ) (score offered s : ℕ) → k < 17 → c ≡ get_or order k (pos 0) → offered ≡ f c
    → r ≡ (if q c && nat_lt score offered then c else b) → s ≡ (if q c && nat_lt score offered then offered else score) → IsBest q f k b score → IsBest q f (k + 1) r s
unfolding IsBest
best_goes_on q f k c b r score offered s lt at ec er es is = (
  er ∙ ap₂ (λ (y z : ℕ). if q c && nat_lt y z then c else b) (is.1 ∙ ap f is.0) ec
      ∙ ap (λ (z : ℤ). if q c && nat_lt (f (best_below q f order k)) (f c) then c else z) is.0 ∙ sym (best_more q f order k c lt at),
  score_taken f (q c && nat_lt score offered) c b r score offered s er es is.1 ec,
)

-- the two places of a turn
pub places_of : (n : ℕ) → n < 8 → (negsuc n ≡ get_or order (2 * n + 1) (pos 0)) × (pos (n + 1) ≡ get_or order (2 * n + 1 + 1) (pos 0))
places_of zero lt = (refl, refl)
places_of (suc zero) lt = (refl, refl)
places_of (suc (suc zero)) lt = (refl, refl)
places_of (suc (suc (suc zero))) lt = (refl, refl)
places_of (suc (suc (suc (suc zero)))) lt = (refl, refl)
places_of (suc (suc (suc (suc (suc zero))))) lt = (refl, refl)
places_of (suc (suc (suc (suc (suc (suc zero)))))) lt = (refl, refl)
places_of (suc (suc (suc (suc (suc (suc (suc zero))))))) lt = (refl, refl)
places_of (suc (suc (suc (suc (suc (suc (suc (suc n)))))))) lt = absurd (omega (arith, lt))

-- a place near the pixel's own, whose value is one of 16 bits, and from 0 to most where the pixel's is so
abbrev pub IsNear : ℕ → ℕ → ℤ → Type 0
IsNear most m c = Within 8 c × (pos 0 ≤ℤ (pos m +ℤ c)) × ((pos m +ℤ c) ≤ℤ pos 65535) × (m ≤ most → (pos m +ℤ c) ≤ℤ pos most)

pub near_own : (most m : ℕ) → m < 65536 → IsNear most m (pos 0)
near_own most m h = ((omega (arith, ints), omega (arith, ints)), omega (arith, ints), omega (arith, ints, h), λ le. omega (arith, ints, le))

near_fits : (most m : ℕ) (c : ℤ) → most < 65536 → Within 8 c → fits most m c ≡ true → IsNear most m c
near_fits most m c h near e =
    let low : pos 0 ≤ℤ (pos m +ℤ c) = grind (arith, ints, e) in
    let high : (pos m +ℤ c) ≤ℤ pos most = grind (arith, ints, e) in
    (near, low, omega (arith, ints, high, h), λ le. high)

first_of : (a b : Bool) → (a && b) ≡ true → a ≡ true
first_of true b e = refl
first_of false b e = e

pub near_taken : (most m : ℕ) (c b r : ℤ) (t : Bool) → most < 65536 → Within 8 c → r ≡ (if fits most m c && t then c else b) → IsNear most m b → IsNear most m r
near_taken most m c b r t h near e is =
    subst (IsNear most m) (sym e)
    (cond_both (fits most m c && t) c b (IsNear most m) (λ taken. near_fits most m c h near (first_of (fits most m c) t taken)) (λ _. is))
