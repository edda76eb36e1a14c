-- Lists as sets and as counts by place.
use Rattle.std.proofs.Common.{◌≡◌, ◌≢◌, ℕ, zero, suc, ◌+◌, ◌<◌, ◌≤◌, ◌⊎◌, Bool, true, false, ◌||◌, ◌==◌, List, [], ◌∷◌, ◌++◌, get_or, refl, ap, ◌∙◌, max, inl, inr, ⊎_elim, arith, eqb-true, eq-eqb}
use mathlib.Core.Logic.{dite}
use native.Mathlib.Decide.{ℕ_discrete}
use Rattle.sgm_board.specs.Tallies.{has, put_at, greater, count_up}

pub put_at_here : (l : List ℕ) (i x : ℕ) → get_or (put_at l i x) i 0 ≡ x
unfolding put_at
put_at_here [] zero x = refl
put_at_here [] (suc i) x = put_at_here [] i x
put_at_here (y ∷ ys) zero x = refl
put_at_here (y ∷ ys) (suc i) x = put_at_here ys i x

pub put_at_else : (l : List ℕ) (i j x : ℕ) → j ≢ i → get_or (put_at l i x) j 0 ≡ get_or l j 0
unfolding put_at
put_at_else [] zero zero x ne = absurd (ne refl)
put_at_else [] zero (suc j) x ne = refl
put_at_else [] (suc i) zero x ne = refl
put_at_else [] (suc i) (suc j) x ne = put_at_else [] i j x (λ e. ne (ap suc e))
put_at_else (y ∷ ys) zero zero x ne = absurd (ne refl)
put_at_else (y ∷ ys) zero (suc j) x ne = refl
put_at_else (y ∷ ys) (suc i) zero x ne = refl
put_at_else (y ∷ ys) (suc i) (suc j) x ne = put_at_else ys i j x (λ e. ne (ap suc e))

pub false_true : false ≡ true → ⊥
false_true e = cc

pub or_cases : (a b : Bool) → (a || b) ≡ true → (a ≡ true) ⊎ (b ≡ true)
or_cases true b h = inl refl
or_cases false b h = inr h

pub or_left : (a b : Bool) → a ≡ true → (a || b) ≡ true
or_left true b h = refl
or_left false b h = absurd (false_true h)

pub or_right : (a b : Bool) → b ≡ true → (a || b) ≡ true
or_right true b h = refl
or_right false b h = h

pub has-append : (xs ys : List ℕ) (w : ℕ) → has (xs ++ ys) w ≡ true → (has xs w ≡ true) ⊎ (has ys w ≡ true)
has-append [] ys w h = inr h
has-append (x ∷ xs) ys w h = ⊎_elim (λ (e : (x == w) ≡ true). inl (or_left (x == w) (has xs w) e))
    (λ (e : has (xs ++ ys) w ≡ true). ⊎_elim (λ (g : has xs w ≡ true). inl (or_right (x == w) (has xs w) g)) (λ (g : has ys w ≡ true). inr g) (has-append xs ys w e)) (or_cases (x == w) (has (xs ++ ys) w) h)

pub has-append_left : (xs ys : List ℕ) (w : ℕ) → has xs w ≡ true → has (xs ++ ys) w ≡ true
has-append_left [] ys w h = absurd (false_true h)
has-append_left (x ∷ xs) ys w h = ⊎_elim (λ (e : (x == w) ≡ true). or_left (x == w) (has (xs ++ ys) w) e)
    (λ (e : has xs w ≡ true). or_right (x == w) (has (xs ++ ys) w) (has-append_left xs ys w e)) (or_cases (x == w) (has xs w) h)

pub has-append_right : (xs ys : List ℕ) (w : ℕ) → has ys w ≡ true → has (xs ++ ys) w ≡ true
has-append_right [] ys w h = h
has-append_right (x ∷ xs) ys w h = or_right (x == w) (has (xs ++ ys) w) (has-append_right xs ys w h)

-- what is counted up from k lies in its range
pub has-count_up : (k c w : ℕ) → has (count_up k c) w ≡ true → (k ≤ w) × (w < k + c)
has-count_up k zero w h = absurd (false_true h)
has-count_up k (suc c) w h = ⊎_elim (λ (e : (k == w) ≡ true). let kw : k ≡ w = eqb-true k w e in (omega arith, omega arith))
    (λ (e : has (count_up (k + 1) c) w ≡ true). let t = has-count_up (k + 1) c w e in (omega arith, omega arith)) (or_cases (k == w) (has (count_up (k + 1) c) w) h)

pub count_up-has : (k c w : ℕ) → k ≤ w → w < k + c → has (count_up k c) w ≡ true
count_up-has k zero w lo hi = absurd (omega arith)
count_up-has k (suc c) w lo hi = dite (ℕ_discrete k w) (λ e. or_left (k == w) (has (count_up (k + 1) c) w) (eq-eqb k w e))
    (λ ne. or_right (k == w) (has (count_up (k + 1) c) w) (count_up-has (k + 1) c w (omega arith) (omega arith)))

pub get-greater : (xs ys : List ℕ) (i : ℕ) → get_or (greater xs ys) i 0 ≡ max (get_or xs i 0) (get_or ys i 0)
unfolding greater
get-greater [] ys i = omega arith
get-greater (x ∷ xs) [] i = omega arith
get-greater (x ∷ xs) (y ∷ ys) zero = refl
get-greater (x ∷ xs) (y ∷ ys) (suc i) = get-greater xs ys i

pub has-append_is : (xs ys : List ℕ) (w : ℕ) → has (xs ++ ys) w ≡ (has xs w || has ys w)
has-append_is [] ys w = refl
has-append_is (x ∷ xs) ys w = ap (λ (b : Bool). (x == w) || b) (has-append_is xs ys w) ∙ or_assoc (x == w) (has xs w) (has ys w)
  where
    or_assoc : (a b c : Bool) → (a || (b || c)) ≡ ((a || b) || c)
    or_assoc true b c = refl
    or_assoc false b c = refl

pub or_false : (b : Bool) → (b || false) ≡ b
or_false true = refl
or_false false = refl
