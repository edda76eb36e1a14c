-- The first place that passes a test.
use Rattle.std.proofs.Common.{◌≡◌, ℕ, zero, suc, ◌+◌, ◌-◌, ◌<◌, ◌≤◌, List, [], ◌∷◌, ◌++◌, map, take, length, Bool, true, false, cond, ◌||◌, Option, Some, None, is_some, refl, sym, ap, ◌∙◌, arith}
use Rattle.std.specs.Prelude.{nat_lt, find}
use Rattle.std.specs.List.{list_any, position_from, range_with_len}
use Rattle.std.specs.Option.{option_map_or, option_or}
use Rattle.std.proofs.lemmas.Bool.{le-ltb, lt-ltb}

-- the place that was found, if any, is below n
abbrev pub is_below : ℕ → Option ℕ → Bool
is_below n found = option_map_or (λ place. nat_lt place n) found false

module _ {X : Type 0} (p : X → Bool) where
  -- nothing is found before the first
  none_below : (xs : List X) (i n : ℕ) → n ≤ i → false ≡ is_below n (position_from p i xs)
  none_below [] i n le = refl
  none_below (x ∷ xs) i n le = go (p x) (none_below xs (i + 1) n (omega arith))
    where
      go : (b : Bool) → false ≡ is_below n (position_from p (i + 1) xs) → false ≡ is_below n (cond b (Some i) (position_from p (i + 1) xs))
      go true rest = sym (le-ltb i n le)
      go false rest = rest

  any_front : (xs : List X) (i k : ℕ) → list_any p (take k xs) ≡ is_below (i + k) (position_from p i xs)
  any_front [] i zero = refl
  any_front [] i (suc k) = refl
  any_front (x ∷ xs) i zero = none_below (x ∷ xs) i (i + 0) (omega arith)
  any_front (x ∷ xs) i (suc k) = go (p x) (any_front xs (i + 1) k)
    where
      go : (b : Bool) → list_any p (take k xs) ≡ is_below ((i + 1) + k) (position_from p (i + 1) xs) → (b || list_any p (take k xs)) ≡ is_below (i + suc k) (cond b (Some i) (position_from p (i + 1) xs))
      go true rest = sym (lt-ltb i (i + suc k) (omega arith))
      go false rest = rest ∙ ap (λ (n : ℕ). is_below n (position_from p (i + 1) xs)) (let e : (i + 1) + k ≡ i + suc k = omega arith in e)

  -- whether one of the first k passes
  pub any_before : (xs : List X) (k : ℕ) → list_any p (take k xs) ≡ is_below k (position_from p 0 xs)
  any_before xs k = any_front xs 0 k ∙ ap (λ (n : ℕ). is_below n (position_from p 0 xs)) (let e : 0 + k ≡ k = omega arith in e)

  -- whether one passes
  pub any_is_found : (xs : List X) (i : ℕ) → list_any p xs ≡ is_some (position_from p i xs)
  any_is_found [] i = refl
  any_is_found (x ∷ xs) i = go (p x) (any_is_found xs (i + 1))
    where
      go : (b : Bool) → list_any p xs ≡ is_some (position_from p (i + 1) xs) → (b || list_any p xs) ≡ is_some (cond b (Some i) (position_from p (i + 1) xs))
      go true rest = refl
      go false rest = rest

  pub none_passes : (xs : List X) → ((x : X) → false ≡ p x) → false ≡ list_any p xs
  none_passes [] fails = refl
  none_passes (x ∷ xs) fails = none_passes xs fails ∙ ap (λ (b : Bool). b || list_any p xs) (fails x)

  -- one element more
  pub found_push : (xs : List X) (x : X) (i : ℕ) → position_from p i (xs ++ x ∷ []) ≡ option_or (position_from p i xs) (cond (p x) (Some (i + length xs)) None)
  found_push [] x i = ap (λ (n : ℕ). cond (p x) (Some n) None) (let e : i ≡ i + 0 = omega arith in e)
  found_push (y ∷ xs) x i = go (p y) (found_push xs x (i + 1))
    where
      go : (b : Bool) → position_from p (i + 1) (xs ++ x ∷ []) ≡ option_or (position_from p (i + 1) xs) (cond (p x) (Some ((i + 1) + length xs)) None)
          → cond b (Some i) (position_from p (i + 1) (xs ++ x ∷ [])) ≡ option_or (cond b (Some i) (position_from p (i + 1) xs)) (cond (p x) (Some (i + suc (length xs))) None)
      go true rest = refl
      go false rest = rest ∙ ap (λ (n : ℕ). option_or (position_from p (i + 1) xs) (cond (p x) (Some n) None)) (let e : (i + 1) + length xs ≡ i + suc (length xs) = omega arith in e)

pub any_same : {X : Type 0} (p q : X → Bool) (xs : List X) → ((x : X) → p x ≡ q x) → list_any p xs ≡ list_any q xs
any_same p q [] same = refl
any_same p q (x ∷ xs) same = λ i. same x i || any_same p q xs same i

-- over a place that fails
pub find_next : (p : ℕ → Bool) (i end : ℕ) (first : Option ℕ) → i < end → p i ≡ false → find p (range_with_len i (end - i)) ≡ first
    → find p (range_with_len (i + 1) (end - (i + 1))) ≡ first
find_next p i end first inside fails so =
    let one : end - i ≡ suc (end - (i + 1)) = omega arith in
    sym (ap (λ (b : Bool). cond b (Some i) (find p (range_with_len (i + 1) (end - (i + 1))))) fails)
    ∙ sym (ap (λ (n : ℕ). find p (range_with_len i n)) one) ∙ so

-- over what a function makes of each
pub found_of : {X Y : Type 0} (p : Y → Bool) (view : X → Y) (xs : List X) (i : ℕ) → position_from (λ x. p (view x)) i xs ≡ position_from p i (map view xs)
found_of p view [] i = refl
found_of p view (x ∷ xs) i = ap (λ (o : Option ℕ). cond (p (view x)) (Some i) o) (found_of p view xs (i + 1))
