-- Elements of a part of a list.
use Rattle.std.proofs.Common.{◌≡◌, ℕ, zero, suc, ◌+◌, ◌-◌, ◌<◌, ◌≤◌, arith, List, [], ◌∷◌, ◌++◌, refl, sym, ap, ◌∙◌, Some, take, drop, length}
use Rattle.std.specs.Prelude.{slice_get, min}
use Rattle.std.proofs.lemmas.List.{length-take, length-drop}
use Rattle.std.proofs.Math.Seq.{take-add}

pub drop_get : {X : Type 0} (n : ℕ) (xs : List X) (k : ℕ) → slice_get (drop n xs) k ≡ slice_get xs (n + k)
drop_get zero xs k = let e : k ≡ 0 + k = omega arith in ap (λ (i : ℕ). slice_get xs i) e
drop_get (suc n) [] k = refl
drop_get {X = X} (suc n) (x ∷ xs) k =
    let e : suc (n + k) ≡ suc n + k = omega arith in
    let whole : List X = x ∷ xs in
    drop_get n xs k ∙ ap (λ (i : ℕ). slice_get whole i) e

pub take_get : {X : Type 0} (n : ℕ) (xs : List X) (k : ℕ) (x : X) → slice_get (take n xs) k ≡ Some x → slice_get xs k ≡ Some x
take_get zero xs k x e = absurd (cc)
take_get (suc n) [] k x e = absurd (cc)
take_get (suc n) (y ∷ xs) zero x e = e
take_get (suc n) (y ∷ xs) (suc k) x e = take_get n xs k x e

pub get_take : {X : Type 0} (n : ℕ) (xs : List X) (k : ℕ) (x : X) → k < n → slice_get xs k ≡ Some x → slice_get (take n xs) k ≡ Some x
get_take zero xs k x lt e = absurd (omega arith)
get_take (suc n) [] k x lt e = absurd (cc)
get_take (suc n) (y ∷ xs) zero x lt e = e
get_take (suc n) (y ∷ xs) (suc k) x lt e = get_take n xs k x (omega arith) e

-- an element of a cut stands in the whole, further back
pub cut_get : {X : Type 0} (n m : ℕ) (xs : List X) (k : ℕ) (x : X) → slice_get (take m (drop n xs)) k ≡ Some x → slice_get xs (n + k) ≡ Some x
cut_get n m xs k x e = sym (drop_get n xs k) ∙ take_get m (drop n xs) k x e

-- a place within a list has an element
pub get_within : {X : Type 0} (xs : List X) (k : ℕ) → k < length xs → (x : X) × (slice_get xs k ≡ Some x)
get_within [] k lt = absurd (omega arith)
get_within (x ∷ xs) zero lt = (x, refl)
get_within (x ∷ xs) (suc k) lt = get_within xs k (omega arith)

-- the first ones of the first ones
pub take_take : {X : Type 0} (k m : ℕ) (xs : List X) → k ≤ m → take k (take m xs) ≡ take k xs
take_take zero m xs le = refl
take_take (suc k) zero xs le = absurd (omega arith)
take_take (suc k) (suc m) [] le = refl
take_take {X = X} (suc k) (suc m) (x ∷ xs) le = ap (λ (l : List X). x ∷ l) (take_take k m xs (omega arith))

-- the first ones, up to one within a cut
pub take_cut : {X : Type 0} (n m k : ℕ) (xs : List X) → k ≤ m → take (n + k) xs ≡ take n xs ++ take k (take m (drop n xs))
take_cut {X = X} n m k xs le = take-add n k xs ∙ ap (λ (l : List X). take n xs ++ l) (sym (take_take k m (drop n xs) le))

pub length_cut : {X : Type 0} (n m : ℕ) (xs : List X) → length (take m (drop n xs)) ≡ min m (length xs - n)
length_cut n m xs = length-take m (drop n xs) ∙ ap (λ (k : ℕ). min m k) (length-drop n xs)

-- the size of a batch
pub record BatchSize (n hi size : ℕ) : Type 0 where
  pub some : 0 < hi - n
  pub few : hi - n ≤ 8
  pub within : hi ≤ size
  pub after : n ≤ hi
  pub last : hi < size → hi ≡ n + 8

pub batch_size : (n hi size : ℕ) → n < size → hi ≡ min (n + 8) size → BatchSize n hi size
batch_size n hi size lt is = record { some = grind arith; few = grind arith; within = grind arith; after = grind arith; last = λ l. grind arith }

pub full_cut : {X : Type 0} (n hi : ℕ) (xs : List X) → hi ≤ length xs → length (take (hi - n) (drop n xs)) ≡ hi - n
full_cut n hi xs le = length_cut n (hi - n) xs ∙ (grind arith)

pub smaller : (n hi size : ℕ) → BatchSize n hi size → n < size → size - hi < size - n
smaller n hi size is lt = let a = is.some in let b = is.within in grind arith
