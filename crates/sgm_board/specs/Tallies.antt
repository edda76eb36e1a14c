-- Lists as sets of numbers, and as numbers by place.
use Rattle.std.specs.Prelude.{ℕ, zero, suc, ◌+◌, Bool, false, ◌||◌, ◌==◌, List, [], ◌∷◌}
use Rattle.std.specs.Prelude.{slice_index, max}

abbrev pub has : List ℕ → ℕ → Bool
has [] x = false
has (y ∷ ys) x = (y == x) || has ys x

-- numbers by place, 0 past the list's end: the same, with x at i
unfoldable pub put_at : List ℕ → ℕ → ℕ → List ℕ
put_at [] zero x = x ∷ []
put_at [] (suc i) x = 0 ∷ put_at [] i x
put_at (y ∷ ys) zero x = x ∷ ys
put_at (y ∷ ys) (suc i) x = y ∷ put_at ys i x

-- one more at i
abbrev pub one_more : List ℕ → ℕ → List ℕ
one_more xs i = put_at xs i (slice_index xs i + 1)

-- the greater at each place
unfoldable pub greater : List ℕ → List ℕ → List ℕ
greater [] ys = ys
greater (x ∷ xs) [] = x ∷ xs
greater (x ∷ xs) (y ∷ ys) = max x y ∷ greater xs ys

-- so many numbers from k on
abbrev pub count_up : ℕ → ℕ → List ℕ
count_up k zero = []
count_up k (suc count) = k ∷ count_up (k + 1) count
