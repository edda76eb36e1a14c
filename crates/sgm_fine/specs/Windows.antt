-- The pixels around another one, and sums over them.
use Rattle.std.specs.Prelude.{◌≡◌, ◌<◌, ◌≤◌, ℕ, ◌+◌, ◌-◌, ◌/◌, ◌%◌, ◌&&◌, nat_le, zero, suc, List}
use Rattle.std.specs.Prelude.{if◌then◌else◌, slice_index_or, Option, None, ℤ, pos, ◌+ℤ◌, ◌-ℤ◌, ◌*ℤ◌}
use Rattle.sgm_base.specs.Values.{Values, value_at}
use Rattle.sgm_fine.specs.declared.sums.TheConstants.{PLACES, SIDE}

-- the value in the column i and the row j of the square that reaches so far around the pixel
-- (x, y), none where it is void or outside
abbrev pub value_around : Values → ℕ → ℕ → ℕ → ℕ → ℕ → Option ℕ
value_around values reach x y i j =
    if nat_le reach (x + i) && nat_le reach (y + j)
    then value_at values (x + i - reach) (y + j - reach) else None

-- what the code holds of the values of the window around the pixel (x, y)
abbrev pub HoldsWindow : List (Option ℕ) → Values → ℕ → ℕ → Type 0
HoldsWindow window values x y =
    (k : ℕ) → k < PLACES → slice_index_or window k None
    ≡ value_around values 2 x y (k % SIDE) (k / SIDE)

-- the columns and the rows of the places of a window, from the middle's: -2 to 2
abbrev pub column_of : ℕ → ℤ
column_of k = pos (k % 5) -ℤ pos 2

abbrev pub row_of_place : ℕ → ℤ
row_of_place k = pos (k / 5) -ℤ pos 2

-- the number of the place k
abbrev pub number : List ℤ → ℕ → ℤ
number numbers k = slice_index_or numbers k (pos 0)

-- numbers that are 0 behind the places of a window
abbrev pub IsPadded : List ℤ → Type 0
IsPadded numbers = (k : ℕ) → PLACES ≤ k → number numbers k ≡ pos 0

-- the sum of what f gives for the first n places
unfoldable pub sum_below : ℕ → (ℕ → ℤ) → ℤ
sum_below zero f = pos 0
sum_below (suc n) f = sum_below n f +ℤ f n

-- the sum over all places of a window: five by five
abbrev pub over : (ℕ → ℤ) → ℤ
over f = sum_below 25 f

-- the sum of the products of what two functions give
abbrev pub products : (ℕ → ℤ) → (ℕ → ℤ) → ℤ
products f g = over (λ k. f k *ℤ g k)
