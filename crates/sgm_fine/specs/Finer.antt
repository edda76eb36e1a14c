-- The finer values of a map: of seventeen places the one at which the right window explains the
-- left one best.
use Rattle.std.specs.Prelude.{◌≡◌, ℕ, ◌<◌, ◌+◌, ◌-◌, ◌*◌, ◌&&◌, ◌==◌, nat_lt, Bool, not}
use Rattle.std.specs.Prelude.{if◌then◌else◌, List, [], ◌∷◌, filter, option_map, unsigned_abs, ℤ}
use Rattle.std.specs.Prelude.{pos, negsuc, neg_ℤ, ◌+ℤ◌, ◌*ℤ◌, int_lt, int_le}
use Rattle.std.specs.List.{best_of, flat_map, range_with_len}
use Rattle.sgm_base.specs.Disparities.{Disparities}
use Rattle.sgm_base.specs.Values.{Values, row_by_row, value_at, values_of}
use Rattle.sgm_fine.specs.Samples.{Centre, half, has_all}
use Rattle.sgm_fine.specs.Scores.{HoldsParts, blended, covariance, score}
use Rattle.sgm_fine.specs.Small.{IsSmall, small_left, small_right}
use Rattle.sgm_fine.specs.Windows.{number}
use Rattle.sgm_fine.specs.declared.scores.Parts.{Parts}
use Rattle.sgm_fine.specs.declared.small.SmallWindow.{SmallWindow}
use Rattle.sgm_fine.specs.declared.sums.TheConstants.{PLACES}

-- the right numbers of the place c: between those at the pixel's own place and those half a pixel
-- after or before it
abbrev pub right_numbers : Centre → ℤ → ℕ → ℤ
right_numbers p c = blended (small_right p (pos 0))
    (small_right p (if int_lt c (pos 0) then half else neg_ℤ half)) (unsigned_abs c)

-- how they vary with the left ones, and by themselves
abbrev pub with_left : Centre → ℤ → ℤ
with_left p c = covariance (small_left p) (right_numbers p c)

abbrev pub by_itself : Centre → ℤ → ℤ
by_itself p c = covariance (right_numbers p c) (right_numbers p c)

-- the score of the place c
abbrev pub place_score : Centre → ℤ → ℕ
place_score p c = score (with_left p c) (by_itself p c)

-- whether the value of the place c lies from 0 to most
abbrev pub fits : ℕ → ℕ → ℤ → Bool
fits most value c = int_le (pos 0) (pos value +ℤ c) && int_le (pos value +ℤ c) (pos most)

-- the places, 0 and then -1, 1, -2, 2 and so on to -8 and 8: the first of equal ones is taken
abbrev pub order : List ℤ
order = pos 0 ∷ flat_map (λ n. negsuc n ∷ pos (n + 1) ∷ []) (range_with_len 0 8)

-- those whose values lie in the span
abbrev pub places : ℕ → ℕ → List ℤ
places count value = filter (fits (16 * (count - 1)) value) order

-- the place of the greatest score
abbrev pub best : ℕ → Centre → ℤ
best count p = best_of (λ a b. nat_lt (place_score p b) (place_score p a)) (pos 0)
    (places count p.value)

-- how the left numbers vary by themselves
abbrev pub left_alone : Centre → ℤ
left_alone p = covariance (small_left p) (small_left p)

-- whether numbers that vary so explain a third of the left window or more
abbrev pub explains : ℤ → ℤ → ℤ → Bool
explains together left right = int_le (left *ℤ right) (pos 3 *ℤ (together *ℤ together))

-- whether the place c tells something: it has a score, and explains a third of the left window or
-- more
abbrev pub tells : Centre → ℤ → Bool
tells p c = not (place_score p c == 0) && explains (with_left p c) (left_alone p) (by_itself p c)

-- the finer value of a pixel
unfoldable pub finer_value : ℕ → Centre → ℕ
finer_value count p =
    if has_all p && tells p (best count p) then unsigned_abs (pos p.value +ℤ best count p)
    else p.value

-- the finer value of each pixel that has one
abbrev pub finer : Values → Values → Values → Disparities → Values
finer left right map span =
    values_of map.width map.height
    (row_by_row map.width map.height (λ x y. option_map
    (λ value. finer_value span.count
    (record {
      left = left;
      right = right;
      map = map;
      first = span.first;
      x = x;
      y = y;
      value = value;
    }))
    (value_at map x y)))

-- whether the code takes the place c, which has such a score, instead of one with another score
abbrev pub takes : ℕ → ℕ → ℤ → ℕ → ℕ → Bool
takes most value c score other = fits most value c && nat_lt other score

-- what the code holds: how the numbers of some small window vary
pub record AreSmallParts (parts : Parts) : Type 0 where
  pub window : SmallWindow
  pub holds : HoldsParts parts window
  pub small : IsSmall window

-- and those of a pixel's
pub record ArePixelParts (parts : Parts) (p : Centre) : Type 0 where
  pub window : SmallWindow
  pub holds : HoldsParts parts window
  pub left : (k : ℕ) → k < PLACES → number window.left k ≡ small_left p k
  pub after : (k : ℕ) → k < PLACES → number window.after k ≡ small_right p half k
  pub here : (k : ℕ) → k < PLACES → number window.here k ≡ small_right p (pos 0) k
  pub before : (k : ℕ) → k < PLACES → number window.before k ≡ small_right p (neg_ℤ half) k
