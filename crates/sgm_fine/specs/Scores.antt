-- How well the right window explains the left one.
use Rattle.std.specs.Prelude.{◌≡◌, ℕ, ◌+◌, ◌-◌, ◌*◌, ◌/◌, ◌^◌, ◌&&◌, if◌then◌else◌}
use Rattle.std.specs.Prelude.{unsigned_abs, ℤ}
use Rattle.std.specs.Prelude.{pos, ◌+ℤ◌, ◌-ℤ◌, ◌*ℤ◌, int_lt, int_le}
use Rattle.sgm_base.specs.Ranges.{IsFromTo, Within}
use Rattle.sgm_fine.specs.Windows.{number, over, products}
use Rattle.sgm_fine.specs.declared.score.Score.{Score}
use Rattle.sgm_fine.specs.declared.scores.Fit.{Fit}
use Rattle.sgm_fine.specs.declared.scores.Part.{Part}
use Rattle.sgm_fine.specs.declared.scores.Parts.{Parts}
use Rattle.sgm_fine.specs.declared.scores.Sums.{Sums}
use Rattle.sgm_fine.specs.declared.scores.Walk.{Walk}
use Rattle.sgm_fine.specs.declared.scores.WindowSums.{WindowSums}
use Rattle.sgm_fine.specs.declared.small.SmallWindow.{SmallWindow}

-- how the numbers of two windows vary together: so many times the sum of their products as there
-- are places, less the product of their sums
abbrev pub covariance : (ℕ → ℤ) → (ℕ → ℤ) → ℤ
covariance f g = (pos 25 *ℤ products f g) -ℤ (over f *ℤ over g)

-- numbers between two of each place: n eighths from the one to the other, eight times as great
abbrev pub blended : (ℕ → ℤ) → (ℕ → ℤ) → ℕ → ℕ → ℤ
blended here side n k = (pos (8 - n) *ℤ here k) +ℤ (pos n *ℤ side k)

-- the score of right numbers that vary so with the left ones, and so by themselves: how much of the
-- left ones they explain, but for a factor
abbrev pub score : ℤ → ℤ → ℕ
score a b =
    if int_lt (pos 0) a && int_le (pos 256) b
    then (unsigned_abs a * unsigned_abs a) / (unsigned_abs b / 256) else 0

-- a score that the code holds, divided out
abbrev pub divided : Score → ℕ
divided held = held.square / held.part

-- what the code holds of one offset's numbers r beside the left ones l
pub record HoldsSide (sums : Sums) (l r : ℕ → ℤ) : Type 0 where
  pub sum : sums.sum ≡ over r
  pub left : sums.left ≡ products l r
  pub square : sums.square ≡ products r r

-- what the code holds of a window
pub record HoldsSums (sums : WindowSums) (w : SmallWindow) : Type 0 where
  pub left : sums.left ≡ over (number w.left)
  pub square : sums.square ≡ products (number w.left) (number w.left)
  pub after : HoldsSide sums.after (number w.left) (number w.after)
  pub here : HoldsSide sums.here (number w.left) (number w.here)
  pub before : HoldsSide sums.before (number w.left) (number w.before)
  pub with_after : sums.with_after ≡ products (number w.here) (number w.after)
  pub with_before : sums.with_before ≡ products (number w.here) (number w.before)

-- the ranges of its sums
pub record IsSums (sums : WindowSums) : Type 0 where
  pub left : IsFromTo (pos 0) (pos 6375) sums.left
  pub after : IsFromTo (pos 0) (pos 102375) sums.after.sum
  pub here : IsFromTo (pos 0) (pos 102375) sums.here.sum
  pub before : IsFromTo (pos 0) (pos 102375) sums.before.sum

-- what the code holds of how one offset's numbers s vary, beside the left ones l and those of no
-- offset h
pub record HoldsPart (part : Part) (l h s : ℕ → ℤ) : Type 0 where
  pub left : part.left ≡ covariance l s
  pub cross : part.cross ≡ covariance h s
  pub own : part.own ≡ covariance s s

-- and of how those of a window vary
pub record VaryAs (parts : Parts) (w : SmallWindow) : Type 0 where
  pub alone : parts.alone ≡ covariance (number w.left) (number w.left)
  pub here : HoldsPart parts.here (number w.left) (number w.here) (number w.here)
  pub after : HoldsPart parts.after (number w.left) (number w.here) (number w.after)
  pub before : HoldsPart parts.before (number w.left) (number w.here) (number w.before)

unfoldable pub HoldsParts : Parts → SmallWindow → Type 0
HoldsParts parts w = VaryAs parts w

-- their ranges
pub record IsPart (part : Part) : Type 0 where
  pub left : Within (2 ^ 46) part.left
  pub cross : Within (2 ^ 46) part.cross
  pub own : Within (2 ^ 46) part.own

pub record AreParts (parts : Parts) : Type 0 where
  pub here : IsPart parts.here
  pub after : IsPart parts.after
  pub before : IsPart parts.before

-- the right numbers of a window at the place c
abbrev pub numbers_at : SmallWindow → ℤ → ℕ → ℤ
numbers_at w c = blended (number w.here)
    (if int_lt c (pos 0) then number w.after else number w.before) (unsigned_abs c)

-- the fit of a window at the place c
pub record IsFitOf (fit : Fit) (w : SmallWindow) (c : ℤ) : Type 0 where
  pub together : fit.together ≡ covariance (number w.left) (numbers_at w c)
  pub right : fit.right ≡ covariance (numbers_at w c) (numbers_at w c)

-- how far the numbers s lie from those h at each place
abbrev pub distances : (ℕ → ℤ) → (ℕ → ℤ) → ℕ → ℤ
distances h s k = s k -ℤ h k

-- what the code holds at the nth place on the way from the numbers h of no offset to those s of
-- another one, beside the left ones l
pub record HoldsWalk (walk : Walk) (l h s : ℕ → ℤ) (n : ℕ) : Type 0 where
  pub together : walk.fit.together ≡ covariance l (blended h s n)
  pub right : walk.fit.right ≡ covariance (blended h s n) (blended h s n)
  pub further : walk.further ≡ covariance l (distances h s)
  pub more : walk.more ≡ (pos 16 *ℤ covariance h (distances h s))
      +ℤ (pos (2 * n + 1) *ℤ covariance (distances h s) (distances h s))
  pub bend : walk.bend ≡ pos 2 *ℤ covariance (distances h s) (distances h s)

-- its ranges
pub record IsWalk (walk : Walk) : Type 0 where
  pub together : Within (2 ^ 55) walk.fit.together
  pub right : Within (2 ^ 55) walk.fit.right
  pub further : Within (2 ^ 55) walk.further
  pub more : Within (2 ^ 55) walk.more
  pub bend : Within (2 ^ 55) walk.bend
