-- Samples made small.
use Rattle.std.specs.Prelude.{◌≡◌, ℕ, ◌<◌, ◌≤◌, ◌-◌, ◌/◌, ◌^◌, ◌++◌, nat_lt, min, List, unwrap_or}
use Rattle.std.specs.Prelude.{Some, slice_index, unsigned_abs, ℤ, pos, neg_ℤ}
use Rattle.std.specs.List.{All, Contains, find, list_all, range_with_len, reduce}
use Rattle.sgm_base.specs.Ranges.{IsFromTo}
use Rattle.sgm_fine.specs.Samples.{Centre, half, left_at, lefts, right_at, rights}
use Rattle.sgm_fine.specs.Windows.{IsPadded, number}
use Rattle.sgm_fine.specs.declared.samples.Window.{Window}
use Rattle.sgm_fine.specs.declared.small.SmallWindow.{SmallWindow}
use Rattle.sgm_fine.specs.declared.sums.TheConstants.{PLACES}

-- the least of some samples
abbrev pub least : List ℕ → ℕ
least samples = unwrap_or (reduce min samples) 0

-- one of some numbers, and none of them is below it
pub record IsLeast (number : ℕ) (numbers : List ℕ) : Type 0 where
  pub contained : Contains numbers number
  pub bound : All (λ v. number ≤ v) numbers

-- one of some numbers, and none of them is above it
pub record IsGreatest (number : ℕ) (numbers : List ℕ) : Type 0 where
  pub contained : Contains numbers number
  pub bound : All (λ v. v ≤ number) numbers

-- a sample less the least, halved so often
abbrev pub halved : ℕ → ℕ → ℕ → ℕ
halved low a v = (v - low) / 2 ^ a

-- the least number of halvings after which all samples less the least are below a limit; twenty are
-- enough
abbrev pub halvings : ℕ → List ℕ → ℕ
halvings limit samples =
    unwrap_or (find (λ a. list_all (λ v. nat_lt (halved (least samples) a v) limit) samples)
    (range_with_len 0 21)) 0

-- the sample of the place k, one of some, made small as all of these are
abbrev pub small : ℕ → List ℕ → List ℕ → ℕ → ℤ
small limit all samples k = pos (halved (least all) (halvings limit all) (slice_index samples k))

-- the samples of a pixel's window made small: on the left below 256, and on the right, all
-- together, below 4096
abbrev pub small_left : Centre → ℕ → ℤ
small_left c = small 256 (lefts c) (lefts c)

abbrev pub small_right : Centre → ℤ → ℕ → ℤ
small_right c offset = small 4096 (rights c half ++ rights c (pos 0) ++ rights c (neg_ℤ half))
    (rights c offset)

-- what the code holds of a window made small
pub record HoldsSmall (found : SmallWindow) (window : Window) : Type 0 where
  pub left : (k : ℕ) → k < PLACES → number found.left k ≡ small 256 window.left window.left k
  pub after : (k : ℕ) → k < PLACES → number found.after k
      ≡ small 4096 (window.after ++ window.here ++ window.before) window.after k
  pub here : (k : ℕ) → k < PLACES → number found.here k
      ≡ small 4096 (window.after ++ window.here ++ window.before) window.here k
  pub before : (k : ℕ) → k < PLACES → number found.before k
      ≡ small 4096 (window.after ++ window.here ++ window.before) window.before k

-- what the code holds of a small window whose numbers are a pixel's samples as they are
pub record HoldsWhole (found : SmallWindow) (p : Centre) : Type 0 where
  pub left : (k : ℕ) → k < PLACES → left_at p k ≡ Some (unsigned_abs (number found.left k))
  pub after : (k : ℕ) → k < PLACES → right_at p half k
      ≡ Some (unsigned_abs (number found.after k))
  pub here : (k : ℕ) → k < PLACES → right_at p (pos 0) k
      ≡ Some (unsigned_abs (number found.here k))
  pub before : (k : ℕ) → k < PLACES → right_at p (neg_ℤ half) k
      ≡ Some (unsigned_abs (number found.before k))

-- what a window made small keeps
pub record IsSmall (found : SmallWindow) : Type 0 where
  pub left : (k : ℕ) → k < PLACES → IsFromTo (pos 0) (pos 255) (number found.left k)
  pub after : (k : ℕ) → k < PLACES → IsFromTo (pos 0) (pos 4095) (number found.after k)
  pub here : (k : ℕ) → k < PLACES → IsFromTo (pos 0) (pos 4095) (number found.here k)
  pub before : (k : ℕ) → k < PLACES → IsFromTo (pos 0) (pos 4095) (number found.before k)
  pub padded_left : IsPadded found.left
  pub padded_after : IsPadded found.after
  pub padded_here : IsPadded found.here
  pub padded_before : IsPadded found.before
