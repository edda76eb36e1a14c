-- Keys, by which the least sum and the least index that has it are found at once.
use Rattle.std.specs.Prelude.{◌≡◌, ℕ, ◌+◌, ◌-◌, ◌*◌, ◌<◌, ◌≤◌, ◌⊎◌, List, length, slice_index, Some}
use Rattle.std.specs.Prelude.{ℤ}
use Rattle.sgm_base.specs.declared.limits.TheConstants.{MAX_COUNT}
use Rattle.sgm_select.specs.declared.indices.TheConstants.{NO_KEY}
use Rattle.sgm_base.specs.Columns.{left_column}
use Rattle.sgm_base.specs.Disparities.{Disparities}

-- the key of a sum and its index
abbrev pub key_of : ℕ → ℕ → ℕ
key_of sum index = MAX_COUNT * sum + index

-- the key is that of an index d which gives the column q of the right row a column k of the left
-- one, before the column p
pub record IsKeyOf (sums : List ℕ) (width : ℕ) (first : ℤ) (count q p key d k : ℕ) : Type 0 where
  pub index : d < count
  pub column : left_column width first q d ≡ Some k
  pub before : k < p
  pub value : key ≡ key_of (slice_index sums (k * count + d)) d

-- the least key of the column q of the right row over the columns of the left one before p, where
-- there is one
pub record IsLeastKey (sums : List ℕ) (width : ℕ) (first : ℤ) (count q p key : ℕ) : Type 0 where
  pub low : (d k : ℕ) → d < count → left_column width first q d ≡ Some k → k < p
      → key ≤ key_of (slice_index sums (k * count + d)) d
  pub some : (key ≡ NO_KEY) ⊎ ((d : ℕ) × ((k : ℕ) × IsKeyOf sums width first count q p key d k))

-- the keys of the columns of the right row from `from` on, which stand from right to left
pub record HoldsKeys (sums : List ℕ) (width : ℕ) (span : Disparities) (from p : ℕ)
    (keys : List ℕ) : Type 0 where
  pub each : (m : ℕ) → m < length keys
      → IsLeastKey sums width span.first span.count (from + (length keys - 1 - m)) p
      (slice_index keys m)
