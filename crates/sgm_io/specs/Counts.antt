-- Counts of faults, whose last value is 2 ^ 64 - 1.
use Rattle.std.specs.Prelude.{◌≡◌, ◌⊎◌, ℕ, ◌+◌, ◌-◌, ◌^◌, ◌<◌, ◌≤◌, List, if◌then◌else◌}
use Rattle.std.specs.Str.{bytes_eq}

-- the count is greater than before, or stands at its last value
abbrev pub Rose : ℕ → ℕ → Type 0
Rose before now = (before < now) ⊎ (now ≡ 2 ^ 64 - 1)

-- a count for each name
abbrev pub Counts : Type 0
Counts = List ℕ → ℕ

-- no count fell
pub record NoneFell (before now : Counts) : Type 0 where
  pub at : (name : List ℕ) → before name ≤ now name

-- no count fell, and that of this name rose
pub record RoseAt (name : List ℕ) (before now : Counts) : Type 0 where
  pub none_fell : NoneFell before now
  pub rose : Rose (before name) (now name)

-- no call has failed yet
abbrev pub no_faults : Counts
no_faults name = 0

-- that of this name is one more, and every other as it was
unfoldable pub one_more : List ℕ → Counts → Counts
one_more name counts other = if bytes_eq other name then counts other + 1 else counts other
