-- Marks of the pixels that floods have entered, for the contracts of private functions.
use Rattle.std.specs.Prelude.{◌≡◌, ℕ, ◌+◌, Bool, true, false, ◌⊎◌, List, ◌++◌, length, Option}
use Rattle.std.specs.Prelude.{slice_index_or}
use Rattle.std.specs.List.{Contains, count_by}
use Rattle.sgm_refine.specs.Segments.{value_of, is_linked, goes, segment, kept_at}

abbrev pub IsMarked : List Bool → ℕ → Type 0
IsMarked marks k = slice_index_or marks k false ≡ true

-- how many pixels are marked
abbrev pub marked : List Bool → ℕ
marked marks = count_by (λ mark. mark) marks

-- what is linked to a marked pixel is marked
abbrev pub IsClosed : ℕ → List (Option ℕ) → List Bool → Type 0
IsClosed width entries marks = (j k : ℕ) → IsMarked marks j → is_linked width entries j k ≡ true
    → IsMarked marks k

-- Marks while a flood from p is under way that began with the marks `before`, and the pixels found
-- so far: those marked since, each reached by a chain from p.
pub record IsFlooding (width : ℕ) (entries : List (Option ℕ)) (p : ℕ) (before marks : List Bool)
    (found : List ℕ) : Type 0 where
  pub whole : length marks ≡ length entries
  pub stays : (k : ℕ) → IsMarked before k → IsMarked marks k
  pub fresh : (k : ℕ) → Contains found k → ¬ IsMarked before k
  pub entered : (k : ℕ) → Contains found k → IsMarked marks k
  pub only : (k : ℕ) → IsMarked marks k → IsMarked before k ⊎ Contains found k
  pub reached : (k : ℕ) → Contains found k → goes width entries (length entries) p k ≡ true
  pub counted : marked marks ≡ marked before + length found

-- what a visit of the pixel `at` makes of marks and of the pixels found: pixels linked to it may be
-- entered
pub record Enters (width : ℕ) (entries : List (Option ℕ)) (at : ℕ) (old marks : List Bool)
    (found now : List ℕ) : Type 0 where
  pub stays : (k : ℕ) → IsMarked old k → IsMarked marks k
  pub longer : (more : List ℕ) × (now ≡ found ++ more)
  pub flooding : (p : ℕ) (before : List Bool) → Contains found at
      → IsFlooding width entries p before old found
      → IsFlooding width entries p before marks now

-- what a flood from p, which wasn't marked, makes of the marks: the pixels found are its segment,
-- and they are marked besides
pub record IsFlooded (width : ℕ) (entries : List (Option ℕ)) (p : ℕ) (before marks : List Bool)
    (found : List ℕ) : Type 0 where
  pub flooding : IsFlooding width entries p before marks found
  pub first : Contains found p
  pub closed : IsClosed width entries marks
  pub size : length found ≡ length (segment width entries p)

-- Marked pixels have what is kept of the map, the others what they have in it.
pub record IsKeeping (width : ℕ) (entries : List (Option ℕ)) (least : ℕ) (marks : List Bool)
    (kept : List (Option ℕ)) : Type 0 where
  pub whole : length marks ≡ length entries
  pub full : length kept ≡ length entries
  pub closed : IsClosed width entries marks
  pub done : (k : ℕ) → IsMarked marks k → value_of kept k ≡ kept_at width entries least k
  pub rest : (k : ℕ) → ¬ IsMarked marks k → value_of kept k ≡ value_of entries k
