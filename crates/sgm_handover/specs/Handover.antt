-- The state of the hand-over: who holds which strip, who has which front, and how many strips each
-- front has passed.
use Rattle.std.specs.Prelude.{◌≡◌, ◌≢◌, ℕ, ◌<◌, ◌≤◌, ◌==◌, Bool, false, Option, Some, None}
use Rattle.std.specs.Prelude.{if◌then◌else◌}
use Rattle.sgm_energy.specs.declared.dir.Dir.{Dir}
use Rattle.sgm_energy.specs.Dirs.{is_level, strip_at}

-- Strips have the numbers below `strips`, and each direction that is not level has a front: how
-- many strips it has passed, and the worker that has it, if any. A strip has the worker that holds
-- it, if any.
pub record Handover : Type 0 where
  pub strips : ℕ
  pub passed : Dir → ℕ
  pub away : Dir → Option ℕ
  pub holder : ℕ → Option ℕ

-- before the first event
abbrev pub fresh : ℕ → Handover
fresh strips = record { strips = strips; passed = λ _. 0; away = λ _. None; holder = λ _. None }

-- the strip that the front of a direction goes through next
abbrev pub next : Handover → Dir → ℕ
next m dir = strip_at dir (m.passed dir) m.strips

-- the worker holds this strip
abbrev pub Holds : Handover → ℕ → ℕ → Type 0
Holds m worker strip = (strip < m.strips) × (m.holder strip ≡ Some worker)

-- there is a strip that the front has not passed, and the worker holds the one that comes next
abbrev pub HoldsNext : Handover → ℕ → Dir → Type 0
HoldsNext m worker dir = (m.passed dir < m.strips) × (m.holder (next m dir) ≡ Some worker)

abbrev pub HoldsNoStrip : Handover → ℕ → Type 0
HoldsNoStrip m worker = (strip : ℕ) → strip < m.strips → m.holder strip ≢ Some worker

abbrev pub HasNoFront : Handover → ℕ → Type 0
HasNoFront m worker = (dir : Dir) → is_level dir ≡ false → m.away dir ≢ Some worker

-- no front has passed more strips than there are, no worker has two strips or two fronts, and who
-- has a front holds the strip that it goes through next
pub record Sound (m : Handover) : Type 0 where
  pub in_range : (dir : Dir) → is_level dir ≡ false → m.passed dir ≤ m.strips
  pub one_strip : (a b worker : ℕ) → Holds m worker a → Holds m worker b → a ≡ b
  pub one_front : (a b : Dir) (worker : ℕ) → is_level a ≡ false → is_level b ≡ false
      → m.away a ≡ Some worker → m.away b ≡ Some worker → a ≡ b
  pub beside : (dir : Dir) (worker : ℕ) → is_level dir ≡ false → m.away dir ≡ Some worker
      → HoldsNext m worker dir

-- whether this is the worker
abbrev pub is_worker : ℕ → Option ℕ → Bool
is_worker worker None = false
is_worker worker (Some other) = other == worker

-- the map f, with x at k. Keys are told apart by their numbers
abbrev pub changed : {K A : Type 0} → (K → ℕ) → (K → A) → K → A → K → A
changed number f k x j = if number j == number k then x else f j
