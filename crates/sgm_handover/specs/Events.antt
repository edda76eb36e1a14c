-- The four events: where each is legal, what it changes, and lists of them.
use Rattle.std.specs.Prelude.{◌≡◌, ℕ, ◌+◌, ◌<◌, false, List, [], ◌∷◌, ◌++◌, length, take, map, find}
use Rattle.std.specs.Prelude.{fold, slice_get, IfSome, is_some, option_to_list, ◌==◌, Option, Some}
use Rattle.std.specs.Prelude.{None, if◌then◌else◌}
use Rattle.std.specs.List.{range_with_len}
use Rattle.sgm_energy.specs.declared.dir.Dir.{Dir}
use Rattle.sgm_energy.specs.Dirs.{is_level, number_of, strip_at}
use Rattle.sgm_handover.specs.Handover.{Handover, fresh, next, Holds, HoldsNext, HoldsNoStrip}
use Rattle.sgm_handover.specs.Handover.{HasNoFront, is_worker, changed}
use Rattle.sgm_handover.specs.declared.event.Event.{Event}
use Rattle.sgm_handover.specs.declared.event.Event.TheVariants.{Claim, Take, Put, Return}

-- the condition of an event
abbrev pub Legal : Handover → Event → Type 0
Legal m (Claim worker strip) = (strip < m.strips) × (m.holder strip ≡ None) × HoldsNoStrip m worker
Legal m (Take worker dir) = (is_level dir ≡ false) × HoldsNext m worker dir × (m.away dir ≡ None)
    × HasNoFront m worker
Legal m (Put worker dir) = (is_level dir ≡ false) × (m.away dir ≡ Some worker)
Legal m (Return worker) = ((strip : ℕ) × Holds m worker strip) × HasNoFront m worker

-- its effect
abbrev pub after : Handover → Event → Handover
after m (Claim worker strip) = record m { holder = changed (λ s. s) m.holder strip (Some worker) }
after m (Take worker dir) = record m { away = changed number_of m.away dir (Some worker) }
after m (Put worker dir) =
    record m {
      passed = changed number_of m.passed dir (m.passed dir + 1);
      away = changed number_of m.away dir None;
    }
after m (Return worker) =
    record m {
      holder = λ strip. if is_worker worker (m.holder strip) then None
          else m.holder strip;
    }

-- the state after a list of events, one after the other
abbrev pub run : Handover → List Event → Handover
run m events = fold after m events

-- the event at k is legal in the state that the earlier ones leave
abbrev pub LegalAt : Handover → List Event → ℕ → Type 0
LegalAt m events k = IfSome (slice_get events k) (Legal (run m (take k events)))

-- each event is
abbrev pub AllLegal : Handover → List Event → Type 0
AllLegal m events = (k : ℕ) → k < length events → LegalAt m events k

-- the event at k is the first that is not
pub record FirstIllegal (m : Handover) (events : List Event) (k : ℕ) : Type 0 where
  pub inside : k < length events
  pub illegal : ¬ LegalAt m events k
  pub earlier : (j : ℕ) → j < k → LegalAt m events j

-- the strip that a worker holds
abbrev pub strip_of : Handover → ℕ → Option ℕ
strip_of m worker = find (λ strip. is_worker worker (m.holder strip)) (range_with_len 0 m.strips)

-- the strip that the worker of an event holds, where that is a Take of dir
abbrev pub taken_at : Handover → Dir → Event → List ℕ
taken_at m dir (Take worker other) = if number_of other == number_of dir
    then option_to_list (strip_of m worker) else []
taken_at m dir _ = []

-- the strips that the workers of the Take events of dir hold at these events, in order
abbrev pub taken : Handover → Dir → List Event → List ℕ
taken m dir [] = []
taken m dir (event ∷ events) = taken_at m dir event ++ taken (after m event) dir events

-- the strips of the positions 0, 1, 2 .. below k in a direction
abbrev pub strips_below : Dir → ℕ → ℕ → List ℕ
strips_below dir strips k = map (λ position. strip_at dir position strips) (range_with_len 0 k)

-- how many strips the front of a direction has passed, and one more where it is away
abbrev pub begun : Handover → Dir → ℕ
begun m dir = m.passed dir + (if is_some (m.away dir) then 1 else 0)

-- the front of each direction was taken at the strips of the positions 0, 1, 2 .. in order
abbrev pub TakenInOrder : Handover → List Event → Type 0
TakenInOrder m events =
    (dir : Dir) → is_level dir ≡ false
    → taken (fresh m.strips) dir events ≡ strips_below dir m.strips (begun m dir)

-- where no strip is held, anyone may claim the strip that a front goes through next, and then take
-- the front
abbrev pub GoesOn : Handover → Type 0
GoesOn m =
    ((strip : ℕ) → strip < m.strips → m.holder strip ≡ None) → (dir : Dir) (worker : ℕ)
    → is_level dir ≡ false → m.passed dir < m.strips
    → Legal m (Claim worker (next m dir))
    × Legal (after m (Claim worker (next m dir))) (Take worker dir)
