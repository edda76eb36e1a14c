use Rattle.std.proofs.Common.{◌≡◌, ◌<◌, ◌≤◌, ℕ, Option, get_or, length}
use Rattle.std.specs.Option.{option_or}
use Rattle.sgm_threads.proofs.sharing.put_own.Given as goal

-- the places before k are done, and the others as they were
abbrev pub invariant-loop-k : goal.invariant-loop-k
invariant-loop-k g l = record {
  own_count : length l.own.items ≡ length l.initial.own.items;
  count : length l.places ≡ length l.initial.places;
  own_left : (j : ℕ) (d : Option g.row.X.Denot) → l.k ≤ j → get_or l.own.items j d ≡ get_or l.initial.own.items j d;
  left : (j : ℕ) (d : Option g.row.X.Denot) → l.k ≤ j → get_or l.places j d ≡ get_or l.initial.places j d;
  done : (j : ℕ) (d : Option g.row.X.Denot) → j < l.k → get_or l.places j d ≡ option_or (get_or l.initial.own.items j d) (get_or l.initial.places j d);
}
