-- What each kind of step tells the ticket that makes it: of the step, what the ticket knew, the
-- number found, and what it knows then.
use Rattle.std.specs.Prelude.{◌≡◌, ℕ, ◌<◌, ◌≤◌}
use Rattle.atomic_table.specs.Table.{Me, Step}
use Rattle.sgm_draws.specs.Numbers.{times, IsEachOnce}
use Rattle.sgm_draws.specs.Views.{after_draw, after_end}
use Rattle.sgm_draws.specs.declared.view.View.{View}

abbrev pub Known : Type 0
Known = Me (Unit {0}) View

abbrev pub Told : Type 1
Told = Step (Unit {0}) → Known → ℕ → Known → Type 0

-- the ticket has gathered the numbers of all tickets that were made
abbrev pub HasAllOf : View → Type 0
HasAllOf v = (number : ℕ) → number < v.made → 1 ≤ times v.gathered number

-- a number below the count was drawn; or there was none left, and a ticket that has gathered all
-- has all of them
abbrev pub draw_told : Told
draw_told step old found new =
    (found < old.0.count → new ≡ (after_draw old.0 found, old.1))
    × (old.0.count ≤ found
    → (new ≡ (after_end old.0 found, old.1))
    × (HasAllOf old.0 → IsEachOnce old.0.count old.0.drawn))

-- nothing changes; a ticket that has gathered all, and saw the end, has all numbers
abbrev pub check_told : Told
check_told step old found new =
    (new ≡ old) × (HasAllOf old.0 → old.0.count ≤ old.0.seen → IsEachOnce old.0.count old.0.drawn)
