-- What the penalty of a change by more than one is at least and at most.
use Rattle.std.proofs.Common.{ℕ, ◌≤◌, ◌/◌, max, Bool, true, false, if◌then◌else◌, Option, Some, None, arith}
use Rattle.std.proofs.Math.Nat.{div-le_self, le-max_left, max-le}
use Rattle.std.specs.Int.{abs_diff}
use Rattle.sgm_energy.specs.Pens.{Penalties, adapted, far_of}

adapted-ordered : (p1 p2 : ℕ) (here before : Option ℕ) → p1 ≤ p2 → p1 ≤ adapted p1 p2 here before
adapted-ordered p1 p2 (Some here) (Some before) le = le-max_left p1 (p2 / max 1 (abs_diff here before))
adapted-ordered p1 p2 (Some here) None le = le
adapted-ordered p1 p2 None before le = le

adapted-limited : (p1 p2 : ℕ) (here before : Option ℕ) → p1 ≤ p2 → adapted p1 p2 here before ≤ p2
adapted-limited p1 p2 (Some here) (Some before) le = max-le le (div-le_self p2 (max 1 (abs_diff here before)))
adapted-limited p1 p2 (Some here) None le = omega arith
adapted-limited p1 p2 None before le = omega arith

-- whichever of the two is chosen
chosen-at_least : (b : Bool) (low x y : ℕ) → low ≤ x → low ≤ y → low ≤ (if b then x else y)
chosen-at_least true low x y hx hy = hx
chosen-at_least false low x y hx hy = hy

chosen-at_most : (b : Bool) (high x y : ℕ) → x ≤ high → y ≤ high → (if b then x else y) ≤ high
chosen-at_most true high x y hx hy = hx
chosen-at_most false high x y hx hy = hy

pub far-ordered : (penalties : Penalties) (here before : Option ℕ) → penalties.p1 ≤ penalties.p2 → penalties.p1 ≤ far_of penalties here before
far-ordered penalties here before le =
    chosen-at_least penalties.adaptive penalties.p1 (adapted penalties.p1 penalties.p2 here before) penalties.p2 (adapted-ordered penalties.p1 penalties.p2 here before le) le

pub far-limited : (penalties : Penalties) (here before : Option ℕ) → penalties.p1 ≤ penalties.p2 → far_of penalties here before ≤ penalties.p2
far-limited penalties here before le =
    chosen-at_most penalties.adaptive penalties.p2 (adapted penalties.p1 penalties.p2 here before) penalties.p2 (adapted-limited penalties.p1 penalties.p2 here before le) (omega arith)
