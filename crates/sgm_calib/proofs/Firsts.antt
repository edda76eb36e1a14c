-- The first fault of a list of checks.
use Rattle.std.proofs.Common.{◌≡◌, List, [], ◌∷◌, ◌++◌, IsTrue, is_none, Option, Some, None, refl, ap}
use Rattle.std.specs.List.{list_all}
use Rattle.sgm_calib.specs.Checks.{first_of, IsFirst}
use Rattle.sgm_calib.specs.declared.keys.CalibFault.{CalibFault}

pub IsFirst-from_first_of : (checks : List (Option CalibFault)) (fault : CalibFault) → first_of checks ≡ Some fault → IsFirst checks fault
IsFirst-from_first_of [] fault found = absurd (cc)
IsFirst-from_first_of (None ∷ checks) fault found =
    let later = IsFirst-from_first_of checks fault found in
    (None ∷ later.0, later.1, ap (λ cs. None ∷ cs) later.2, later.3)
IsFirst-from_first_of (Some first ∷ checks) fault found =
    let same : first ≡ fault = cc in
    ([], checks, ap (λ f. Some f ∷ checks) same, refl)

pub first_of-past : (before after : List (Option CalibFault)) (fault : CalibFault) → IsTrue (list_all is_none before)
    → first_of (before ++ Some fault ∷ after) ≡ Some fault
first_of-past [] after fault passed = refl
first_of-past (None ∷ before) after fault passed = first_of-past before after fault passed
first_of-past (Some first ∷ before) after fault passed = absurd (cc)
