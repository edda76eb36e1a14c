-- The plan of a merge, from one step to the next.
use Rattle.std.proofs.Common.{◌≡◌, ◌∙◌, sym, ap, ℕ, List, Option, None, Some, Result, Ok, Err}
use Rattle.sgm_grid.specs.declared.grid_spec.GridSpec.{GridSpec}
use Rattle.sgm_list.specs.Names.{names_fault, names_in, names_reading, unless_fault}
use Rattle.sgm_list.specs.declared.names.NamesFault.{NamesFault}
use Rattle.sgm_calib.specs.Calibration.{Calibration}
use Rattle.sgm_calib.specs.declared.keys.CalibFault.{CalibFault}
use Rattle.sgm_outcome.specs.declared.outcome.Refusal.{Refusal}
use Rattle.sgm_outcome.specs.declared.outcome.Refusal.TheVariants as refusal
use Rattle.sgm_stages.specs.Judge.{StopsFor}
use Rattle.sgm_stages.specs.Merging.{MergePlan, grid_asked, plan_for}
use Rattle.sgm_stages.specs.Refusals.{or_refused, ◌>>=◌}
use Rattle.sgm_stages.specs.declared.stops.TextsError.{TextsError}
use Rattle.sgm_stages.proofs.Steps.{goes_on, stops_on, stops_along}

-- ---- what comes after each step

abbrev after_grid : List (List ℕ) → Calibration → GridSpec → Result MergePlan Refusal
after_grid n c s = Ok (record { names = n; calib = c; spec = s })

abbrev after_calib : List (List ℕ) → Calibration → Result MergePlan Refusal
after_calib n c = grid_asked c.grid >>= after_grid n c

abbrev after_names : Result Calibration CalibFault → List (List ℕ) → Result MergePlan Refusal
after_names calib n = or_refused refusal.Calib calib >>= after_calib n

to_calib : (names : Result (List (List ℕ)) NamesFault) (calib : Result Calibration CalibFault) (n : List (List ℕ)) → or_refused refusal.List names ≡ Ok n → plan_for names calib ≡ after_names calib n
unfolding plan_for
to_calib names calib n is = goes_on (or_refused refusal.List names) (after_names calib) n is

to_grid : (names : Result (List (List ℕ)) NamesFault) (calib : Result Calibration CalibFault) (n : List (List ℕ)) (c : Calibration) → or_refused refusal.List names ≡ Ok n → or_refused refusal.Calib calib ≡ Ok c
    → plan_for names calib ≡ after_calib n c
to_grid names calib n c is_names is_calib = to_calib names calib n is_names ∙ goes_on (or_refused refusal.Calib calib) (after_calib n) c is_calib

-- ---- the plan, or the stop of a step

pub planned : (names : Result (List (List ℕ)) NamesFault) (calib : Result Calibration CalibFault) (n : List (List ℕ)) (c : Calibration) (s : GridSpec) → or_refused refusal.List names ≡ Ok n → or_refused refusal.Calib calib ≡ Ok c
    → grid_asked c.grid ≡ Ok s → plan_for names calib ≡ Ok (record { names = n; calib = c; spec = s })
planned names calib n c s is_names is_calib is_grid = to_grid names calib n c is_names is_calib ∙ goes_on (grid_asked c.grid) (after_grid n c) s is_grid

pub stop_names : (names : Result (List (List ℕ)) NamesFault) (calib : Result Calibration CalibFault) (stop : TextsError) → StopsFor (or_refused refusal.List names) stop → StopsFor (plan_for names calib) stop
unfolding plan_for
stop_names names calib stop is = stops_on (or_refused refusal.List names) (after_names calib) stop is

pub stop_calib : (names : Result (List (List ℕ)) NamesFault) (calib : Result Calibration CalibFault) (n : List (List ℕ)) (stop : TextsError) → or_refused refusal.List names ≡ Ok n → StopsFor (or_refused refusal.Calib calib) stop
    → StopsFor (plan_for names calib) stop
stop_calib names calib n stop is_names is = stops_along _ _ stop (to_calib names calib n is_names) (stops_on (or_refused refusal.Calib calib) (after_calib n) stop is)

pub stop_grid : (names : Result (List (List ℕ)) NamesFault) (calib : Result Calibration CalibFault) (n : List (List ℕ)) (c : Calibration) (stop : TextsError) → or_refused refusal.List names ≡ Ok n → or_refused refusal.Calib calib ≡ Ok c
    → StopsFor (grid_asked c.grid) stop → StopsFor (plan_for names calib) stop
stop_grid names calib n c stop is_names is_calib is = stops_along _ _ stop (to_grid names calib n c is_names is_calib) (stops_on (grid_asked c.grid) (after_grid n c) stop is)

-- ---- the names of a plan

-- they are those of the list
names_read : (fault : Option NamesFault) (names read : List (List ℕ)) → unless_fault fault names ≡ Ok read → names ≡ read
names_read None names read e = cc
names_read (Some fault) names read e = absurd (cc)

pub names_given : (out bytes : List ℕ) (read : List (List ℕ)) → names_reading out bytes ≡ Ok read → names_in bytes ≡ read
names_given out bytes read e = names_read (names_fault out bytes) (names_in bytes) read e

with_grid : (n : List (List ℕ)) (c : Calibration) (plan : MergePlan) (grid : Option GridSpec) → (grid_asked grid >>= after_grid n c) ≡ Ok plan → n ≡ plan.names
with_grid n c plan None e = absurd (cc)
with_grid n c plan (Some s) e = let same : record { names = n; calib = c; spec = s } ≡ plan = cc in ap (λ (p : MergePlan). p.names) same

plan_names : (names : Result (List (List ℕ)) NamesFault) (calib : Result Calibration CalibFault) (plan : MergePlan) → plan_for names calib ≡ Ok plan → names ≡ Ok plan.names
unfolding plan_for
plan_names (Err fault) calib plan e = absurd (cc)
plan_names (Ok n) (Err fault) plan e = absurd (cc)
plan_names (Ok n) (Ok c) plan e = ap (λ (x : List (List ℕ)). let read : Result (List (List ℕ)) NamesFault = Ok x in read) (with_grid n c plan c.grid e)

pub names_planned : (out bytes : List ℕ) (calib : Result Calibration CalibFault) (plan : MergePlan) → plan_for (names_reading out bytes) calib ≡ Ok plan → plan.names ≡ names_in bytes
names_planned out bytes calib plan e = sym (names_given out bytes plan.names (plan_names (names_reading out bytes) calib plan e))
