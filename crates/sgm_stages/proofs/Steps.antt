-- From one step to the next, and what a stop shows.
use Rattle.std.proofs.Common.{◌≡◌, sym, ap, subst, Result, Ok, Err, MatchResult, IsErrAnd}
use Rattle.sgm_outcome.specs.declared.outcome.Outcome.{Outcome}
use Rattle.sgm_outcome.specs.declared.outcome.Refusal.{Refusal}
use Rattle.sgm_stages.specs.Judge.{StopsFor}
use Rattle.sgm_stages.specs.Ends.{ShownBy}
use Rattle.sgm_stages.specs.Stops.{texts_outcome}
use Rattle.sgm_stages.specs.Refusals.{◌>>=◌}
use Rattle.sgm_stages.specs.Verdict.{Verdict, unless_refused}
use Rattle.sgm_stages.specs.declared.stops.TextsError.{TextsError}
use Rattle.sgm_stages.specs.declared.stops.TextsError.TheVariants.{Refused, NoMemory}

-- a verdict that is another one shows what that one shows
pub shown_along : (v w : Verdict) (outcome : Outcome) → v ≡ w → ShownBy w outcome → ShownBy v outcome
shown_along v w outcome same shown = let P : Verdict → Type 0 = λ x. ShownBy x outcome in subst P (sym same) shown

-- a stop that is wanted is shown by the verdict
pub stop_shown : {T : Type 0} (wanted : Result T Refusal) (next : T → Verdict) (stop : TextsError) → StopsFor wanted stop → ShownBy (unless_refused wanted next) (texts_outcome stop)
stop_shown {T} wanted next (Refused refusal) is = ap (λ (w : Result T Refusal). unless_refused w next) is
stop_shown wanted next NoMemory is = tt

-- what is wanted goes on with a value
pub goes_on : {T U : Type 0} (first : Result T Refusal) (next : T → Result U Refusal) (x : T) → first ≡ Ok x → (first >>= next) ≡ next x
goes_on {T} first next x is = ap (λ (w : Result T Refusal). w >>= next) is

-- a step that stops stops all
pub stops_on : {T U : Type 0} (first : Result T Refusal) (next : T → Result U Refusal) (stop : TextsError) → StopsFor first stop → StopsFor (first >>= next) stop
stops_on {T} first next (Refused refusal) is = ap (λ (w : Result T Refusal). w >>= next) is
stops_on first next NoMemory is = tt

pub stops_along : {T : Type 0} (v w : Result T Refusal) (stop : TextsError) → v ≡ w → StopsFor w stop → StopsFor v stop
stops_along {T} v w stop same is = let P : Result T Refusal → Type 0 = λ x. StopsFor x stop in subst P (sym same) is

-- a stop that is handed on
pub handed_on : {T R : Type 0} (P : R → Type 0) (wanted : Result T Refusal) (r : Result R TextsError) (stop : TextsError) → IsErrAnd r (λ e. e ≡ stop) → StopsFor wanted stop → MatchResult r P (StopsFor wanted)
handed_on P wanted (Ok x) stop is for = absurd is
handed_on P wanted (Err e) stop is for = let Q : TextsError → Type 0 = λ s. StopsFor wanted s in subst Q (sym is) for
