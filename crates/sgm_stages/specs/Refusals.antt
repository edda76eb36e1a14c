-- From readings on: what comes next, or the first refusal.
use Rattle.std.specs.Prelude.{Option, None, Some, Result, Ok, Err}
use Rattle.sgm_outcome.specs.declared.outcome.Refusal.{Refusal}

-- what is read, or the refusal for its fault
abbrev pub or_refused : {T F : Type 0} → (F → Refusal) → Result T F → Result T Refusal
or_refused refusal (Ok value) = Ok value
or_refused refusal (Err fault) = Err (refusal fault)

-- what comes next of a value; a refusal stays
infixl 10 ◌>>=◌
abbrev pub ◌>>=◌ : {T U : Type 0} → Result T Refusal → (T → Result U Refusal) → Result U Refusal
Ok value >>= next = next value
Err refusal >>= next = Err refusal

-- a value, unless there is a refusal
abbrev pub unless : {T : Type 0} → Option Refusal → T → Result T Refusal
unless None value = Ok value
unless (Some refusal) value = Err refusal
